-- `competition::winners` meets its contract: the questions' answer picks what is answered and left.
use Rattle.competition.specs.Winners.{winners}
use Rattle.competition.proofs.winner.winners.Goals as goal

pub returns-in-Err : goal.returns-in-Err
unfolding winners
returns-in-Err c =
    rw (c.blank.ensures, c.blank-in-Err.ensures, ← c.ask_winners.ensures, c.in-Err.is)

pub returns : goal.returns
unfolding winners
returns c =
    rw (c.write_winners.ensures.scores, c.write_winners.ensures.flags, ← c.ask_winners.ensures, c.in_default.is)
