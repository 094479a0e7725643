-- `linear_discriminant::scores::score_rows` meets its contract: the questions' answer picks what is answered and left.
use Rattle.linear_discriminant.specs.Scores.{scored_rows}
use Rattle.linear_discriminant.proofs.scores.score_rows.Goals as goal

pub returns-in-Err : goal.returns-in-Err
unfolding scored_rows
returns-in-Err c =
    rw (c.blank.ensures, c.blank-in-Err.ensures, ← c.ask.ensures, c.in-Err.is)

pub returns : goal.returns
unfolding scored_rows
returns c =
    rw (c.score_all.ensures.scores, c.score_all.ensures.narrowed, ← c.ask.ensures, c.in_default.is)
