-- `competition::winner::write_winners` meets its contract: a turn writes one slot's score and flag (`Slotwise`).
use Rattle.competition.proofs.Slotwise.{Slotwise}
use Rattle.competition.proofs.winner.write_winners.Given as goal

abbrev pub invariant-loop-slot : goal.invariant-loop-slot
invariant-loop-slot l = Slotwise l.table l.scores l.is_decoy l.slot
