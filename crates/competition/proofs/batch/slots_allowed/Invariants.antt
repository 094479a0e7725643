-- `competition::batch::slots_allowed` meets its contract: `all` answers for the slots passed (`Asking`).
use Rattle.competition.proofs.Slots.{Asking}
use Rattle.competition.proofs.batch.slots_allowed.Given as goal

abbrev pub invariant-loop-slot : goal.invariant-loop-slot
invariant-loop-slot l = Asking l.count l.slots l.all l.slot-index
