-- `competition::batch::slots_allowed` meets its contract: `all` answers for the slots passed (`Asking`).
use borrow.Author.Rules.{rules}
use Rattle.competition.proofs.Slots.{asking_step, asking_done}
use Rattle.competition.proofs.batch.slots_allowed.Goals as goal

pub loop-slot-preserved : goal.loop-slot-preserved
loop-slot-preserved c = asking_step c.loop-slot.invariant (search rules) c.slot_allowed-all.ensures

pub returns : goal.returns
returns c = asking_done c.loop-slot.invariant (search rules)
