-- `competition::winner::write_winners` meets its contract: a turn writes one slot's score and flag (`Slotwise`).
use mathlib.Core.Path.{ap}
use mathlib.Core.Bool.{not}
use borrow.Author.Rules.{rules}
use Rattle.competition.proofs.Slotwise.{slotwise_seen, slotwise_done}
use Rattle.competition.proofs.winner.write_winners.Goals as goal

pub loop-slot-preserved : goal.loop-slot-preserved
loop-slot-preserved c =
    rw (c.blank.ensures, c.blank-in-loop-slot.ensures, c.from.ensures)
    (slotwise_seen c.loop-slot.invariant (search rules)
    (rw (c.is_seen.ensures, c.is_seen-in-loop-slot.ensures, ← c.table.view_is)) (ap not c.if-not-is_seen.false) _
    (rw (c.score.ensures, ← c.table.view_is)) (rw (c.is_decoy.ensures, ← c.table.view_is)))

pub returns : goal.returns
returns c =
    let w = slotwise_done c.loop-slot.invariant (search rules) in
    record { scores = w.0; flags = w.1 }
