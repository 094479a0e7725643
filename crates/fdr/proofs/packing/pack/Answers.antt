-- `fdr::packing::pack` meets its contract: the keys so far are those of the slots passed (`Packing`).
use mathlib.Core.Path.{◌∙◌}
use Rattle.fdr.proofs.SidesPacked.{packing_step, packing_done}
use borrow.Author.Rules.{rules}
use Rattle.fdr.proofs.packing.pack.Goals as goal

pub loop-slot-preserved : goal.loop-slot-preserved
loop-slot-preserved c =
    packing_step _ c.loop-slot.invariant (search rules)
    (rw (← c.table.view_is) c.side_key-forward_key.ensures.score) (rw (← c.table.view_is) c.side_key-reverse_key.ensures.score)
    c.side_key-forward_key.result c.put-rows.result c.put-rows.new.keys
    (rw (← c.table.view_is) c.side_key-forward_key.ensures.key) c.put-rows.ensures.few
    (rw (← c.table.view_is) (rw c.is_seen-forward_seen.ensures at c.put-rows.ensures.keys))
    c.side_key-reverse_key.result c.put-rows-in-loop-slot.result c.put-rows-in-loop-slot.new.keys
    (rw (← c.table.view_is) c.side_key-reverse_key.ensures.key) c.put-rows-in-loop-slot.ensures.few
    (rw (← c.table.view_is) (rw c.is_seen-reverse_seen.ensures at c.put-rows-in-loop-slot.ensures.keys))
    (c.put-rows-in-loop-slot.auto.keys ∙ c.put-rows.auto.keys)

pub returns-clause-keys : goal.returns-clause-keys
returns-clause-keys c = packing_done _ c.loop-slot.invariant (rw (← c.table.view_is) (search rules))
