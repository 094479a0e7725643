-- `gauss::pivot_row` meets its contract. The loop is the walk of `pivot_row` from row h, and the row picked is below
-- the size; the measure is what is left of the size.
use Prim.Native.Nat.{◌<◌, ◌-◌}
use Rattle.folds.proofs.Walks.{Walk}
use Rattle.gauss.specs.Elimination.{larger}
use Rattle.gauss.proofs.pivot_row.Given as goal

abbrev pub invariant-loop-i : goal.invariant-loop-i
invariant-loop-i l = Walk (larger l.m l.k) l.h l.i l.fn.size.rows l.initial.max l.max × (l.max.row < l.fn.size.rows)

abbrev pub decreases-loop-i : goal.decreases-loop-i
decreases-loop-i l = l.fn.size.rows - l.i
