-- `gauss::echelon` meets its contract. The loop is the walk of `echeloned` over the columns, with h and the table for
-- its state, and h is at most k.
use Prim.Native.Nat.{◌≤◌}
use Rattle.folds.proofs.Walks.{Walk}
use Rattle.gauss.specs.Elimination.{echelon_column}
use Rattle.gauss.proofs.echelon.Given as goal

abbrev pub invariant-loop-k : goal.invariant-loop-k
invariant-loop-k l =
    let size = l.fn.size.rows in
    Walk (echelon_column size) 0 l.k size (l.initial.h, l.initial.m) (l.h, l.m) × (l.h ≤ l.k)
