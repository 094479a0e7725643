-- `gauss::clear_below` meets its contract. The loop is the walk of `cleared_below` over the rows below h.
use Prim.Native.Nat.{◌+◌, ◌-◌}
use Rattle.gauss.specs.Elimination.{clear_row}
use Rattle.gauss.proofs.PartWalks.{PartWalk}
use Rattle.gauss.proofs.clear_below.Given as goal

abbrev pub invariant-loop-row : goal.invariant-loop-row
invariant-loop-row l =
    let n = l.fn.size.rows in
    PartWalk (clear_row l.p n l.k) (l.h + 1) (n - (l.h + 1)) n l.fn.m l.row-items l.row-index
