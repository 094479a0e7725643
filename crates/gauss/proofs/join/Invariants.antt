-- `gauss::join` meets its contract. The loop is the walk of `joined` over the rows of the system.
use lib.ListN.{replicate}
use Rattle.floats.specs.Constants.{f64_zero}
use Rattle.gauss.specs.Solutions.{join_row}
use Rattle.gauss.proofs.PartWalks.{PartWalk}
use Rattle.gauss.proofs.join.Given as goal

abbrev pub invariant-loop-i : goal.invariant-loop-i
invariant-loop-i l =
    let n = l.size.rows in
    PartWalk (join_row l.left l.right n) 0 n n (replicate 20 (replicate 21 f64_zero)) l.row-items l.i
