-- `gauss::clear_above` meets its contract. The loop is the walk of `cleared_above` over the rows above i.
use Rattle.gauss.specs.Elimination.{clear_row_above}
use Rattle.gauss.proofs.PartWalks.{PartWalk}
use Rattle.gauss.proofs.clear_above.Given as goal

abbrev pub invariant-loop-row : goal.invariant-loop-row
invariant-loop-row l =
    PartWalk (clear_row_above l.p l.fn.size.rows l.j) 0 l.i l.i l.fn.m l.row-items l.row-index
