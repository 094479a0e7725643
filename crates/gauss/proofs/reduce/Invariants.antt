-- `gauss::reduce` meets its contract. The rows are walked from the last up (`WalkDown`), each along its columns
-- (`RowWalk`) until the first nonzero entry.
use Rattle.folds.proofs.Walks.{WalkDown}
use Rattle.gauss.proofs.RowWalks.{RowWalk}
use Rattle.gauss.specs.Elimination.{at_first_nonzero, divide_row}
use Rattle.gauss.proofs.reduce.Given as goal

abbrev pub invariant-loop-j : goal.invariant-loop-j
invariant-loop-j l = RowWalk l.fn.size.rows l.i l.j l.initial.m l.m

abbrev pub invariant-rows : goal.invariant-rows
invariant-rows l =
    let size = l.fn.size.rows in
    WalkDown (at_first_nonzero (divide_row size) size) l.i size l.initial.m l.m
