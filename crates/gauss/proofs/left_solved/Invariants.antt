-- `gauss::left_solved` meets its contract. The invariants (`Passing`): every row, and every entry of the row, before
-- this one passes.
use Rattle.gauss.specs.Elimination.{entry, solved_at, solved_row}
use lib.Dec.{eqb}
use Rattle.folds.proofs.Walks.{Passing}
use Rattle.gauss.proofs.left_solved.Given as goal

abbrev pub invariant-loop-j : goal.invariant-loop-j
invariant-loop-j l = Passing (λ j'. solved_at (eqb l.i j') (entry l.m l.i j')) l.j l.fn.size.rows

abbrev pub invariant-loop-i : goal.invariant-loop-i
invariant-loop-i l = Passing (solved_row l.fn.size.rows l.m) l.i l.fn.size.rows
