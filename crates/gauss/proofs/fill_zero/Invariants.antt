-- `gauss::fill_zero` meets its contract. The loop is the walk of `diagonal_filled`.
use Rattle.folds.proofs.Walks.{Walk}
use Rattle.gauss.specs.Elimination.{add_eps}
use Rattle.gauss.proofs.fill_zero.Given as goal

abbrev pub invariant-loop-i : goal.invariant-loop-i
invariant-loop-i l = Walk (add_eps l.eps) 0 l.i l.fn.size.rows l.initial.m l.m
