-- `gauss::subtract` meets its contract. The loop is the walk of `subtracted` along the row.
use Rattle.folds.proofs.Walks.{Walk}
use Rattle.gauss.specs.Inner.Rows.{subtract_at}
use Rattle.gauss.proofs.subtract.Given as goal

abbrev pub invariant-loop-c : goal.invariant-loop-c
invariant-loop-c l = Walk (subtract_at l.p l.factor) l.j l.c l.fn.size.rows l.initial.row l.row
