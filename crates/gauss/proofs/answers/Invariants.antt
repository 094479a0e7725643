-- `gauss::answers` meets its contract. The loop is the walk of `values`, from the row of zeros.
use lib.ListN.{set}
use Rattle.folds.proofs.Walks.{Walk}
use Rattle.gauss.specs.Elimination.{entry}
use Rattle.gauss.proofs.answers.Given as goal

abbrev pub invariant-loop-i : goal.invariant-loop-i
invariant-loop-i l = Walk (λ i' v. set v i' (entry l.m i' 20)) 0 l.i l.fn.size.rows l.initial.out l.out
