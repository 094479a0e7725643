-- `linear_discriminant::scores::score_block` meets its contract: the column is written from the front, in each turn
-- with what a walk over the row's twenty numbers leaves.
use lib.ListN.{length}
use lib.Ieee.{nan}
use Rattle.folds.proofs.Walks.{Walk}
use Rattle.folds.proofs.Writing.{Writing}
use Rattle.linear_discriminant.specs.Rows.{feature, add_product}
use Rattle.linear_discriminant.specs.Scores.{score_at}
use Rattle.linear_discriminant.proofs.scores.score_block.Given as goal

abbrev pub invariant-loop-j : goal.invariant-loop-j
invariant-loop-j l = Walk (add_product l.coefficients (feature l.features l.i)) 0 l.j 20 l.initial.sum l.sum

abbrev pub invariant-loop-i : goal.invariant-loop-i
invariant-loop-i l = Writing (score_at l.coefficients l.features) nan (length l.initial.scores) l.scores l.i
