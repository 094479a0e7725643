-- `linear_discriminant::scores::narrow_block` meets its contract: the column is written from the front (`Writing`).
use lib.ListN.{length}
use lib.Ieee.{nan}
use Rattle.folds.proofs.Writing.{Writing}
use Rattle.linear_discriminant.specs.Inner.Blocks.{narrowed_score}
use Rattle.linear_discriminant.proofs.scores.narrow_block.Given as goal

abbrev pub invariant-loop-i : goal.invariant-loop-i
invariant-loop-i l = Writing (narrowed_score l.scores) nan (length l.initial.narrowed) l.narrowed l.i
