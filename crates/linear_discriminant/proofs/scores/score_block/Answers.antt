-- `linear_discriminant::scores::score_block` meets its contract: the column is written from the front, in each turn
-- with what a walk over the row's twenty numbers leaves.
use borrow.Author.Rules.{rules}
use Rattle.folds.proofs.Walks.{step, done}
use Rattle.folds.proofs.Writing.{writing_step, writing_done}
use Rattle.linear_discriminant.specs.Rows.{scored}
use Rattle.linear_discriminant.proofs.scores.score_block.Goals as goal

pub loop-j-preserved : goal.loop-j-preserved
loop-j-preserved c = step c.loop-j.invariant (search rules)

pub loop-i-preserved : goal.loop-i-preserved
unfolding scored
loop-i-preserved c = writing_step c.loop-i.invariant (search rules) (done c.loop-j.invariant (search rules))

pub returns : goal.returns
returns c = writing_done c.loop-i.invariant (search rules)
