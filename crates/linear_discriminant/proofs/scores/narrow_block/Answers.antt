-- `linear_discriminant::scores::narrow_block` meets its contract: the column is written from the front (`Writing`).
use borrow.Author.Rules.{rules}
use Rattle.folds.proofs.Writing.{writing_done}
use Rattle.linear_discriminant.proofs.scores.narrow_block.Goals as goal

pub returns : goal.returns
returns c = writing_done c.loop-i.invariant (search rules)
