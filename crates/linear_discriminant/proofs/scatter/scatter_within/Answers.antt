-- `linear_discriminant::scatter::scatter_within` meets its contract: a column of rows written from the front.
use borrow.Author.Rules.{rules}
use Rattle.folds.proofs.Writing.{writing_done}
use Rattle.linear_discriminant.specs.Inner.Passes.{within_table}
use Rattle.linear_discriminant.proofs.scatter.scatter_within.Goals as goal

pub returns : goal.returns
unfolding within_table
returns c = writing_done c.loop-j.invariant (search rules)
