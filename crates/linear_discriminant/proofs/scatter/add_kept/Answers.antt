-- `linear_discriminant::scatter::add_kept` meets its contract: a walk over the wide pairs of rows, and one over the
-- others.
use mathlib.Core.Path.{◌∙◌, ap}
use borrow.Author.Rules.{rules}
use Rattle.folds.specs.Walks.{for_range}
use Rattle.linear_discriminant.specs.Inner.Passes.{kept_added}
use Rattle.linear_discriminant.proofs.Accumulated.{evens_step, evens_done}
use Rattle.linear_discriminant.proofs.scatter.add_kept.Goals as goal

pub loop-j-preserved : goal.loop-j-preserved
loop-j-preserved c = evens_step c.loop-j.invariant (search rules) c.add_pair.ensures

pub loop-j-2-preserved : goal.loop-j-2-preserved
loop-j-2-preserved c = evens_step c.loop-j-2.invariant (search rules) c.add_pair-in-loop-j-2.ensures

pub returns : goal.returns
unfolding kept_added
returns c = evens_done c.loop-j-2.invariant (search rules) ∙ ap (for_range _ 5 10) (evens_done c.loop-j.invariant (search rules))
