-- `linear_discriminant::scores::score` meets its contract: a sum of products over two rows side by side (`Pairs`).
use borrow.Author.Rules.{rules}
use Rattle.linear_discriminant.proofs.Products.{pairs_step, one_ended, pairs_done}
use Rattle.linear_discriminant.proofs.scores.score.Goals as goal

pub loop-w-preserved : goal.loop-w-preserved
loop-w-preserved c = pairs_step c.told-coefficients c.loop-w.invariant c.in-Some.ensures.steps.0 c.in-Some.ensures.steps.1 (search rules)

pub returns : goal.returns
returns c = pairs_done c.told-coefficients c.loop-w.invariant c.told-row (one_ended c.in-None.ensures.steps)
