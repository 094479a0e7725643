-- `linear_discriminant::scores::score` meets its contract: a sum of products over two rows side by side (`Pairs`).
use Rattle.linear_discriminant.proofs.Products.{Pairs}
use Rattle.linear_discriminant.proofs.scores.score.Given as goal

abbrev pub invariant-loop-w : goal.invariant-loop-w
invariant-loop-w l = Pairs l.coefficients l.row l.w-iterator.a.rest.now l.w-iterator.b.rest.now l.sum
