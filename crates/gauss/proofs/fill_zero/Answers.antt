-- `gauss::fill_zero` meets its contract. The loop is the walk of `diagonal_filled`.
use Rattle.folds.proofs.Walks.{step, done}
use Rattle.gauss.specs.Elimination.{diagonal_filled}
use borrow.Author.Rules.{rules}
use Rattle.gauss.proofs.fill_zero.Goals as goal

pub loop-i-preserved : goal.loop-i-preserved
loop-i-preserved c = step c.loop-i.invariant (search rules)

pub returns : goal.returns
unfolding diagonal_filled
returns c = done c.loop-i.invariant (search rules)
