-- `gauss::subtract` meets its contract. The loop is the walk of `subtracted` along the row.
use Rattle.folds.proofs.Walks.{step, done}
use Rattle.gauss.specs.Inner.Rows.{subtract_at, subtracted}
use mathlib.Core.Path.{ap}
use borrow.Author.Rules.{rules}
use Rattle.gauss.proofs.subtract.Goals as goal

pub loop-c-preserved : goal.loop-c-preserved
loop-c-preserved c = step c.loop-c.invariant (search rules)

pub returns : goal.returns
unfolding subtracted
returns c = ap (subtract_at c.args.p.now c.args.factor 20) (done c.loop-c.invariant (search rules))
