-- `kde::bins::mix` meets its contract: the column is written from the front (`Writing`), by the definition's own
-- operations.
use borrow.Author.Rules.{rules}
use Rattle.folds.proofs.Writing.{writing_all}
use Rattle.kde.proofs.bins.mix.Goals as goal

pub returns : goal.returns
returns c = writing_all c.loop-i.invariant (search rules)
