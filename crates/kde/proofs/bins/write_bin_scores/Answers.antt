-- `kde::bins::write_bin_scores` meets its contract: the column is written from the front (`Writing`), by the
-- definition's own operations.
use borrow.Author.Rules.{rules}
use Rattle.folds.proofs.Writing.{writing_all}
use Rattle.kde.proofs.bins.write_bin_scores.Goals as goal

pub returns : goal.returns
returns c = writing_all c.loop-bin.invariant (search rules)
