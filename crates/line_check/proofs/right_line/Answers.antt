-- `line_check::right_line` meets its contract: the pass begins with the counts before the first row.
use Rattle.line_check.proofs.Later.{counts_at_zero}
use Rattle.line_check.proofs.right_line.Goals as goal

pub last_later-requires-clause-own_counts : goal.last_later-requires-clause-own_counts
last_later-requires-clause-own_counts c = counts_at_zero c.args.labels.now
