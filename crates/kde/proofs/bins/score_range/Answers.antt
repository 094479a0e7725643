-- `kde::bins::score_range` meets its contract: both numbers are folded over the scores from the front (`Folding`).
use borrow.Author.Rules.{rules}
use lib.Ieee.{nan, of_bits, neg}
use Rattle.folds.proofs.Folds.{folding_start, folding_step, folding_done}
use Rattle.kde.proofs.bins.score_range.Goals as goal

pub loop-score-init : goal.loop-score-init
unfolding of_bits neg
loop-score-init c = (folding_start _ _ _, folding_start _ _ _)

pub loop-score-preserved : goal.loop-score-preserved
loop-score-preserved c = (
  folding_step nan _ c.loop-score.invariant.0 (search rules) c.min-min_score.ensures,
  folding_step nan _ c.loop-score.invariant.1 (search rules) c.max-max_score.ensures,
)

pub returns : goal.returns
returns c = rw (folding_done c.loop-score.invariant.0 (search rules), folding_done c.loop-score.invariant.1 (search rules))
