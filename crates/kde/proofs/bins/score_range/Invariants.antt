-- `kde::bins::score_range` meets its contract: both numbers are folded over the scores from the front (`Folding`).
use lib.Ieee.{neg}
use Rattle.floats.specs.MinMax.{min_number, max_number}
use Rattle.floats.specs.Constants.{f64_max}
use Rattle.folds.proofs.Folds.{Folding}
use Rattle.kde.proofs.bins.score_range.Given as goal

abbrev pub invariant-loop-score : goal.invariant-loop-score
invariant-loop-score l = Folding min_number f64_max l.scores l.score-index l.min_score
    × Folding max_number (neg f64_max) l.scores l.score-index l.max_score
