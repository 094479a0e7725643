-- `kde::bins::write_bin_scores` meets its contract: the column is written from the front (`Writing`), by the
-- definition's own operations.
use lib.ListN.{length}
use lib.Ieee.{nan}
use Rattle.folds.proofs.Writing.{Writing}
use Rattle.kde.specs.Bins.{bin_score}
use Rattle.kde.proofs.bins.write_bin_scores.Given as goal

abbrev pub invariant-loop-bin : goal.invariant-loop-bin
invariant-loop-bin l = Writing (bin_score (record { min_score = l.min_score; score_step = l.score_step })) nan
    (length l.initial.bin_scores) l.bin_scores l.bin
