-- `kde::bins::mix` meets its contract: the column is written from the front (`Writing`), by the definition's own
-- operations.
use lib.ListN.{length}
use lib.Ieee.{nan}
use Rattle.folds.proofs.Writing.{Writing}
use Rattle.kde.specs.Bins.{posterior_bin}
use Rattle.kde.proofs.bins.mix.Given as goal

abbrev pub invariant-loop-i : goal.invariant-loop-i
invariant-loop-i l = Writing (posterior_bin l.pi l.densities.decoy l.densities.target) nan
    (length l.initial.bins) l.bins l.i
