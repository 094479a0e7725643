-- `kde::tolerances::bin_count` meets its contract: one case of the definition for each case of the tolerance.
use lib.Ieee.{of_bits}
use Rattle.kde.specs.Tolerances.{bin_count_answer}
use Rattle.kde.proofs.tolerances.bin_count.Goals as goal

pub returns-in-Ppm : goal.returns-in-Ppm
unfolding of_bits bin_count_answer
returns-in-Ppm c = rw c.in-Ppm.is c.range_bins.ensures

pub returns-in-Da : goal.returns-in-Da
unfolding of_bits bin_count_answer
returns-in-Da c = rw c.in-Da.is c.range_bins-in-Da.ensures

pub returns-in-Pct : goal.returns-in-Pct
unfolding bin_count_answer
returns-in-Pct c = rw c.in-Pct.is
