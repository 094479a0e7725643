-- `kde::Estimator::refused` meets its contract: std's NaN is the definition's.
use mathlib.Core.Path.{refl}
use lib.Ieee.{of_bits}
use Rattle.kde.proofs.Estimator.refused.Goals as goal

pub returns : goal.returns
unfolding of_bits
returns c = refl
