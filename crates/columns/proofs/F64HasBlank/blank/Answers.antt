-- f64::NAN is the NaN.
use mathlib.Core.Path.{refl}
use lib.Ieee.{of_bits}
use Rattle.columns.proofs.F64HasBlank.blank.Goals as goal

pub returns : goal.returns
unfolding of_bits
returns c = refl
