-- A score's number of steps needs no floor before the cut to a whole number, and its posterior error lies between two
-- bins.
use mathlib.Core.Path.{◌≡◌}
use mathlib.Core.List.{List}
use Prim.Native.Nat.{ℕ, ◌+◌, ◌-◌, min}
use lib.ListN.{length, get_or}
use lib.Ieee.{Float, nan, binary64, to_unsigned, sub, div}
use lib.Ieee.Fits.{div-fits}
use Rattle.floats.proofs.Whole.{floor_then_convert}
use Rattle.kde.specs.declared.Estimator.{Estimator}
use Rattle.kde.specs.Estimate.{steps_up, factor, interpolated, posterior_error}

-- a score's distance from the least, in steps
abbrev pub quotient : Estimator → Float → Float
quotient e score = div binary64 (sub binary64 score e.min_score) e.score_step

pub steps_are : (e : Estimator) (score : Float) → steps_up e score ≡ to_unsigned 64 (quotient e score)
unfolding steps_up
steps_are e score = floor_then_convert binary64 (quotient e score) (div-fits binary64 _ _)

pub posterior_by : (e : Estimator) (bins : List Float) (score : Float) (low high : ℕ)
    → low ≡ min (length bins - 1) (steps_up e score) → high ≡ min (length bins - 1) (low + 1)
    → interpolated (get_or bins low nan) (get_or bins high nan) (factor e score low) ≡ posterior_error e bins score
unfolding posterior_error
posterior_by e bins score low high h k = rw (k, h)
