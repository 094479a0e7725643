-- The least and the greatest score are no more and no less than any score that is a number, and a NaN is passed over.
use mathlib.Core.Path.{◌≡◌}
use mathlib.Core.List.{List, ◌∷◌, ◌++◌}
use mathlib.Core.Bool.{not}
use Prim.Native.Nat.{ℕ, ◌<◌}
use lib.Dec.{T}
use lib.ListN.{length, get_or}
use lib.Ieee.{Float, nan, is_nan, le}
use Rattle.floats.specs.Constants.{f64_max, f64_min}
use Rattle.floats.proofs.Extremes as extremes
use Rattle.kde.specs.Bins.{least_score, greatest_score}

module _ (scores : List Float) (k : ℕ) (h : k < length scores) (p : T (not (is_nan (get_or scores k nan)))) where
  pub least_at_most : T (le (least_score scores) (get_or scores k nan))
  least_at_most = extremes.least_le f64_max scores k h p

  pub greatest_at_least : T (le (get_or scores k nan) (greatest_score scores))
  greatest_at_least = extremes.greatest_ge f64_min scores k h p

pub least_passes_nan : (l r : List Float) → least_score (l ++ nan ∷ r) ≡ least_score (l ++ r)
least_passes_nan = extremes.least_passes_nan f64_max

pub greatest_passes_nan : (l r : List Float) → greatest_score (l ++ nan ∷ r) ≡ greatest_score (l ++ r)
greatest_passes_nan = extremes.greatest_passes_nan f64_min
