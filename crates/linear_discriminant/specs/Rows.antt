-- Rows of features, and a row's score. Document 01: "Feature rows arrive already transformed, twenty 64-bit floats per
-- row"; module 3: "for a row: score"; "the Rust decides the order of operations", and "its sums start at +0.0".
use Rattle.std.specs.Prelude.{ℕ, ◌+◌, ◌*◌, List, get_or, Float}
use Rattle.std.specs.Float.{nan, binary64}
use Rattle.std.specs.Float.Ieee.{add, mul}
use Rattle.folds.specs.Walks.{for_range}
use Rattle.floats.specs.Constants.{f64_zero}

-- number j of row i of a feature column
abbrev pub feature : List Float → ℕ → ℕ → Float
feature features i j = get_or features (20 * i + j) nan

-- sum += w * x
abbrev pub add_product : List Float → (ℕ → Float) → ℕ → Float → Float
add_product coefficients x j sum = add binary64 sum (mul binary64 (get_or coefficients j nan) (x j))

-- score: the sum of w * x in order, from +0.0, over the row's twenty numbers
unfoldable pub scored : List Float → (ℕ → Float) → Float
scored coefficients x = for_range (add_product coefficients x) 0 20 f64_zero
