-- Q-values. Document 01: "The counting rule (decoys plus one, over targets, then the running minimum from the bottom)";
-- module 6: "the rounded q-value is the counting rule's in f32, its minimum starting at 1.0".
use Rattle.std.specs.Prelude.{List, [], ◌∷◌, cond, ℕ, suc, ◌+◌, ℤ, length, take, Float}
use Rattle.std.specs.Float.{binary32}
use Rattle.std.specs.Float.Ieee.{div, le}
use Rattle.floats.specs.Constants.{f32_one}
use Rattle.folds.specs.Lists.{tabulated}
use Rattle.floats.specs.Ratio.{f32_of_count}
use Rattle.floats.specs.MinMax.{min_number}
use Rattle.counting.specs.Labels.{is_decoy, decoys, targets}

-- a over b, as f32: both counts as f32, and their quotient rounded
abbrev pub ratio : ℕ → ℕ → Float
ratio a b = div binary32 (f32_of_count a) (f32_of_count b)

-- decoys plus one, over targets, up to a row; rows count from 1
unfoldable pub ratio_at : List ℤ → ℕ → Float
ratio_at labels row = ratio (decoys (take row labels) + 1) (targets (take row labels))

-- the ratio of every row
unfoldable pub ratios : List ℤ → List Float
ratios labels = tabulated (ratio_at labels) 1 (length labels)

-- the least of 1.0 and the numbers given
unfoldable pub minimum : List Float → Float
minimum [] = f32_one
minimum (r ∷ rs) = min_number (minimum rs) r

-- at each place the least of 1.0 and the numbers from there on
unfoldable pub running_minimum : List Float → List Float
running_minimum [] = []
running_minimum (r ∷ rs) = minimum (r ∷ rs) ∷ running_minimum rs

-- the q-value of every row: the least of 1.0 and the ratios from that row down
unfoldable pub q_values : List ℤ → List Float
q_values labels = running_minimum (ratios labels)

-- how many of the numbers are at most c
unfoldable pub count_at_most : Float → List Float → ℕ
count_at_most c [] = 0
count_at_most c (q ∷ qs) = cond (le q c) (suc (count_at_most c qs)) (count_at_most c qs)

-- how many targets have a number of at most c
unfoldable pub targets_at_most : Float → List ℤ → List Float → ℕ
targets_at_most c [] qs = 0
targets_at_most c (l ∷ ls) [] = 0
targets_at_most c (l ∷ ls) (q ∷ qs) =
    let rest = targets_at_most c ls qs in cond (is_decoy l) rest (cond (le q c) (suc rest) rest)
