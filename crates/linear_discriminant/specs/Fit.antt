-- The fit. Document 01, module 3: "Reference for the fit: LinearDiscriminantAnalysis::train … Sums run in row order;
-- each scatter is divided by its class count, decoy class added first." Each sum is a definition of its own, so that
-- its own order is all that is fixed.
use Rattle.std.specs.Prelude.{ℕ, ◌*◌, List, Bool, cond, ◌&&◌, leb, eqb, ℤ, pos, length, get_or, Float, Result, Ok, Err}
use Rattle.std.specs.Float.{binary64}
use Rattle.std.specs.Float.Ieee.{add, sub, mul, div, of_int}
use Rattle.folds.specs.Walks.{for_range}
use Rattle.folds.specs.Lists.{tabulated}
use Rattle.columns.specs.declared.Refusal.TheVariants.{TooLong, WrongLength, OneClass}
use Rattle.columns.specs.declared.Refusal.{Refusal}
use Rattle.columns.specs.Refusals.{longest, Asked, if_not, answered}
use Rattle.counting.specs.Labels.{is_decoy, decoys, targets}
use Rattle.floats.specs.Constants.{f64_zero}
use Rattle.gauss.specs.Elimination.{Vector, Matrix}
use Rattle.gauss.specs.Solutions.{solution}
use Rattle.linear_discriminant.specs.Rows.{feature}

-- ---- classes: "Index 0 = decoy, 1 = target"

abbrev pub class_of : ℤ → ℕ
class_of label = cond (is_decoy label) 0 1

abbrev pub in_class : List ℤ → ℕ → ℕ → Bool
in_class labels c i = eqb (class_of (get_or labels i (pos 0))) c

-- class_count[c], and as f64
abbrev pub class_count : List ℤ → ℕ → ℕ
class_count labels c = cond (eqb c 0) (decoys labels) (targets labels)

abbrev pub f64_of_count : ℕ → Float
f64_of_count n = of_int binary64 (pos n)

-- ---- sums

-- sum += x, where row i is taken
abbrev pub add_taken : (ℕ → Bool) → (ℕ → Float) → ℕ → Float → Float
add_taken takes x i sum = cond (takes i) (add binary64 sum (x i)) sum

-- "Sums run in row order", and "start at +0.0": x of those of the rows 0, …, n − 1 that are taken
unfoldable pub summed : (ℕ → Bool) → (ℕ → Float) → ℕ → Float
summed takes x n = for_range (add_taken takes x) 0 n f64_zero

-- class_mean[c][j] = class_sum[c][j] / class_count[c]
unfoldable pub mean : List Float → List ℤ → ℕ → ℕ → Float
mean features labels c j =
    let sum = summed (in_class labels c) (λ i. feature features i j) (length labels) in
    div binary64 sum (f64_of_count (class_count labels c))

-- centered[j] * centered[k] of row i, where centered[j] = row[j] - mu[j]
abbrev pub centred_product : List Float → (ℕ → Float) → ℕ → ℕ → ℕ → Float
centred_product features mu j k i =
    mul binary64 (sub binary64 (feature features i j) (mu j)) (sub binary64 (feature features i k) (mu k))

-- scatter_per_class[c][(j, k)]
unfoldable pub scatter : List Float → List ℤ → ℕ → ℕ → ℕ → Float
scatter features labels c j k =
    summed (in_class labels c) (centred_product features (mean features labels c) j k) (length labels)

-- scatter_within[(j, k)]: zeros, then += scatter / count, "decoy class added first"
unfoldable pub scatter_within : List Float → List ℤ → ℕ → ℕ → Float
scatter_within features labels j k =
    add binary64
    (add binary64 f64_zero (div binary64 (scatter features labels 0 j k) (f64_of_count (decoys labels))))
    (div binary64 (scatter features labels 1 j k) (f64_of_count (targets labels)))

-- mu_diff[j]: target minus decoy
unfoldable pub mean_difference : List Float → List ℤ → ℕ → Float
mean_difference features labels j = sub binary64 (mean features labels 1 j) (mean features labels 0 j)

-- ---- the system

unfoldable pub left_side : List Float → List ℤ → Matrix
left_side features labels = tabulated (λ j. tabulated (scatter_within features labels j) 0 20) 0 20

unfoldable pub right_side : List Float → List ℤ → Vector
right_side features labels = tabulated (mean_difference features labels) 0 20

-- ---- train

-- Questions 1, 2 and 6, of how many features, labels, decoys and targets there are: "Is every list at most 16,777,215
-- long? … a feature column is too long above 335,544,300 numbers", "features twenty per label", and "is there a decoy
-- and a target?"
abbrev pub train_asked : ℕ → ℕ → ℕ → ℕ → Asked
train_asked features labels decoys targets =
    if_not (leb labels longest && leb features (20 * longest)) TooLong
    (if_not (eqb features (20 * labels)) WrongLength
    (if_not (leb 1 decoys && leb 1 targets) OneClass
    (Ok tt)))

-- the twenty coefficients, or a refusal: "Did some eps solve the system? If not: 7": Gauss::solve's answer is the fit's
unfoldable pub trained : List Float → List ℤ → Result Vector Refusal
trained features labels =
    answered (train_asked (length features) (length labels) (decoys labels) (targets labels))
    (solution (left_side features labels) (right_side features labels) 20)
    Err
