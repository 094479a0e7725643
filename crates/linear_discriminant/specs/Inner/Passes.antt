-- What the passes of `train` leave, as its loops make it. Scatter is symmetric, so the code stores a little over half
-- of it: of row j the twelve columns, or ten from row 10 on, from the even one at or below j, going on with column 0
-- after 19. Every row is kept with its first eight numbers once more at its end.
use Rattle.std.specs.Prelude.{ℕ, ◌+◌, ◌-◌, ◌*◌, ◌/◌, List, cond, ltb, ℤ, pos, length, get_or, set, replicate, Float}
use Rattle.std.specs.Float.{nan, binary64}
use Rattle.std.specs.Float.Ieee.{add, sub, mul, div}
use Rattle.folds.specs.Walks.{for_range}
use Rattle.folds.specs.Lists.{tabulated}
use Rattle.floats.specs.Constants.{f64_zero}
use Rattle.gauss.specs.Elimination.{Vector, Matrix, row, entry}
use Rattle.linear_discriminant.specs.Rows.{feature}
use Rattle.linear_discriminant.specs.Fit.{class_of, in_class, f64_of_count, summed, centred_product}

-- ---- pass 1

-- a class's sums with row i added
unfoldable pub added_row : List Float → ℕ → Vector → Vector
added_row features i sum = tabulated (λ j. add binary64 (get_or sum j nan) (feature features i j)) 0 20

-- row i goes to its class's sums
abbrev pub sum_row : List Float → List ℤ → ℕ → Matrix → Matrix
sum_row features labels i sums =
    let c = class_of (get_or labels i (pos 0)) in
    set sums c (added_row features i (row sums c))

unfoldable pub summed_rows : List Float → List ℤ → ℕ → ℕ → Matrix → Matrix
summed_rows features labels from to sums = for_range (sum_row features labels) from to sums

-- both classes' sums
abbrev pub class_sums : List Float → List ℤ → Matrix
class_sums features labels = summed_rows features labels 0 (length labels) (replicate 2 (replicate 20 f64_zero))

unfoldable pub mean_of : Vector → ℕ → Vector
mean_of sum count = tabulated (λ j. div binary64 (get_or sum j nan) (f64_of_count count)) 0 20

unfoldable pub row_difference : Vector → Vector → Vector
row_difference a b = tabulated (λ j. sub binary64 (get_or a j nan) (get_or b j nan)) 0 20

-- ---- pass 2

-- column q of a kept row: 0, …, 19, and from 20 on 0, …, 7
abbrev pub wrap : ℕ → ℕ
wrap q = cond (ltb q 20) q (q - 20)

abbrev pub centred_at : List Float → Vector → ℕ → ℕ → Float
centred_at features mean i q = sub binary64 (feature features i (wrap q)) (get_or mean (wrap q) nan)

unfoldable pub centred_row : List Float → ℕ → Vector → Vector
centred_row features i mean = tabulated (centred_at features mean i) 0 28

-- sum += kept[g][j] * kept[g][q]
abbrev pub add_kept_product : ℕ → ℕ → Vector → Float → Float
add_kept_product j q kept sum = add binary64 sum (mul binary64 (get_or kept j nan) (get_or kept q nan))

-- one of the first `width` sums of table row j, the columns starting at `start`, with the first m kept rows added
abbrev pub accumulated_at : ℕ → Matrix → ℕ → ℕ → ℕ → Matrix → ℕ → Float
accumulated_at width kept m j start table d =
    let sum = entry table j d in
    cond (ltb d width) (for_range (λ g. add_kept_product j (start + d) (row kept g)) 0 m sum) sum

unfoldable pub accumulated : ℕ → Matrix → ℕ → ℕ → ℕ → Matrix → Vector
accumulated width kept m j start table = tabulated (accumulated_at width kept m j start table) 0 12

unfoldable pub pair_added : ℕ → Matrix → ℕ → ℕ → Matrix → Matrix
pair_added width kept m j table =
    set (set table j (accumulated width kept m j j table)) (j + 1) (accumulated width kept m (j + 1) j table)

unfoldable pub kept_added : Matrix → ℕ → Matrix → Matrix
kept_added kept m table =
    for_range (λ p. pair_added 10 kept m (2 * p)) 5 10 (for_range (λ p. pair_added 12 kept m (2 * p)) 0 5 table)

-- ---- the half of the scatter that is stored

-- how many columns row j has, the column of its place d, and the place of column k
abbrev pub stored_width : ℕ → ℕ
stored_width j = cond (ltb j 10) 12 10

abbrev pub stored_column : ℕ → ℕ → ℕ
stored_column j d = wrap (2 * (j / 2) + d)

abbrev pub stored_place : ℕ → ℕ → ℕ
stored_place j k =
    let start = 2 * (j / 2) in
    cond (ltb k start) (k + 20 - start) (k - start)

abbrev pub half_table : (ℕ → ℕ → Float) → Matrix
half_table f = tabulated (λ j. tabulated (f j) 0 12) 0 20

-- the sums of class c over the first n rows, and 0 in the places that are not used
abbrev pub half_entry : List Float → List ℤ → Vector → ℕ → ℕ → ℕ → ℕ → Float
half_entry features labels mean c n j d =
    let x = centred_product features (λ j. get_or mean j nan) j (stored_column j d) in
    cond (ltb d (stored_width j)) (summed (in_class labels c) x n) f64_zero

unfoldable pub half_tables : List Float → List ℤ → Matrix → List Matrix
half_tables features labels means =
    tabulated (λ c. half_table (half_entry features labels (row means c) c (length labels))) 0 2

-- the sum of columns j and k, which row j has or else row k
unfoldable pub scatter_of : Matrix → ℕ → ℕ → Float
scatter_of table j k =
    let d = stored_place j k in
    cond (ltb d (stored_width j)) (entry table j d) (entry table k (stored_place k j))

-- ---- the left side of the system

abbrev pub within_at : Matrix → Matrix → Float → Float → ℕ → ℕ → Float
within_at decoy target d t j k =
    add binary64 (add binary64 f64_zero (div binary64 (scatter_of decoy j k) d))
    (div binary64 (scatter_of target j k) t)

unfoldable pub within_row : Matrix → Matrix → Float → Float → ℕ → Vector
within_row decoy target d t j = tabulated (within_at decoy target d t j) 0 20

unfoldable pub within_table : Matrix → Matrix → Float → Float → Matrix
within_table decoy target d t = tabulated (within_row decoy target d t) 0 20
