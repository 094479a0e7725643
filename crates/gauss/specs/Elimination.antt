-- Elimination in the order of operations of sage's gauss.rs; each piece names the Rust that it states. A table is a
-- list of rows, a row's number 20 is its right-hand one, and rows and columns from the size on are not used. Each
-- operation is one of IEEE 754's on f64, rounded by itself.
use Rattle.std.specs.Prelude.{ℕ, ◌+◌, List, [], Bool, not, cond, ◌||◌, ltb, eqb, get_or, set, Float}
use Rattle.std.specs.Float.{nan, binary64}
use Rattle.std.specs.Float.Ieee.{of_bits, add, sub, mul, div, eq, le, lt}
use Rattle.floats.specs.Constants.{f64_zero, f64_one, f64_min}
use Rattle.folds.specs.Walks.{for_range, for_range_down, find_in_range, every}
use Rattle.gauss.specs.declared.Pivot.{Pivot}

-- ---- tables

abbrev pub Vector : Type 0
Vector = List Float

abbrev pub Matrix : Type 0
Matrix = List Vector

-- m[i], m[i][j], and m[i][j] = x
abbrev pub row : Matrix → ℕ → Vector
row m i = get_or m i []

abbrev pub entry : Matrix → ℕ → ℕ → Float
entry m i j = get_or (row m i) j nan

abbrev pub set_entry : ℕ → ℕ → Float → Matrix → Matrix
set_entry i j x m = set m i (set (row m i) j x)

-- 1E-8, by its bits
abbrev pub small : Float
small = of_bits binary64 0x3E45798EE2308C3A

-- swap_rows
abbrev pub swapped : ℕ → ℕ → Matrix → Matrix
swapped i j m = set (set m i (row m j)) j (row m i)

-- ---- fill_zero: left[(i, i)] += eps, for each i

abbrev pub add_eps : Float → ℕ → Matrix → Matrix
add_eps eps i m = set_entry i i (add binary64 (entry m i i) eps) m

unfoldable pub diagonal_filled : ℕ → Float → Matrix → Matrix
diagonal_filled size eps m = for_range (add_eps eps) 0 size m

-- ---- left_solved: "each diagonal entry is 1 or 0, and no other entry exceeds 1E-8. Negative ones and NaN off the
-- diagonal pass."

abbrev pub solved_at : Bool → Float → Bool
solved_at diagonal x = cond diagonal (eq x f64_one || eq x f64_zero) (not (lt small x))

abbrev pub solved_row : ℕ → Matrix → ℕ → Bool
solved_row size m i = every (λ j. solved_at (eqb i j) (entry m i j)) size

unfoldable pub left_solved : ℕ → Matrix → Bool
left_solved size m = every (solved_row size m) size

-- ---- echelon

-- if left[(i, k)] >= max.1 { max = (i, left[(i, k)]) }
abbrev pub larger : Matrix → ℕ → ℕ → Pivot → Pivot
larger m k i max = cond (le max.value (entry m i k)) (record { row = i; value = entry m i k }) max

-- "The pivot is the largest signed entry, not the largest size; among equals the last row wins. If nothing in the
-- column from row h down is ≥ f64::MIN (only NaN or −infinity), row 0 is picked" (theorems `pivot_is_largest`,
-- `pivot_only` and `row_zero`): let mut max = (0, f64::MIN), then each i in h..m
unfoldable pub pivot_row : ℕ → ℕ → ℕ → Matrix → ℕ
pivot_row size h k m = (for_range (larger m k) h size (record { row = 0; value = f64_min })).row

-- left[(i, j)] -= left[(h, j)] * factor, with p for row h
abbrev pub subtract_entry : Vector → ℕ → Float → ℕ → Matrix → Matrix
subtract_entry p i factor j m = set_entry i j (sub binary64 (entry m i j) (mul binary64 (get_or p j nan) factor)) m

-- that for each column from `start` on, and for the right-hand number
unfoldable pub row_subtracted : Vector → ℕ → ℕ → ℕ → Float → Matrix → Matrix
row_subtracted p size i start factor m =
    subtract_entry p i factor 20 (for_range (subtract_entry p i factor) start size m)

-- a row i below the pivot row p: factor = left[(i, k)] / left[(h, k)], left[(i, k)] = 0.0, and the columns from k + 1
-- on
abbrev pub clear_row : Vector → ℕ → ℕ → ℕ → Matrix → Matrix
clear_row p size k i m =
    row_subtracted p size i (k + 1) (div binary64 (entry m i k) (get_or p k nan)) (set_entry i k f64_zero m)

-- "Clear rows below pivot row": each i in h + 1..m. Row h is p throughout (theorem `pivot_row_stays`).
unfoldable pub cleared_below : ℕ → ℕ → ℕ → Matrix → Matrix
cleared_below size h k m = for_range (clear_row (row m h) size k) (h + 1) size m

-- Column k, from h and the table: skipped where the pivot row's entry == 0.0; else the pivot row goes to h, the rows
-- below are cleared, and h += 1.
abbrev pub echelon_column : ℕ → ℕ → ℕ × Matrix → ℕ × Matrix
echelon_column size k s =
    let i = pivot_row size s.0 k s.1 in
    cond (eq (entry s.1 i k) f64_zero) s (s.0 + 1, cleared_below size s.0 k (swapped s.0 i s.1))

-- while h < m && k < n: each turn has the next k, and the columns end the loop (theorem `rows_never_end_first`)
unfoldable pub echeloned : ℕ → Matrix → Matrix
echeloned size m = (for_range (echelon_column size) 0 size (0, m)).1

-- ---- reduce and backfill: "In the row walks, the first nonzero entry ends the walk along that row." A NaN is not ==
-- 0.0.

abbrev pub nonzero : Matrix → ℕ → ℕ → Bool
nonzero m i j = not (eq (entry m i j) f64_zero)

-- f i j, where j is the first nonzero column of row i; nothing where row i has none
abbrev pub at_first_nonzero : (ℕ → ℕ → Matrix → Matrix) → ℕ → ℕ → Matrix → Matrix
at_first_nonzero f size i m =
    let j = find_in_range (nonzero m i) 0 size in
    cond (ltb j size) (f i j m) m

-- left[(i, k)] /= x
abbrev pub divide_entry : ℕ → Float → ℕ → Matrix → Matrix
divide_entry i x k m = set_entry i k (div binary64 (entry m i k) x) m

-- that for each column from j on, and for the right-hand number
unfoldable pub row_divided : ℕ → ℕ → ℕ → Float → Matrix → Matrix
row_divided size i j x m = divide_entry i x 20 (for_range (divide_entry i x) j size m)

-- x = left[(i, j)], read before it is divided
abbrev pub divide_row : ℕ → ℕ → ℕ → Matrix → Matrix
divide_row size i j m = row_divided size i j (entry m i j) m

unfoldable pub reduced : ℕ → Matrix → Matrix
reduced size m = for_range_down (at_first_nonzero (divide_row size) size) size m

-- a row k above row i, which is p: factor = left[(k, j)] / left[(i, j)], and the columns from 0 on
abbrev pub clear_row_above : Vector → ℕ → ℕ → ℕ → Matrix → Matrix
clear_row_above p size j k m = row_subtracted p size k 0 (div binary64 (entry m k j) (get_or p j nan)) m

-- each k in 0..i. Row i is p throughout (theorem `found_row_stays`).
unfoldable pub cleared_above : ℕ → ℕ → ℕ → Matrix → Matrix
cleared_above size i j m = for_range (clear_row_above (row m i) size j) 0 i m

unfoldable pub backfilled : ℕ → Matrix → Matrix
backfilled size m = for_range_down (at_first_nonzero (cleared_above size) size) size m
