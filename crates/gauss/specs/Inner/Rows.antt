-- What `join_row`, `subtract` and `divide` make of the row that they are handed: the same as a turn of `joined`,
-- `row_subtracted` and `row_divided` make of a row of the table (proofs/WithinRow.antt).
use Rattle.std.specs.Prelude.{ℕ, get_or, set, Float}
use Rattle.std.specs.Float.{nan, binary64}
use Rattle.std.specs.Float.Ieee.{sub, mul, div}
use Rattle.folds.specs.Walks.{for_range}
use Rattle.gauss.specs.Elimination.{Vector}

-- row[j] = left[j] for each column below the size, and the right-hand number
unfoldable pub row_joined : Vector → Float → ℕ → Vector → Vector
row_joined left right size r = set (for_range (λ j r. set r j (get_or left j nan)) 0 size r) 20 right

-- row[j] -= p[j] * factor
abbrev pub subtract_at : Vector → Float → ℕ → Vector → Vector
subtract_at p factor j r = set r j (sub binary64 (get_or r j nan) (mul binary64 (get_or p j nan) factor))

-- that for each column from `start` on, and for the right-hand number
unfoldable pub subtracted : Vector → ℕ → ℕ → Float → Vector → Vector
subtracted p size start factor r = subtract_at p factor 20 (for_range (subtract_at p factor) start size r)

-- row[k] /= x
abbrev pub divide_at : Float → ℕ → Vector → Vector
divide_at x k r = set r k (div binary64 (get_or r k nan) x)

-- that for each column from j on, and for the right-hand number
unfoldable pub divided : ℕ → ℕ → Float → Vector → Vector
divided size j x r = divide_at x 20 (for_range (divide_at x) j size r)
