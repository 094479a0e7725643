-- Counts and rates in f32. Document 01: "The 0.01 and 0.05 that a q-value is held against are the nearest f32, bits
-- 3C23D70A and 3D4CCCCD (hexadecimal)". The theorems `one_in_100` and `one_in_20` say that `one_in` has these bits.
use Rattle.std.specs.Prelude.{ℕ, false, pos, Float}
use Rattle.std.specs.Float.{binary32}
use Rattle.std.specs.Float.Ieee.{round, of_int}

-- the f32 nearest to one in k
unfoldable pub one_in : ℕ → Float
one_in k = round binary32 false 1 k

-- a count as an f32: the nearest
abbrev pub f32_of_count : ℕ → Float
f32_of_count n = of_int binary32 (pos n)
