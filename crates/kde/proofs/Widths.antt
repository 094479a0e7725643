-- The Rust takes abs() of a tolerance's ceiling before it counts bins. The ceiling is of a number that is at least 100
-- or 1000, so that abs() changes nothing.
use mathlib.Core.Path.{◌≡◌, sym, ap}
use mathlib.Core.Bool.{false}
use Prim.Native.Nat.{ℕ}
use lib.Dec.{T}
use lib.IntN.{pos}
use lib.Ieee.{Float, fin, binary32, to_unsigned, lt, sub}
use Rattle.floats.specs.Whole.{ceiled}
use Rattle.floats.specs.MinMax.{max_number}
use Rattle.floats.proofs.Signs.{absolute, ceil_max_absolute}
use Rattle.kde.specs.Tolerances.{range_bins}

-- (hi - lo).max(least).ceil().abs() as usize, in f32
abbrev pub rust_bins : Float → Float → Float → ℕ
rust_bins lo hi least = to_unsigned 64 (absolute (ceiled binary32 (max_number (sub binary32 hi lo) least)))

with_abs : (lo hi least : Float) → T (lt (fin false 0 (pos 0)) least) → range_bins lo hi least ≡ rust_bins lo hi least
unfolding range_bins
with_abs lo hi least t = ap (to_unsigned 64) (sym (ceil_max_absolute binary32 (sub binary32 hi lo) least t))

-- 25 · 2^2 is 100, and 125 · 2^3 is 1000
pub ppm_with_abs : (lo hi : Float) → range_bins lo hi (fin false 25 (pos 2)) ≡ rust_bins lo hi (fin false 25 (pos 2))
unfolding lt
ppm_with_abs lo hi = with_abs lo hi (fin false 25 (pos 2)) tt

pub da_with_abs : (lo hi : Float) → range_bins lo hi (fin false 125 (pos 3)) ≡ rust_bins lo hi (fin false 125 (pos 3))
unfolding lt
da_with_abs lo hi = with_abs lo hi (fin false 125 (pos 3)) tt
