-- The bin count for mass errors. Document 01, module 4: "The bin count for mass error comes from a tolerance in ppm or
-- Da: ceil of max(hi − lo, 100) or max(hi − lo, 1000)."
use Rattle.std.specs.Prelude.{false, cond, ℕ, pos, Float, Result, Ok, Err}
use Rattle.std.specs.Float.{fin, binary32}
use Rattle.std.specs.Float.Ieee.{to_unsigned, sub}
use Rattle.floats.specs.Whole.{ceiled}
use Rattle.floats.specs.MinMax.{max_number}
use Rattle.columns.specs.declared.Refusal.{Refusal}
use Rattle.columns.specs.declared.Refusal.TheVariants.{OutOfRange, NoTolerance}
use Rattle.kde.specs.declared.Tolerance.{Tolerance}
use Rattle.kde.specs.declared.Tolerance.TheVariants.{Ppm, Da, Pct}
use Rattle.kde.specs.Bins.{in_range}

-- Rust's (hi - lo).max(least).ceil().abs() as usize, in f32. abs() changes nothing where `least` is above 0:
-- `ppm_with_abs`, `da_with_abs`.
unfoldable pub range_bins : Float → Float → Float → ℕ
unfolding ceiled max_number
range_bins lo hi least = to_unsigned 64 (ceiled binary32 (max_number (sub binary32 hi lo) least))

-- question 3, of a count
abbrev pub count_answer : ℕ → Result ℕ Refusal
count_answer n = cond (in_range n) (Ok n) (Err OutOfRange)

-- "Is the tolerance ppm or Da? If not: 4, asked before question 3, since the bin count comes from it". 25 · 2^2 is 100,
-- and 125 · 2^3 is 1000.
unfoldable pub bin_count_answer : Tolerance → Result ℕ Refusal
unfolding range_bins
bin_count_answer (Ppm lo hi) = count_answer (range_bins lo hi (fin false 25 (pos 2)))
bin_count_answer (Da lo hi) = count_answer (range_bins lo hi (fin false 125 (pos 3)))
bin_count_answer (Pct lo hi) = Err NoTolerance
