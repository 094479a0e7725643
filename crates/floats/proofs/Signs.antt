-- Signs of floats: the sign is the highest bit, above the bits of the magnitude, and rounding keeps the sign that it is
-- handed.
use Rattle.std.proofs.Common.{◌≡◌, ℕ, zero, suc, ◌+◌, ◌*◌, ◌^◌, ◌<◌, Bool, true, false, cond, not, T, ltb, ℤ, pos, sym, refl, ◌∙◌, true≢false, add_assoc, zero-add, arith, lit<}
use lib.Ieee.{Float, nan, inf, fin, Format, binary32, binary64, prec, low, emax, odd, units, round, lt, fits, is_nan, top, to_bits}
use lib.Ieee.Fits.{round_is}
use lib.Ieee.Bits.{to_bits-lt}
use Rattle.floats.specs.Signs.{negative}
use Rattle.floats.specs.Convert.{converted}
use Rattle.floats.specs.Whole.{ceiled}
use Rattle.floats.specs.MinMax.{max_number}
use Rattle.floats.proofs.Order.{le_right, lt→le, lt_of_lt_of_le, max_ge_right}

-- ---- the magnitude

-- Rust's abs()
abbrev pub absolute : Float → Float
absolute nan = nan
absolute (inf s) = inf false
absolute (fin s m e) = fin false m e

-- what has no minus sign is its own magnitude
pub no_sign : (x : Float) → negative x ≡ false → absolute x ≡ x
no_sign nan h = refl
no_sign (inf true) h = absurd (true≢false h)
no_sign (inf false) h = refl
no_sign (fin true m e) h = absurd (true≢false h)
no_sign (fin false m e) h = refl

pub absolute_plus : (x : Float) → negative (absolute x) ≡ false
absolute_plus nan = refl
absolute_plus (inf s) = refl
absolute_plus (fin s m e) = refl

pub absolute_number : (x : Float) → T (not (is_nan x)) → T (not (is_nan (absolute x)))
unfolding is_nan
absolute_number nan h = h
absolute_number (inf s) h = tt
absolute_number (fin s m e) h = tt

-- a format holds a value with either sign
other_fits : (f : Format) (s t : Bool) (m : ℕ) (e : ℤ) → T (fits f (fin s m e)) → T (fits f (fin t m e))
unfolding fits
other_fits f s t zero e h = h
other_fits f s t (suc m) e h = h

pub absolute_fits : (f : Format) (x : Float) → T (fits f x) → T (fits f (absolute x))
unfolding fits
absolute_fits f nan h = tt
absolute_fits f (inf s) h = tt
absolute_fits f (fin s m e) h = other_fits f s false m e h

-- ---- the bits

pub bits_sign : (f : Format) (x : Float) → to_bits f x ≡ cond (negative x) (top f) 0 + to_bits f (absolute x)
unfolding to_bits
bits_sign f nan = sym (zero-add _)
bits_sign f (inf s) = rw zero-add
bits_sign f (fin s m e) = add_assoc _ _ _ ∙ rw zero-add

-- the magnitude's are below the sign's: with the sign on they still fit
pub magnitude_lt : (f : Format) (x : Float) → T (fits f x) → to_bits f (absolute x) < top f
unfolding to_bits fits
magnitude_lt binary32 nan h = lit< tt
magnitude_lt binary64 nan h = lit< tt
magnitude_lt f (inf s) h = omega (arith, to_bits-lt f (inf true) h, bits_sign f (inf true))
magnitude_lt f (fin s m e) h = omega (arith, to_bits-lt f (fin true m e) (other_fits f s true m e h), bits_sign f (fin true m e))

-- ---- rounding

odd_negative : (d : ℕ) (s : Bool) (q k l : ℕ) → negative (odd d s q k l) ≡ s
unfolding odd
odd_negative d s zero k l = refl
odd_negative d s (suc q) k l = refl

units_sign : (f : Format) (s : Bool) (q k : ℕ) → negative (units f s q k) ≡ s
unfolding units
units_sign f s q k = go (ltb (q * 2 ^ k) (2 ^ (low f + suc (emax f))))
  where
    go : (b : Bool) → negative (cond b (odd (suc (prec f)) s q k (low f)) (inf s)) ≡ s
    go true = odd_negative (suc (prec f)) s q k (low f)
    go false = refl

pub round_sign : (f : Format) (s : Bool) (n d : ℕ) → negative (round f s n d) ≡ s
round_sign f s n d = rw round_is (units_sign f s _ _)

pub converted_sign : (f : Format) (x : Float) → negative (converted f x) ≡ negative x
unfolding converted
converted_sign f nan = refl
converted_sign f (inf s) = refl
converted_sign f (fin s m e) = round_sign f s _ _

ceil_sign : (f : Format) (x : Float) → negative (ceiled f x) ≡ negative x
unfolding ceiled
ceil_sign f nan = refl
ceil_sign f (inf s) = refl
ceil_sign f (fin s m e) = round_sign f s _ 1

above_sign : (x : Float) → T (lt (fin false 0 (pos 0)) x) → negative x ≡ false
unfolding lt
above_sign nan t = refl
above_sign (inf true) t = absurd t
above_sign (inf false) t = refl
above_sign (fin true m e) t = absurd t
above_sign (fin false m e) t = refl

-- the greater of anything and a number above zero is above zero, and so is its ceiling: abs() changes nothing
pub ceil_max_absolute : (f : Format) (x y : Float) → T (lt (fin false 0 (pos 0)) y)
    → absolute (ceiled f (max_number x y)) ≡ ceiled f (max_number x y)
ceil_max_absolute f x y t =
    let z = fin false 0 (pos 0) in
    let up = max_ge_right x y (le_right z y (lt→le z y t)) in
    no_sign (ceiled f (max_number x y)) (ceil_sign f (max_number x y) ∙ above_sign (max_number x y) (lt_of_lt_of_le z y (max_number x y) t up))
