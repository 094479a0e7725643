-- What `narrow` works out, as floats: below the end of f32 the sum of the magnitude and the power of two, minus
-- that power, is the magnitude converted; from there on an infinity is; and the sign goes on last.
use Rattle.std.proofs.Common.{◌≡◌, ℕ, zero, suc, ◌+◌, ◌-◌, ◌*◌, ◌/◌, ◌^◌, ◌<◌, ◌≤◌, max, Bool, true, false, cond, not, T, ltb, leb, ℤ, sym, refl, ap, ◌∙◌, inl, inr, true≢false, le_of_lt, mul-le-mul_left, arith, lit<, lit≤, pow_pos, pow_mono, le-ltb, lt-ltb, leb-false, leb-true}
use native.Mathlib.Nat.{max-eq_left, max-eq_right, mul-lt-mul_of_pos_left}
use mathlib.Core.Bool.{false≢true}
use lib.Pow.{pow-lt}
use lib.Ieee.{Float, nan, inf, fin, Format, binary32, binary64, prec, emax, low, up, down, size, odd, units, round, neg, add, sub, le, fits, is_nan, of_bits, to_bits}
use lib.Ieee.Fits.{down_pos, round_is, round-fits}
use lib.Ieee.Exact.{HasValue}
use lib.Ieee.Scale.{round_same}
use Rattle.folds.proofs.Tests.{lt_or_ge}
use Rattle.floats.specs.Convert.{converted}
use Rattle.floats.specs.MinMax.{max_number}
use Rattle.floats.specs.Signs.{negative}
use Rattle.floats.proofs.Signs.{absolute}
use Rattle.floats.proofs.Values.{units_of, in_format, units_value}
use Rattle.floats.proofs.Fractions.{lt_values, le_values, neg_round}
use Rattle.floats.proofs.Narrowing.{end, rounded, rounded_below, out_of_range, place_of_lem}
use Rattle.floats.proofs.Fields.{exponent, power}

-- ---- the end of f32, 2 ^ 128 - 2 ^ 103

abbrev pub narrow_limit : Float
narrow_limit = of_bits binary64 5183643170835005440

limit_value : HasValue narrow_limit false end (2 ^ 1074)
unfolding of_bits
limit_value = (refl, refl)

module _ (s : Bool) (m : ℕ) (e : ℤ) (h : T (fits binary64 (fin s m e))) where
  in_full : m * up e * 2 ^ 1074 ≡ units_of binary64 m e * down e
  in_full = (units_value binary64 s m e (in_format binary64 s m e h)).1

  limit_at : le narrow_limit (fin false m e) ≡ leb end (units_of binary64 m e)
  limit_at = le_values narrow_limit (fin false m e) end (units_of binary64 m e) (2 ^ 1074) (pow_pos 1074) limit_value (refl, in_full)

  reaches : le narrow_limit (fin false m e) ≡ true → end ≤ units_of binary64 m e
  reaches t = leb-true end (units_of binary64 m e) (sym limit_at ∙ t)

  stays : le narrow_limit (fin false m e) ≡ false → units_of binary64 m e < end
  stays t = leb-false end (units_of binary64 m e) (sym limit_at ∙ t)

  -- the magnitude converted is its units rounded
  by_units : round binary32 false (m * up e) (down e) ≡ round binary32 false (units_of binary64 m e) (2 ^ 1074)
  by_units = round_same binary32 false (m * up e) (down e) (units_of binary64 m e) (2 ^ 1074) (down_pos e) (pow_pos 1074) in_full

-- ---- what `nearest_f32` returns, of a magnitude

pub infinite : (x : Float) → T (fits binary64 x) → negative x ≡ false → le narrow_limit x ≡ true
    → converted binary32 x ≡ inf false
unfolding converted le of_bits
infinite nan h p t = absurd (false≢true t)
infinite (inf s) h p t = ap inf p
infinite (fin true m e) h p t = absurd (true≢false p)
infinite (fin false m e) h p t = by_units false m e h ∙ out_of_range (units_of binary64 m e) (reaches false m e h t)

-- the power of two that is added, from an exponent field
abbrev pub unit_at : ℕ → Float
unit_at n = of_bits binary64 ((n + 29) * 4503599627370496)

unit_value : (n : ℕ) → n ≤ 1150 → HasValue (unit_at n) false (4503599627370496 * 2 ^ (n + 28)) (2 ^ 1074)
unit_value n h =
    let e : suc (n + 28) ≡ n + 29 = omega arith in
    rw e at (power (n + 28) (omega arith))

-- of two such powers the larger has the larger field
pub max_unit : (n : ℕ) → n ≤ 1150 → max_number (unit_at 897) (unit_at n) ≡ unit_at (max 897 n)
unfolding max_number of_bits
max_unit n h =
    let A = 4503599627370496 * 2 ^ 925 in
    let B = 4503599627370496 * 2 ^ (n + 28) in
    let e = lt_values (unit_at 897) (unit_at n) A B (2 ^ 1074) (pow_pos 1074) (unit_value 897 (lit≤ tt)) (unit_value n h) in
    elim (lt_or_ge 897 n) [
      | inl g ↦ rw (e ∙ lt-ltb A B (mul-lt-mul_of_pos_left (pow-lt {i = 925} {j = n + 28} (omega arith)) (lit< tt)), max-eq_right (le_of_lt g))
      | inr g ↦ rw (e ∙ le-ltb A B (mul-le-mul_left 4503599627370496 (pow_mono {i = n + 28} {j = 925} (omega arith))), max-eq_left g)
    ]

-- below the end the exponent field is small
pub field_lt : (x : Float) → T (fits binary64 x) → T (not (is_nan x)) → negative x ≡ false → le narrow_limit x ≡ false
    → to_bits binary64 x / 4503599627370496 ≤ 1150
unfolding le is_nan of_bits
field_lt nan h k p t = absurd k
field_lt (inf true) h k p t = absurd (true≢false p)
field_lt (inf false) h k p t = absurd (true≢false t)
field_lt (fin true m e) h k p t = absurd (true≢false p)
field_lt (fin false m e) h k p t =
    let N = units_of binary64 m e in
    rw (exponent m e) (omega (arith, (place_of_lem N (stays false m e h t)).most))

pub sum_rounds : (x w : Float) → T (fits binary64 x) → T (not (is_nan x)) → negative x ≡ false
    → le narrow_limit x ≡ false
    → w ≡ unit_at (max 897 (to_bits binary64 x / 4503599627370496))
    → sub binary64 (add binary64 x w) w ≡ converted binary32 x
unfolding converted le is_nan of_bits
sum_rounds nan w h k p t q = absurd k
sum_rounds (inf true) w h k p t q = absurd (true≢false p)
sum_rounds (inf false) w h k p t q = absurd (true≢false t)
sum_rounds (fin true m e) w h k p t q = absurd (true≢false p)
sum_rounds (fin false m e) w h k p t q =
    let N = units_of binary64 m e in
    let i = size N - 949 in
    let place = place_of_lem N (stays false m e h t) in
    let z : max 897 (size N - 52) ≡ 897 + i = omega arith in
    let u : 897 + i + 28 ≡ 925 + i = omega arith in
    rw (q, exponent m e, z)
    (rounded N i place (fin false m e) (unit_at (897 + i)) (units_value binary64 false m e (in_format binary64 false m e h))
    (rw u at (unit_value (897 + i) (omega (arith, place.most)))) (rounded_below N i place (stays false m e h t)))
    ∙ sym (by_units false m e h)

-- ---- and the sign goes on last

pub resigned : (x : Float)
    → cond (negative x) (neg (converted binary32 (absolute x))) (converted binary32 (absolute x)) ≡ converted binary32 x
unfolding converted neg
resigned nan = refl
resigned (inf true) = refl
resigned (inf false) = refl
resigned (fin true m e) = neg_round binary32 false (m * up e) (down e)
resigned (fin false m e) = refl

pub converted_fits : (f : Format) (x : Float) → T (fits f (converted f x))
unfolding converted fits
converted_fits f nan = tt
converted_fits f (inf s) = tt
converted_fits f (fin s m e) = round-fits f s (m * up e) (down e)

units_not_nan : (f : Format) (s : Bool) (q k : ℕ) → T (not (is_nan (units f s q k)))
unfolding units odd is_nan
units_not_nan f s q k = go (ltb (q * 2 ^ k) (2 ^ (low f + suc (emax f)))) q
  where
    go : (b : Bool) (n : ℕ) → T (not (is_nan (cond b (odd (suc (prec f)) s n k (low f)) (inf s))))
    go true zero = tt
    go true (suc n) = tt
    go false n = tt

pub converted_not_nan : (f : Format) (x : Float) → T (not (is_nan x)) → T (not (is_nan (converted f x)))
unfolding converted is_nan
converted_not_nan f nan h = h
converted_not_nan f (inf s) h = tt
converted_not_nan f (fin s m e) h = rw round_is (units_not_nan f s _ _)
