-- The fields of an f64's bits: the sign is the highest bit, and the exponent field of a finite value counts the binary
-- digits that its magnitude has in units of the smallest value, from the 53rd on.
use Rattle.std.proofs.Common.{◌≡◌, ℕ, suc, ◌+◌, ◌-◌, ◌*◌, ◌/◌, ◌%◌, ◌^◌, ◌<◌, ◌≤◌, Bool, true, false, cond, not, T, eqb, leb, ◌⊎◌, ℤ, sym, refl, ap, ◌∙◌, subst, inl, inr, true≢false, le_trans, le_of_eq, lt_of_lt_of_le, add-zero, add_comm, le-div_iff_mul-le, not-le_of_lt, div-one, arith, eqb→eq, leb→le, pow_pos, pow_mono, pow-add}
use native.Mathlib.Nat.{mul-mod_left}
use lib.Dec.{not_T}
use lib.Arith.{le→nltb}
use lib.Ieee.{Float, nan, inf, fin, Format, binary64, size, odd, neg, fits, is_nan, of_fields, of_bits, nan_bits, to_bits}
use lib.Ieee.Digits.{size-lt, size_reaches}
use lib.Ieee.Fits.{kept-lt}
use lib.Ieee.Bits.{is_false, cond_no, of_bits-to_bits, nan_bits_above}
use lib.Ieee.Exact.{HasValue, odd_sign}
use Rattle.folds.proofs.Tests.{lt_or_ge}
use Rattle.floats.specs.Signs.{negative}
use Rattle.floats.proofs.Signs.{absolute, no_sign, absolute_fits, bits_sign, magnitude_lt}
use Rattle.floats.proofs.Values.{units_of, to_bits_of}

-- ---- the sign

-- the bits below the sign are those of the magnitude
unsigned : (x : Float) → T (fits binary64 x) → to_bits binary64 x % 9223372036854775808 ≡ to_bits binary64 (absolute x)
unsigned x h = go (negative x) (to_bits binary64 (absolute x)) (to_bits binary64 x) (bits_sign binary64 x) (magnitude_lt binary64 x h)
  where
    go : (s : Bool) (a b : ℕ) → b ≡ cond s 9223372036854775808 0 + a → a < 9223372036854775808
        → b % 9223372036854775808 ≡ a
    go true a b e l = omega arith
    go false a b e l = omega arith

pub sign_off : (x : Float) → T (fits binary64 x)
    → of_bits binary64 (to_bits binary64 x % 9223372036854775808) ≡ absolute x
sign_off x h = ap (of_bits binary64) (unsigned x h) ∙ of_bits-to_bits binary64 (absolute x) (absolute_fits binary64 x h)

-- and the rest is the sign
pub sign_part : (x : Float) → T (fits binary64 x)
    → to_bits binary64 x - to_bits binary64 x % 9223372036854775808 ≡ cond (negative x) 9223372036854775808 0
sign_part x h = go (negative x) (to_bits binary64 (absolute x)) (to_bits binary64 x) (bits_sign binary64 x) (magnitude_lt binary64 x h)
  where
    go : (s : Bool) (a b : ℕ) → b ≡ cond s 9223372036854775808 0 + a → a < 9223372036854775808
        → b - b % 9223372036854775808 ≡ cond s 9223372036854775808 0
    go true a b e l = omega arith
    go false a b e l = omega arith

-- the sign's bit added to a magnitude's bits
pub sign_on : (s : Bool) (y : Float) → T (not (is_nan y)) → negative y ≡ false
    → to_bits binary64 y + cond s 9223372036854775808 0 ≡ to_bits binary64 (cond s (neg y) y)
unfolding neg is_nan
sign_on false y k e = add-zero (to_bits binary64 y)
sign_on true nan k e = absurd k
sign_on true (inf true) k e = absurd (true≢false e)
sign_on true (inf false) k e = add_comm _ _ ∙ sym (bits_sign binary64 (inf true))
sign_on true (fin true m d) k e = absurd (true≢false e)
sign_on true (fin false m d) k e = add_comm _ _ ∙ sym (bits_sign binary64 (fin true m d))

pub magnitude_bits : (y : Float) → T (fits binary64 y) → negative y ≡ false → to_bits binary64 y < 9223372036854775808
magnitude_bits y h e = subst (λ (z : Float). to_bits binary64 z < 9223372036854775808) (no_sign y e) (magnitude_lt binary64 y h)

-- ---- the exponent

-- the leading digit, where there are 53 digits or more, adds one to the field
leading : (n z : ℕ) → size n ≡ z → z - 53 + n / 2 ^ (z - 53) / 4503599627370496 ≡ z - 52
leading n z e = go (lt_or_ge z 53)
  where
    upper : n / 2 ^ (z - 53) < 9007199254740992
    upper = subst (λ (x : ℕ). n / 2 ^ (x - 53) < 9007199254740992) e (kept-lt 53 n)

    few : z < 53 → z - 53 ≡ 0
    few h = omega arith

    none : (q : ℕ) → z < 53 → q < 4503599627370496 → z - 53 + q / 4503599627370496 ≡ z - 52
    none q h l = omega arith

    some : (q : ℕ) → 53 ≤ z → 4503599627370496 ≤ q → q < 9007199254740992 → z - 53 + q / 4503599627370496 ≡ z - 52
    some q h l u = omega arith

    within : 53 ≤ z → 52 + (z - 53) < z
    within h = omega arith

    go : (z < 53) ⊎ (53 ≤ z) → z - 53 + n / 2 ^ (z - 53) / 4503599627370496 ≡ z - 52
    go (inl h) =
        none (n / 2 ^ (z - 53)) h
        (subst (λ (x : ℕ). n / 2 ^ x < 4503599627370496) (sym (few h))
        (subst (λ (x : ℕ). x < 4503599627370496) (sym (div-one n)) (lt_of_lt_of_le (size-lt n) (le_trans (le_of_eq (ap (λ (x : ℕ). 2 ^ x) e)) (pow_mono (less h))))))
      where
        less : z < 53 → z ≤ 52
        less g = omega arith
    go (inr h) =
        some (n / 2 ^ (z - 53)) h
        ((le-div_iff_mul-le (pow_pos (z - 53))).1
        (le_trans (le_of_eq (sym (pow-add 2 52 (z - 53)))) (size_reaches n (52 + (z - 53)) (subst (λ (x : ℕ). 52 + (z - 53) < x) (sym e) (within h)))))
        upper

field : (k q : ℕ) → (0 + k * 4503599627370496 + q) / 4503599627370496 ≡ k + q / 4503599627370496
field k q = omega arith

pub exponent : (m : ℕ) (e : ℤ) → to_bits binary64 (fin false m e) / 4503599627370496 ≡ size (units_of binary64 m e) - 52
exponent m e =
    let n = units_of binary64 m e in
    ap (λ (b : ℕ). b / 4503599627370496) (to_bits_of binary64 false m e)
    ∙ field (size n - 53) (n / 2 ^ (size n - 53))
    ∙ leading n (size n) refl

-- ---- an exponent field alone is a power of two

of_bits_is : (b : ℕ)
    → of_bits binary64 b ≡ of_fields binary64 (leb 9223372036854775808 b) (b % 9223372036854775808 / 4503599627370496)
    (b % 4503599627370496)
unfolding of_bits
of_bits_is b = refl

under_ones : (x : ℕ) → suc x < 2047 → of_fields binary64 false (suc x) 0 ≡ odd 53 false 4503599627370496 x 1074
unfolding of_fields
under_ones x h =
    cond_no (eqb (suc x) 2047) (inf false) (odd 53 false 4503599627370496 x 1074) (not_T (eqb (suc x) 2047) (λ (t : T (eqb (suc x) 2047)). differ (eqb→eq (suc x) 2047 t)))
  where
    differ : suc x ≡ 2047 → ⊥
    differ e = omega arith

pub power : (x : ℕ) → suc x < 2047
    → HasValue (of_bits binary64 (suc x * 4503599627370496)) false (4503599627370496 * 2 ^ x) (2 ^ 1074)
power x h =
    subst (λ (v : Float). HasValue v false (4503599627370496 * 2 ^ x) (2 ^ 1074))
    (sym (of_bits_is (suc x * 4503599627370496)
    ∙ ap (λ (s : Bool). of_fields binary64 s (suc x * 4503599627370496 % 9223372036854775808 / 4503599627370496) (suc x * 4503599627370496 % 4503599627370496)) plus
    ∙ ap (λ (k : ℕ). of_fields binary64 false k (suc x * 4503599627370496 % 4503599627370496)) middle
    ∙ ap (λ (t : ℕ). of_fields binary64 false (suc x) t) (mul-mod_left (suc x) 4503599627370496)
    ∙ under_ones x h))
    (odd_sign 53 false 4503599627370496 x 1074)
  where
    below : suc x < 2047 → suc x * 4503599627370496 < 9223372036854775808
    below g = omega arith

    plus : leb 9223372036854775808 (suc x * 4503599627370496) ≡ false
    plus = is_false (leb 9223372036854775808 (suc x * 4503599627370496))
        (not_T (leb 9223372036854775808 (suc x * 4503599627370496)) (λ (t : T (leb 9223372036854775808 (suc x * 4503599627370496))).
        not-le_of_lt (below h) (leb→le 9223372036854775808 (suc x * 4503599627370496) t)))

    middle : suc x * 4503599627370496 % 9223372036854775808 / 4503599627370496 ≡ suc x
    middle = omega arith

pub no_nan : (k : ℕ) → k < 2047 → T (not (nan_bits binary64 (k * 4503599627370496)))
no_nan k h =
    subst (λ (b : Bool). T (not b)) (sym (nan_bits_above binary64 (k * 4503599627370496)))
    (le→nltb (2047 * 4503599627370496) (k * 4503599627370496 % 9223372036854775808) (under h))
  where
    under : k < 2047 → k * 4503599627370496 % 9223372036854775808 ≤ 2047 * 4503599627370496
    under g = omega arith

-- ---- bits that a test picks

pub bits_cond : (f : Format) (b : Bool) (x y : ℕ) → of_bits f (cond b x y) ≡ cond b (of_bits f x) (of_bits f y)
bits_cond f true x y = refl
bits_cond f false x y = refl
