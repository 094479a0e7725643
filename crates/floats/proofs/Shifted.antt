-- An f64 from 1/2 up to 2^53 has 53 digits, the first of them a one. Shifted by 1075 minus the exponent field, they are
-- its whole part: in units of 2 ^ -1074 the number N has its digits N / 2 ^ k, and N / 2 ^ k / 2 ^ (1074 - k) is
-- N / 2 ^ 1074.
use Rattle.std.proofs.Common.{◌≡◌, ℕ, ◌+◌, ◌-◌, ◌*◌, ◌/◌, ◌%◌, ◌^◌, ◌<◌, ◌≤◌, min, Bool, true, false, T, ℤ, pos, sym, refl, ap, ◌∙◌, inl, inr, lt_of_lt_of_le, lt_of_le_of_lt, lt_irrefl, div-lt_iff_lt-mul, mul-one, arith, lit≤, ltb→lt, leb→le, pow_pos, pow_mono, pow-add, shl_lt, shr-shr}
use lib.Ieee.{Float, nan, inf, fin, binary64, size, below, fits, lt, le, to_bits, to_unsigned}
use lib.Ieee.Exact.{HasValue}
use lib.Ieee.Digits.{size-lt, size-le}
use Rattle.folds.proofs.Tests.{lt_or_ge}
use Rattle.floats.proofs.Order.{gain, loss}
use Rattle.floats.proofs.Fields.{exponent}
use Rattle.floats.proofs.Fractions.{lt_at, le_at}
use Rattle.floats.proofs.Convert.{half, convert_value}
use Rattle.floats.proofs.Values.{units_of, in_format, units_value, to_bits_of}

-- ---- the number in units, and how many digits it has

module _ (s : Bool) (m : ℕ) (e : ℤ) (p : T (fits binary64 (fin s m e))) where
  abbrev N : ℕ
  N = units_of binary64 m e

  value : HasValue (fin s m e) s N (2 ^ 1074)
  value = units_value binary64 s m e (in_format binary64 s m e p)

  units_from_half : T (le half (fin s m e))
      → gain false (1 * 2 ^ 1074) + loss s (N * 2) ≤ gain s (N * 2) + loss false (1 * 2 ^ 1074)
  units_from_half h = leb→le _ _ (rw (le_at false s 1 2 N (2 ^ 1074) (lit≤ tt) (pow_pos 1074) half (fin s m e) (refl, refl) value) at h)

  to_2_53 : T (lt (fin s m e) (fin false 1 (pos 53))) → T (below s (N * 1) false (2 ^ 53 * 2 ^ 1074))
  to_2_53 h = rw (lt_at s false N (2 ^ 1074) (2 ^ 53) 1 (pow_pos 1074) (lit≤ tt) (fin s m e) (fin false 1 (pos 53)) value (refl, refl)) at h

digits_least : (n : ℕ) → 1 * 2 ^ 1074 + 0 ≤ n * 2 + 0 → 1074 ≤ size n
digits_least n h = elim (lt_or_ge (size n) 1074) [
  | inl l ↦
      let few : size n ≤ 1073 = omega (arith, l) in
      absurd (lt_irrefl (2 ^ 1074) (lt_of_le_of_lt (twice (2 ^ 1074) h) (shl_lt 1073 1 (lt_of_lt_of_le (size-lt n) (pow_mono few)))))
  | inr l ↦ l
]
  where
    twice : (a : ℕ) → 1 * a + 0 ≤ n * 2 + 0 → a ≤ n * 2
    twice a h = omega arith

digits_most : (n : ℕ) → n * 1 < 2 ^ 53 * 2 ^ 1074 → size n ≤ 1127
digits_most n h = size-le n 1127 (rw (← pow-add, mul-one) at h)

-- ---- the bits, whose lower part is the digits without the leading one, and whose upper part is the exponent field

module _ (b n : ℕ) (least : 1074 ≤ size n) (most : size n ≤ 1127)
    (bits : b ≡ 0 + (size n - 53) * 4503599627370496 + n / 2 ^ (size n - 53))
    (field : b / 4503599627370496 ≡ size n - 52) where
  shifted : (b % 4503599627370496 + 4503599627370496) / 2 ^ (1075 - b / 4503599627370496) ≡ n / 2 ^ 1074
  shifted =
      let k = size n - 53 in
      let digits : b % 4503599627370496 + 4503599627370496 ≡ n / 2 ^ k = omega arith in
      let places : 1075 - b / 4503599627370496 ≡ 1074 - k = omega arith in
      let all : k + (1074 - k) ≡ 1074 = omega arith in
      rw (digits, places) (shr-shr n k (1074 - k) ∙ ap (λ (j : ℕ). n / 2 ^ j) all)

-- the bits of x, as `whole_part` shifts them
pub record ShiftedDigits (x : Float) : Type 0 where
  pub least : 1022 ≤ to_bits binary64 x / 4503599627370496
  pub most : to_bits binary64 x / 4503599627370496 ≤ 1075
  pub is : (to_bits binary64 x % 4503599627370496 + 4503599627370496) / 2 ^
      (1075 - to_bits binary64 x / 4503599627370496)
      ≡ to_unsigned 64 x

uncapped : (n : ℕ) → n < 2 ^ 53 → min n (2 ^ 64 - 1) ≡ n
uncapped n h = omega arith

pub shifted_digits : (x : Float) → T (fits binary64 x) → T (le half x) → T (lt x (fin false 1 (pos 53)))
    → ShiftedDigits x
unfolding le lt
shifted_digits nan p from to = absurd from
shifted_digits (inf true) p from to = absurd from
shifted_digits (inf false) p from to = absurd to
shifted_digits (fin true m e) p from to = absurd (no_less (2 ^ 1074) (pow_pos 1074) (units_from_half true m e p from))
  where
    no_less : (a : ℕ) → 0 < a → 1 * a + units_of binary64 m e * 2 ≤ 0 → ⊥
    no_less a h l = omega arith
shifted_digits (fin false m e) p from to =
    let n = units_of binary64 m e in
    let small : n * 1 < 2 ^ 53 * 2 ^ 1074 = ltb→lt _ _ (to_2_53 false m e p to) in
    let least = digits_least n (units_from_half false m e p from) in
    let most = digits_most n small in
    let field = exponent m e in
    let under : n / 2 ^ 1074 < 2 ^ 53 = (div-lt_iff_lt-mul (pow_pos 1074)).1 (rw mul-one at small) in
    record {
      least = omega arith;
      most = omega arith;
      is = shifted _ n least most (to_bits_of binary64 false m e) field ∙ sym (convert_value 64 (fin false m e) n (2 ^ 1074) (pow_pos 1074) (value false m e p) ∙ uncapped (n / 2 ^ 1074) under);
    }
