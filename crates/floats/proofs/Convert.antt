-- Rust's `as` to an unsigned integer: 0 for what is not above −1, a NaN included, and the greatest number for what is
-- not below 2^w. Between the two it only cuts the fraction off, so it keeps the order of floats.
use Rattle.std.proofs.Common.{◌≡◌, ℕ, suc, ◌+◌, ◌-◌, ◌*◌, ◌/◌, ◌^◌, ◌<◌, ◌≤◌, min, max, Bool, true, false, cond, not, ◌&&◌, T, eqb, ltb, pos, negsuc, sym, refl, ap, ◌∙◌, ap₂, inl, inr, true≢false, zero-le, lt_trans, le_refl, mul_assoc, one-mul, zero-mul, mul-one, div-one, arith, lit≤, eqb→eq, ltb→lt, lt→ltb, shl_lt}
use mathlib.Core.Bool.{false≢true}
use native.Mathlib.Nat.{zero-div, eq_of_mul-eq-mul_right}
use lib.Pow.{pow-lt}
use lib.Ieee.{Float, nan, inf, fin, Format, binary64, up, down, is_nan, of_int, add, lt, le, div, round, to_unsigned}
use lib.Ieee.Fits.{and_l, and_r, down_pos}
use lib.Ieee.Nearest.{div_mono, div_same}
use lib.Ieee.Bits.{is_true}
use lib.Ieee.Exact.{HasValue, round_exact}
use lib.Ieee.Back.{round_whole}
use lib.Ieee.Order.{le_of_values}
use Rattle.folds.proofs.Tests.{or_split}
use Rattle.floats.specs.Signs.{negative}
use Rattle.floats.specs.MinMax.{min_number, max_number}
use Rattle.floats.proofs.Signs.{round_sign}
use Rattle.floats.proofs.Fractions.{rescale, lt_at, add_values}
use Rattle.floats.proofs.Order.{le_right, not_le→lt, lt_of_le_of_lt, min_either, min_le_left, min_le_right, max_either, max_ge_left, max_ge_right}
use Rattle.floats.proofs.Zeros.{plus_zero}
use Rattle.floats.proofs.Infinities.{Off, infinite, some}

-- 1/2
abbrev pub half : Float
half = fin false 1 (negsuc 0)

-- a number above 0 by the fraction that it equals
pub convert_value : (w : ℕ) (x : Float) (a c : ℕ) → 0 < c → HasValue x false a c
    → to_unsigned w x ≡ min (a / c) (2 ^ w - 1)
unfolding to_unsigned
convert_value w nan a c C v = elim v [ ]
convert_value w (inf _) a c C v = elim v [ ]
convert_value w (fin s m e) a c C v = rw v.0 (ap (λ (n : ℕ). min n (2 ^ w - 1)) (div_same (m * up e) (down e) a c (down_pos e) C v.1))

-- ---- the order

module _ (w : ℕ) where
  convert_mono : (x y : Float) → T (le x y) → to_unsigned w x ≤ to_unsigned w y
  unfolding to_unsigned le
  convert_mono nan y p = absurd p
  convert_mono (inf true) y p = zero-le
  convert_mono (inf false) nan p = absurd p
  convert_mono (inf false) (inf true) p = absurd p
  convert_mono (inf false) (inf false) p = le_refl (2 ^ w - 1)
  convert_mono (inf false) (fin t n d) p = absurd p
  convert_mono (fin true m e) y p = zero-le
  convert_mono (fin false m e) nan p = absurd p
  convert_mono (fin false m e) (inf true) p = absurd p
  convert_mono (fin false m e) (inf false) p = omega arith
  convert_mono (fin false m e) (fin true n d) p =
      let size = m * up e * down d in
      let e₀ = eqb→eq size 0 (and_r (eqb size (n * up d * down e)) (eqb size 0) p) in
      rw (eq_of_mul-eq-mul_right (down d) (down_pos d) (m * up e) 0 (e₀ ∙ sym (zero-mul (down d))), zero-div) (omega arith)
  convert_mono (fin false m e) (fin false n d) p =
      let a = m * up e * down d in
      let b = n * up d * down e in
      let cross : a ≤ b = elim (or_split (ltb a b) (eqb a b && true) p) [
        | inl t ↦ omega (arith, ltb→lt a b t)
        | inr t ↦ omega (arith, eqb→eq a b (and_l (eqb a b) true t))
      ] in
      let h = div_mono (m * up e) (down e) (n * up d) (down d) (down_pos e) (down_pos d) cross in
      omega arith

  convert_most : (x : Float) → to_unsigned w x ≤ 2 ^ w - 1
  unfolding to_unsigned
  convert_most nan = zero-le
  convert_most (inf true) = zero-le
  convert_most (inf false) = le_refl (2 ^ w - 1)
  convert_most (fin true m e) = zero-le
  convert_most (fin false m e) = omega arith

  -- what is not below 2^w converts to the greatest number
  pub convert_above : (x : Float) → T (le (fin false 1 (pos w)) x) → to_unsigned w x ≡ 2 ^ w - 1
  unfolding to_unsigned
  convert_above x p =
      let h : min (1 * 2 ^ w / 1) (2 ^ w - 1) ≤ to_unsigned w x = convert_mono (fin false 1 (pos w)) x p in
      let k = convert_most x in
      omega (arith, one-mul (2 ^ w), div-one (1 * 2 ^ w))

  pub convert_min : (a b : Float) → T (not (is_nan a)) → T (not (is_nan b))
      → to_unsigned w (min_number a b) ≡ min (to_unsigned w a) (to_unsigned w b)
  convert_min a b p q = elim (min_either a b) [
    | inl e ↦ rw e (let h : to_unsigned w a ≤ to_unsigned w b = convert_mono a b (rw e at (min_le_right a b q)) in omega arith)
    | inr e ↦ rw e (let h : to_unsigned w b ≤ to_unsigned w a = convert_mono b a (rw e at (min_le_left a b p)) in omega arith)
  ]

  pub convert_max : (a b : Float) → T (not (is_nan a)) → T (not (is_nan b))
      → to_unsigned w (max_number a b) ≡ max (to_unsigned w a) (to_unsigned w b)
  convert_max a b p q = elim (max_either a b) [
    | inl e ↦ rw e (let h : to_unsigned w b ≤ to_unsigned w a = convert_mono b a (rw e at (max_ge_right a b q)) in omega arith)
    | inr e ↦ rw e (let h : to_unsigned w a ≤ to_unsigned w b = convert_mono a b (rw e at (max_ge_left a b p)) in omega arith)
  ]

  -- what is below 1/2 converts to 0, as 1/2 does, and so does a NaN
  pub convert_max_half : (q : Float) → to_unsigned w (max_number half q) ≡ to_unsigned w q
  unfolding to_unsigned max_number lt is_nan
  convert_max_half nan = omega arith
  convert_max_half (inf true) = omega arith
  convert_max_half (inf false) = refl
  convert_max_half (fin s m e) = convert_max half (fin s m e) tt tt ∙ omega arith

  negative_none : (x : Float) → negative x ≡ true → to_unsigned w x ≡ 0
  unfolding to_unsigned
  negative_none nan h = absurd (false≢true h)
  negative_none (inf s) h = rw h
  negative_none (fin s m e) h = rw h

  -- what is below 0, over a number above 0
  pub under_div : (f : Format) {z : Float} (y : Float) → Off true z → T (lt plus_zero y) → to_unsigned w (div f z y) ≡ 0
  unfolding lt div to_unsigned
  under_div f nan u p = absurd p
  under_div f (inf true) u p = absurd p
  under_div f (inf false) infinite p = refl
  under_div f (inf false) some p = refl
  under_div f (fin true n d) u p = absurd p
  under_div f (fin false n d) infinite p = refl
  under_div f (fin false n d) (some {s} {m} {e}) p = go (eqb n 0) (eqb (suc m) 0)
    where
      go : (a b : Bool)
          → to_unsigned w (cond a (cond b nan (inf true)) (round f true (suc m * up e * down d) (n * up d * down e)))
          ≡ 0
      go true true = refl
      go true false = refl
      go false b =
          negative_none (round f true (suc m * up e * down d) (n * up d * down e))
          (round_sign f true (suc m * up e * down d) (n * up d * down e))

-- ---- what `whole_part` asks, of a float held to at least 1/2

pub from_half : (q : Float) → T (le half (max_number half q))
unfolding is_nan
from_half q = max_ge_left half q tt

pub half_below : (q : Float) → le (fin false 1 (pos 53)) q ≡ false → T (lt (max_number half q) (fin false 1 (pos 53)))
unfolding is_nan lt
half_below q under = elim (max_either half q) [
  | inl e ↦ rw e tt
  | inr e ↦ rw e (not_le→lt q (fin false 1 (pos 53)) (le_right half q (rw e at (from_half q))) tt (λ t. true≢false (sym (is_true _ t) ∙ under)))
]

-- ---- a float held between 1/2 and 1/2 past a whole number

abbrev pub past_half : ℕ → Float
past_half last = add binary64 (of_int binary64 (pos last)) half

abbrev pub held : ℕ → Float → Float
held last q = min_number (past_half last) (max_number half q)

module _ (last : ℕ) (few : last < 2 ^ 52) (q : Float) where
  past_value : HasValue (past_half last) false (last * 2 + 1) 2
  unfolding of_int
  past_value =
      rw (add_values binary64 (of_int binary64 (pos last)) half (last * 2) 1 2 (lit≤ tt)
      (rescale (of_int binary64 (pos last)) false last 1 (last * 2) 2 (lit≤ tt) (sym (mul-one (last * 2))) (round_whole binary64 false last (omega arith))) (refl, refl))
      (round_exact binary64 false (last * 2 + 1) 2 (last * 2 + 1) 1073 (lit≤ tt) (omega arith)
      (lt_trans (shl_lt 53 1073 (omega arith)) (pow-lt {i = 1126} {j = 2098} (lit≤ tt))) (sym (mul_assoc (last * 2 + 1) (2 ^ 1073) 2)))

  past_from : T (le half (past_half last))
  past_from = le_of_values half (past_half last) 1 2 (last * 2 + 1) 2 (lit≤ tt) (lit≤ tt) (refl, refl) past_value (omega arith)

  -- what the cut asks
  pub held_range : T (le half (held last q)) × T (lt (held last q) (fin false 1 (pos 53)))
  held_range = (
    elim (min_either (past_half last) (max_number half q)) [
      | inl e ↦ rw e past_from
      | inr e ↦ rw e (from_half q)
    ],
    lt_of_le_of_lt (held last q) (past_half last) (fin false 1 (pos 53))
        (min_le_left (past_half last) (max_number half q) (le_right half (past_half last) past_from))
        (rw (lt_at false false (last * 2 + 1) 2 (2 ^ 53) 1 (lit≤ tt) (lit≤ tt) (past_half last) (fin false 1 (pos 53)) past_value (refl, refl)) (lt→ltb ((last * 2 + 1) * 1) (2 ^ 53 * 2) (omega arith))),
  )

  past_is : to_unsigned 64 (past_half last) ≡ last
  past_is = convert_value 64 (past_half last) (last * 2 + 1) 2 (lit≤ tt) past_value ∙ omega arith

  pub held_is : to_unsigned 64 (held last q) ≡ min last (to_unsigned 64 q)
  held_is =
      convert_min 64 (past_half last) (max_number half q) (le_right half (past_half last) past_from) (le_right half (max_number half q) (from_half q))
      ∙ ap₂ min past_is (convert_max_half 64 q)
