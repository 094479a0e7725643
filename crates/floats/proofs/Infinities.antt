-- Infinities: what is no zero, over +0 or times an infinity, is an infinity of the sign that the two signs make; a zero
-- there gives a NaN.
use Rattle.std.proofs.Common.{◌≡◌, ℕ, zero, suc, ◌+◌, ◌*◌, ◌<◌, Bool, true, false, cond, T, eqb, ℤ, pos, refl, zero-mul, arith, ltb→lt}
use lib.Dec.{eqb-suc-zero}
use lib.Ieee.{Float, nan, inf, fin, Format, up, down, unlike, neg, add, sub, mul, div, lt, eq}
use lib.Ieee.Scale.{finite}
use Rattle.floats.proofs.Zeros.{plus_zero, sub_level}

-- ---- what is no zero, with its sign

pub data Off : Bool → Float → Type 0 where
  infinite : {s : Bool} → Off s (inf s)
  some : {s : Bool} {m : ℕ} {e : ℤ} → Off s (fin s (suc m) e)

pub off_above_zero : (z : Float) → T (lt plus_zero z) → Off false z
unfolding lt
off_above_zero nan t = absurd t
off_above_zero (inf true) t = absurd t
off_above_zero (inf false) t = infinite
off_above_zero (fin true m e) t = absurd t
off_above_zero (fin false zero e) t = absurd (no (ltb→lt (0 * down e) (0 * up e * 1) t))
  where
    no : 0 * down e < 0 * up e * 1 → ⊥
    no h = omega (arith, zero-mul (up e), zero-mul (down e))
off_above_zero (fin false (suc m) e) t = some

pub off_below_zero : (z : Float) → T (lt z plus_zero) → Off true z
unfolding lt
off_below_zero nan t = absurd t
off_below_zero (inf true) t = infinite
off_below_zero (inf false) t = absurd t
off_below_zero (fin false m e) t = absurd (no (ltb→lt (m * up e * 1) (0 * down e) t))
  where
    no : m * up e * 1 < 0 * down e → ⊥
    no h = omega (arith, zero-mul (down e))
off_below_zero (fin true zero e) t = absurd (no (ltb→lt 0 (0 * up e * 1 + 0 * down e) t))
  where
    no : 0 < 0 * up e * 1 + 0 * down e → ⊥
    no h = omega (arith, zero-mul (up e), zero-mul (down e))
off_below_zero (fin true (suc m) e) t = some

module _ (f : Format) where
  -- ---- over +0

  pub off_div : {s : Bool} {z : Float} → Off s z → div f z plus_zero ≡ inf (unlike s false)
  unfolding div
  off_div infinite = refl
  off_div (some {s} {m}) = rw (eqb-suc-zero m)

  pub never_finite : (z : Float) → finite (div f z plus_zero) ≡ false
  unfolding div
  never_finite nan = refl
  never_finite (inf s) = refl
  never_finite (fin s m e) = go (eqb m 0)
    where
      go : (b : Bool) → finite (cond b nan (inf (unlike s false))) ≡ false
      go true = refl
      go false = refl

  -- the difference of two that are equal
  pub level_div : (x y : Float) → T (eq x y) → div f (sub f y x) plus_zero ≡ nan
  unfolding eq sub add neg div
  level_div nan y t = absurd t
  level_div (inf s) nan t = absurd t
  level_div (inf true) (inf true) t = refl
  level_div (inf true) (inf false) t = absurd t
  level_div (inf false) (inf true) t = absurd t
  level_div (inf false) (inf false) t = refl
  level_div (inf s) (fin t n d) h = absurd h
  level_div (fin s m e) y t = rw (sub_level f (fin s m e) y tt t).1

  -- ---- with an infinity

  pub off_mul : {s : Bool} {z : Float} (t : Bool) → Off s z → mul f z (inf t) ≡ inf (unlike s t)
  unfolding mul
  off_mul t infinite = refl
  off_mul t (some {s} {m}) = rw (eqb-suc-zero m)

  pub zero_mul_infinite : (r t : Bool) → mul f (fin r 0 (pos 0)) (inf t) ≡ nan
  unfolding mul
  zero_mul_infinite r t = refl

  pub add_infinite : (x : Float) (s : Bool) → T (finite x) → add f x (inf s) ≡ inf s
  unfolding add
  add_infinite nan s p = absurd p
  add_infinite (inf u) s p = absurd p
  add_infinite (fin u m e) s p = refl

  infinite_div : (s : Bool) (y : Float) → finite (div f (inf s) y) ≡ false
  unfolding div
  infinite_div s nan = refl
  infinite_div s (inf t) = refl
  infinite_div s (fin t n d) = refl

  -- an infinity minus a number, over another
  pub infinite_minus : (s : Bool) (x y : Float) → finite (div f (sub f (inf s) x) y) ≡ false
  unfolding sub add neg div
  infinite_minus s nan y = refl
  infinite_minus true (inf true) y = refl
  infinite_minus true (inf false) y = infinite_div true y
  infinite_minus false (inf true) y = infinite_div false y
  infinite_minus false (inf false) y = refl
  infinite_minus s (fin t n d) y = infinite_div s y
