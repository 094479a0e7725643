-- Zeros: adding one changes no number but −0, a product with one is a zero, and so is a number minus an equal one.
use Rattle.std.proofs.Common.{◌≡◌, ℕ, zero, suc, ◌+◌, ◌*◌, ◌<◌, Bool, true, false, not, ◌&&◌, ◌||◌, T, eqb, ◌⊎◌, ℤ, pos, sym, refl, ◌∙◌, subst, inl, inr, le_refl, add-zero, zero-lt-suc, mul-pos, one-mul, mul-zero, zero-add, zero-mul, mul-one, arith, eqb→eq, ltb→lt, lt→ltb, le-ltb, lt-ltb}
use mathlib.Core.Bool.{beq}
use native.Mathlib.Nat.{sub-zero, sub_self}
use lib.Ieee.{Float, nan, inf, fin, Format, binary32, binary64, up, down, unlike, level, round, of_int, sum, add, sub, neg, mul, lt, eq, fits}
use lib.Ieee.Fits.{up_pos, down_pos, and_i, and_l, and_r, eq→eqb}
use lib.Ieee.Scale.{round_same, finite}
use Rattle.folds.proofs.Tests.{or_r}
use Rattle.floats.proofs.Values.{round_self}

abbrev pub plus_zero : Float
plus_zero = fin false 0 (pos 0)

abbrev pub minus_zero : Float
minus_zero = fin true 0 (pos 0)

pub round_zero : (f : Format) (s : Bool) (c : ℕ) → 0 < c → round f s 0 c ≡ fin s 0 (pos 0)
unfolding round
round_zero f s c C = round_same f s 0 c 0 1 C (omega arith) (omega arith) ∙ unit f
  where
    unit : (f : Format) → round f s 0 1 ≡ fin s 0 (pos 0)
    unit binary32 = refl
    unit binary64 = refl

-- one way to write a zero
one_zero : (f : Format) (s : Bool) (e : ℤ) → T (fits f (fin s 0 e)) → fin s 0 e ≡ fin s 0 (pos 0)
one_zero f s e t = sym (round_self f s 0 e t) ∙ rw zero-mul (round_zero f s (down e) (down_pos e))

-- ±0 / c + ±b / c, for a b above 0
sum_plus_zero : (f : Format) (s t : Bool) (b c : ℕ) → 0 < b → sum f s 0 t b c ≡ round f t b c
unfolding sum
sum_plus_zero f true true b c h = rw zero-add
sum_plus_zero f false false b c h = rw zero-add
sum_plus_zero f true false b c h = rw (lt-ltb 0 b h, sub-zero)
sum_plus_zero f false true b c h = rw (lt-ltb 0 b h, sub-zero)

plus_zero_sum : (f : Format) (s t : Bool) (a c : ℕ) → 0 < a → sum f s a t 0 c ≡ round f s a c
unfolding sum
plus_zero_sum f true true a c h = rw add-zero
plus_zero_sum f false false a c h = rw add-zero
plus_zero_sum f true false a c h = rw (le-ltb a 0 (omega arith), lt-ltb 0 a h, sub-zero)
plus_zero_sum f false true a c h = rw (le-ltb a 0 (omega arith), sub-zero)

sum_zeros : (f : Format) (s t : Bool) (c : ℕ) → 0 < c → sum f s 0 t 0 c ≡ fin (s && t) 0 (pos 0)
unfolding sum
sum_zeros f true true c C = round_zero f true c C
sum_zeros f false false c C = round_zero f false c C
sum_zeros f true false c C = round_zero f false c C
sum_zeros f false true c C = round_zero f false c C

size_pos : (n : ℕ) (d : ℤ) → 0 < suc n * up d
size_pos n d = mul-pos (zero-lt-suc n) (up_pos d)

add_is : (f : Format) (s : Bool) (m : ℕ) (e : ℤ) (t : Bool) (n : ℕ) (d : ℤ)
    → add f (fin s m e) (fin t n d) ≡ sum f s (m * up e * down d) t (n * up d * down e) (down e * down d)
unfolding add
add_is f s m e t n d = refl

mul_is : (f : Format) (s : Bool) (m : ℕ) (e : ℤ) (t : Bool) (n : ℕ) (d : ℤ)
    → mul f (fin s m e) (fin t n d) ≡ round f (unlike s t) (m * up e * (n * up d)) (down e * down d)
unfolding mul
mul_is f s m e t n d = refl

module _ (f : Format) where
  left_is : (s : Bool) (n : ℕ) (d : ℤ) → add f plus_zero (fin s n d) ≡ sum f false 0 s (n * up d) (down d)
  left_is s n d = add_is f false 0 (pos 0) s n d ∙ rw (zero-mul, mul-one, one-mul)

  right_is : (s : Bool) (m : ℕ) (e : ℤ) (t : Bool)
      → add f (fin s m e) (fin t 0 (pos 0)) ≡ sum f s (m * up e) t 0 (down e)
  right_is s m e t = add_is f s m e t 0 (pos 0) ∙ rw (mul-one, zero-mul, mul-one)

  plus_zero_add_fin : (s : Bool) (n : ℕ) (d : ℤ) → T (fits f (fin s n d))
      → (add f plus_zero (fin s n d) ≡ fin s n d)
      ⊎ ((fin s n d ≡ minus_zero) × (add f plus_zero (fin s n d) ≡ plus_zero))
  plus_zero_add_fin s (suc n) d t = inl (left_is s (suc n) d ∙ sum_plus_zero f false s (suc n * up d) (down d) (size_pos n d) ∙ round_self f s (suc n) d t)
  plus_zero_add_fin false zero d t = inl (left_is false 0 d ∙ rw zero-mul (sum_zeros f false false (down d) (down_pos d)) ∙ sym (one_zero f false d t))
  plus_zero_add_fin true zero d t = inr (one_zero f true d t, left_is true 0 d ∙ rw zero-mul (sum_zeros f false true (down d) (down_pos d)))

  pub plus_zero_add : (x : Float) → T (fits f x)
      → (add f plus_zero x ≡ x) ⊎ ((x ≡ minus_zero) × (add f plus_zero x ≡ plus_zero))
  unfolding add
  plus_zero_add nan t = inl refl
  plus_zero_add (inf s) t = inl refl
  plus_zero_add (fin s n d) t = plus_zero_add_fin s n d t

  -- a number that is no −0 stands
  pub add_plus_zero : (s : Bool) (m : ℕ) (e : ℤ) (t : Bool) → T (fits f (fin s m e)) → (fin s m e ≡ minus_zero → ⊥)
      → add f (fin s m e) (fin t 0 (pos 0)) ≡ fin s m e
  add_plus_zero s (suc m) e t h k = right_is s (suc m) e t ∙ plus_zero_sum f s t (suc m * up e) (down e) (size_pos m e) ∙ round_self f s (suc m) e h
  add_plus_zero false zero e t h k = right_is false 0 e t ∙ rw zero-mul (sum_zeros f false t (down e) (down_pos e)) ∙ sym (one_zero f false e h)
  add_plus_zero true zero e t h k = absurd (k (one_zero f true e h))

  -- and −0 takes the sign of the zero that is added
  pub add_minus_zero : (t : Bool) → add f minus_zero (fin t 0 (pos 0)) ≡ fin t 0 (pos 0)
  add_minus_zero t = right_is true 0 (pos 0) t ∙ sum_zeros f true t 1 (omega arith)

  -- ---- products with +0

  pub plus_zero_mul : (t : Bool) (n : ℕ) (d : ℤ) → mul f plus_zero (fin t n d) ≡ fin t 0 (pos 0)
  plus_zero_mul t n d = mul_is f false 0 (pos 0) t n d ∙ rw zero-mul (round_zero f (unlike false t) (1 * down d) (omega (arith, one-mul (down d), down_pos d)) ∙ sign t)
    where
      sign : (t : Bool) → fin (unlike false t) 0 (pos 0) ≡ fin t 0 (pos 0)
      sign true = refl
      sign false = refl

  pub mul_plus_zero : (m : ℕ) (e : ℤ) → mul f (fin false m e) plus_zero ≡ plus_zero
  mul_plus_zero m e = mul_is f false m e false 0 (pos 0) ∙ rw mul-zero (round_zero f false (down e * 1) (omega (arith, mul-one (down e), down_pos e)))

  -- a number minus itself
  sum_self : (s : Bool) (a c : ℕ) → 0 < c → sum f s a (not s) a c ≡ plus_zero
  unfolding sum
  sum_self true a c C = rw (le-ltb a a (le_refl a), sub_self) (round_zero f false c C)
  sum_self false a c C = rw (le-ltb a a (le_refl a), sub_self) (round_zero f false c C)

  pub sub_same : (s : Bool) (m : ℕ) (e : ℤ) → sub f (fin s m e) (fin s m e) ≡ plus_zero
  unfolding sub neg
  sub_same s m e = add_is f s m e (not s) m e ∙ sum_self s (m * up e * down e) (down e * down e) (mul-pos (down_pos e) (down_pos e))

  -- and minus an equal one
  sum_level : (s t : Bool) (a b c : ℕ) → 0 < c → T (level s a t b)
      → (r : Bool) × (sum f t b (not s) a c ≡ fin r 0 (pos 0))
  sum_level s t a b c C h = go s t (and_r (eqb a b) (beq s t || eqb a 0) h)
    where
      same : a ≡ b
      same = eqb→eq a b (and_l (eqb a b) (beq s t || eqb a 0) h)

      go : (s t : Bool) → T (beq s t || eqb a 0) → (r : Bool) × (sum f t b (not s) a c ≡ fin r 0 (pos 0))
      go true true k = (false, rw (← same) (sum_self true a c C))
      go false false k = (false, rw (← same) (sum_self false a c C))
      go true false k = (false, rw (← same, eqb→eq a 0 k) (sum_zeros f false false c C))
      go false true k = (true, rw (← same, eqb→eq a 0 k) (sum_zeros f true true c C))

  pub sub_level : (x y : Float) → T (finite x) → T (eq x y) → (r : Bool) × (sub f y x ≡ fin r 0 (pos 0))
  unfolding eq sub add neg
  sub_level nan y p t = absurd t
  sub_level (inf s) y p t = absurd p
  sub_level (fin s m e) nan p t = absurd t
  sub_level (fin s m e) (inf t) p h = absurd h
  sub_level (fin s m e) (fin t n d) p h =
      sum_level s t (m * up e * down d) (n * up d * down e) (down d * down e) (mul-pos (down_pos d) (down_pos e)) h

-- 0, converted, times a positive number
pub zero_mul_positive : (x : Float) → T (lt plus_zero x) → T (finite x)
    → mul binary64 (of_int binary64 (pos 0)) x ≡ plus_zero
unfolding of_int lt
zero_mul_positive nan p q = absurd p
zero_mul_positive (inf s) p q = absurd q
zero_mul_positive (fin true n d) p q = absurd p
zero_mul_positive (fin false n d) p q = plus_zero_mul binary64 false n d

-- ---- −0 and +0 compare alike

pub plus_zero_eq : (x : Float) → T (eq minus_zero x) → T (eq plus_zero x)
unfolding eq
plus_zero_eq nan t = t
plus_zero_eq (inf s) t = t
plus_zero_eq (fin s m e) t =
    let like = eqb (0 * down e) (m * up e * 1) in
    and_i like (beq false s || eqb (0 * down e) 0) (and_l like (beq true s || eqb (0 * down e) 0) t)
    (or_r (beq false s) (eqb (0 * down e) 0) (eq→eqb (zero-mul (down e))))

pub plus_zero_lt : (x : Float) → T (lt x minus_zero) → T (lt x plus_zero)
unfolding lt
plus_zero_lt nan t = t
plus_zero_lt (inf s) t = t
plus_zero_lt (fin false m e) t = absurd t
plus_zero_lt (fin true m e) t = lt→ltb 0 (m * up e * 1 + 0 * down e) (omega (arith, ltb→lt (0 * down e) (m * up e * 1) t))

-- ---- 0 + y is y but for its sign where it is −0, and that is lost in x − y for an x below y

-- a zero of either sign, taken from a number that is none
minus_either_zero : (f : Format) (x : Float) → T (fits f x) → T (lt x minus_zero)
    → sub f x plus_zero ≡ sub f x minus_zero
unfolding sub neg lt
minus_either_zero f nan t h = absurd h
minus_either_zero f (inf s) t h = refl
minus_either_zero f (fin s m e) t h = add_plus_zero f s m e true t none ∙ sym (add_plus_zero f s m e false t none)
  where
    none : fin s m e ≡ minus_zero → ⊥
    none k = subst (λ (x : Float). T (lt x minus_zero)) k h

pub sub_plus_zero_add : (f : Format) (x y : Float) → T (fits f x) → T (fits f y) → T (lt x y)
    → sub f x (add f plus_zero y) ≡ sub f x y
sub_plus_zero_add f x y t u h = elim (plus_zero_add f y u) [
  | inl k ↦ rw k
  | inr k ↦ rw (k.1, k.0) (minus_either_zero f x t (rw k.0 at h))
]
