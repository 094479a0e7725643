-- Operations and comparisons of finite floats by the fractions that they equal: where x is ±a/c and y is ±b/d, a
-- comparison is that of a·d with b·c, and an operation is one rounding of the exact result, however the two floats are
-- written.
use Rattle.std.proofs.Common.{◌≡◌, ℕ, zero, suc, ◌+◌, ◌-◌, ◌*◌, ◌^◌, ◌<◌, ◌≤◌, Bool, true, false, cond, not, ◌&&◌, ◌||◌, eqb, ltb, leb, sym, refl, ap, ◌∙◌, ap₂, add-zero, lt_irrefl, mul-le-mul_right, zero-lt-suc, mul_assoc, mul_comm, add-mul, add_comm, mul-lt-mul_of_pos_right, mul-pos, zero-mul, mul_right_comm, mul_left_comm, ltb-false, ltb-true, le-ltb, lt-ltb, eq-eqb, ne_eqb, eqb-true}
use mathlib.Core.Bool.{beq}
use native.Mathlib.Nat.{mul-mul-mul_comm}
use native.Mathlib.Nat.{mul-sub, eq_of_mul-eq-mul_right}
use borrow.Author.Tests.{eqb-false}
use lib.Dec.{eqb-suc-zero}
use lib.Ieee.{Float, nan, inf, fin, Format, prec, emax, low, up, down, unlike, below, level, odd, units, round, sum, neg, add, sub, div, lt, eq, le}
use lib.Ieee.Fits.{up_pos, down_pos, round_is}
use lib.Ieee.Exact.{HasValue}
use lib.Ieee.Scale.{round_same}
use Rattle.floats.proofs.Order.{lt_or_eq, gain, loss, below_is, level_is}

-- from one fraction to another of the same size
pub rescale : (x : Float) (s : Bool) (a c b d : ℕ) → 0 < c → a * d ≡ b * c → HasValue x s a c → HasValue x s b d
rescale nan s a c b d C h v = elim v [ ]
rescale (inf _) s a c b d C h v = elim v [ ]
rescale (fin t m e) s a c b d C h v = (
  v.0,
  eq_of_mul-eq-mul_right c C (m * up e * d) (b * down e)
      (mul_right_comm (m * up e) d c ∙ ap (λ (z : ℕ). z * d) v.1 ∙ mul_right_comm a (down e) d ∙ ap (λ (z : ℕ). z * down e) h ∙ mul_right_comm b c (down e)),
)

pub neg_value : (x : Float) (s : Bool) (a c : ℕ) → HasValue x s a c → HasValue (neg x) (not s) a c
unfolding neg
neg_value nan s a c v = elim v [ ]
neg_value (inf _) s a c v = elim v [ ]
neg_value (fin u m e) s a c v = (ap not v.0, v.1)

pub sub_mul : (a b c : ℕ) → (a - b) * c ≡ a * c - b * c
sub_mul a b c = mul_comm (a - b) c ∙ mul-sub c a b ∙ ap₂ ◌-◌ (mul_comm c a) (mul_comm c b)

-- ---- a common factor changes no comparison
ltb_scale : (a b k : ℕ) → 0 < k → ltb (a * k) (b * k) ≡ ltb a b
ltb_scale a b k K = go (ltb a b) refl
  where
    go : (r : Bool) → ltb a b ≡ r → ltb (a * k) (b * k) ≡ r
    go true e = lt-ltb (a * k) (b * k) (mul-lt-mul_of_pos_right (ltb-true a b e) K)
    go false e = le-ltb (a * k) (b * k) (mul-le-mul_right k (ltb-false a b e))

eqb_scale : (a b k : ℕ) → 0 < k → eqb (a * k) (b * k) ≡ eqb a b
eqb_scale a b k K = go (eqb a b) refl
  where
    go : (r : Bool) → eqb a b ≡ r → eqb (a * k) (b * k) ≡ r
    go true e = eq-eqb (a * k) (b * k) (ap (λ (z : ℕ). z * k) (eqb-true a b e))
    go false e = ne_eqb (a * k) (b * k) (λ (h : a * k ≡ b * k). eqb-false a b e (eq_of_mul-eq-mul_right k K a b h))

leb_scale : (a b k : ℕ) → 0 < k → leb (a * k) (b * k) ≡ leb a b
leb_scale a b k K = sym (lt_or_eq (a * k) (b * k)) ∙ ap₂ ◌||◌ (ltb_scale a b k K) (eqb_scale a b k K) ∙ lt_or_eq a b

below_scale : (s : Bool) (a : ℕ) (t : Bool) (b k : ℕ) → 0 < k → below s (a * k) t (b * k) ≡ below s a t b
below_scale false a false b k K = ltb_scale a b k K
below_scale false a true b k K = refl
below_scale true a false b k K = rw (← add-mul) (ap (λ (z : ℕ). ltb z ((a + b) * k)) (sym (zero-mul k)) ∙ ltb_scale 0 (a + b) k K)
below_scale true a true b k K = ltb_scale b a k K

level_scale : (s : Bool) (a : ℕ) (t : Bool) (b k : ℕ) → 0 < k → level s (a * k) t (b * k) ≡ level s a t b
level_scale s a t b k K =
    ap₂ (λ (p q : Bool). p && (beq s t || q)) (eqb_scale a b k K) (ap (eqb (a * k)) (sym (zero-mul k)) ∙ eqb_scale a 0 k K)

-- x / e is a / c, so x · g over e · g is a · d over c · d
cross : (x e a c g d : ℕ) → x * c ≡ a * e → x * g * (c * d) ≡ a * d * (e * g)
cross x e a c g d h = mul-mul-mul_comm x g c d ∙ ap (λ (z : ℕ). z * (g * d)) h ∙ simp (mul_assoc, mul_comm, mul_left_comm)

cross' : (y g b d e c : ℕ) → y * d ≡ b * g → y * e * (c * d) ≡ b * c * (e * g)
cross' y g b d e c h = ap (λ (z : ℕ). y * e * z) (mul_comm c d) ∙ cross y g b d e c h ∙ ap (λ (z : ℕ). b * c * z) (mul_comm g e)

sum_like : (f : Format) (s : Bool) (a b c : ℕ) → sum f s a s b c ≡ round f s (a + b) c
unfolding sum
sum_like f true a b c = refl
sum_like f false a b c = refl

module _ (s t : Bool) (a c b d : ℕ) (C : 0 < c) (D : 0 < d) where
  pub lt_at : (x y : Float) → HasValue x s a c → HasValue y t b d → lt x y ≡ below s (a * d) t (b * c)
  unfolding lt
  lt_at nan y v w = elim v [ ]
  lt_at (inf _) y v w = elim v [ ]
  lt_at (fin s' m e) nan v w = elim w [ ]
  lt_at (fin s' m e) (inf _) v w = elim w [ ]
  lt_at (fin s' m e) (fin t' n g) v w =
      sym (below_scale s' (m * up e * down g) t' (n * up g * down e) (c * d) (mul-pos C D))
      ∙ rw (v.0, w.0, cross (m * up e) (down e) a c (down g) d v.1, cross' (n * up g) (down g) b d (down e) c w.1)
      (below_scale s (a * d) t (b * c) (down e * down g) (mul-pos (down_pos e) (down_pos g)))

  pub eq_at : (x y : Float) → HasValue x s a c → HasValue y t b d → eq x y ≡ level s (a * d) t (b * c)
  unfolding eq
  eq_at nan y v w = elim v [ ]
  eq_at (inf _) y v w = elim v [ ]
  eq_at (fin s' m e) nan v w = elim w [ ]
  eq_at (fin s' m e) (inf _) v w = elim w [ ]
  eq_at (fin s' m e) (fin t' n g) v w =
      sym (level_scale s' (m * up e * down g) t' (n * up g * down e) (c * d) (mul-pos C D))
      ∙ rw (v.0, w.0, cross (m * up e) (down e) a c (down g) d v.1, cross' (n * up g) (down g) b d (down e) c w.1)
      (level_scale s (a * d) t (b * c) (down e * down g) (mul-pos (down_pos e) (down_pos g)))

  -- each number is a difference of naturals, and the parts taken away go to the other side
  pub le_at : (x y : Float) → HasValue x s a c → HasValue y t b d
      → le x y ≡ leb (gain s (a * d) + loss t (b * c)) (gain t (b * c) + loss s (a * d))
  unfolding le
  le_at x y v w =
      ap₂ ◌||◌ (lt_at x y v w ∙ below_is s (a * d) t (b * c)) (eq_at x y v w ∙ level_is s (a * d) t (b * c))
      ∙ lt_or_eq (gain s (a * d) + loss t (b * c)) (gain t (b * c) + loss s (a * d))

  quotient : (x e y g : ℕ) → x * c ≡ a * e → y * d ≡ b * g → x * g * (b * c) ≡ a * d * (y * e)
  quotient x e y g h k =
      let p : x * g * (b * c) ≡ x * c * (b * g) = simp (mul_assoc, mul_comm, mul_left_comm) in
      p ∙ rw (h, ← k) (simp (mul_assoc, mul_comm, mul_left_comm))

  pub div_at : (f : Format) (x y : Float) → 0 < b → HasValue x s a c → HasValue y t b d
      → div f x y ≡ round f (unlike s t) (a * d) (b * c)
  unfolding div
  div_at f nan y B v w = elim v [ ]
  div_at f (inf _) y B v w = elim v [ ]
  div_at f (fin s' m e) nan B v w = elim w [ ]
  div_at f (fin s' m e) (inf _) B v w = elim w [ ]
  div_at f (fin s' m e) (fin t' zero g) B v w = absurd (lt_irrefl 0 (rw (← w.1, zero-mul, zero-mul) at (mul-pos B (down_pos g))))
  div_at f (fin s' m e) (fin t' (suc n) g) B v w =
      rw (eqb-suc-zero n, v.0, w.0)
      (round_same f (unlike s t) (m * up e * down g) (suc n * up g * down e) (a * d) (b * c)
      (mul-pos (mul-pos (zero-lt-suc n) (up_pos g)) (down_pos e)) (mul-pos B C) (quotient (m * up e) (down e) (suc n * up g) (down g) v.1 w.1))

-- ---- over one denominator

-- ±x / k and ±y / k, which are ±a / c and ±b / c
sum_same : (f : Format) (s t : Bool) (x y k a b c : ℕ) → 0 < k → 0 < c → x * c ≡ a * k → y * c ≡ b * k
    → sum f s x t y k ≡ sum f s a t b c
unfolding sum
sum_same f s t x y k a b c K C h l =
    rw (
      order x y a b h l,
      order y x b a l h,
      round_same f s (x + y) k (a + b) c K C (add-mul x y c ∙ ap₂ ◌+◌ h l ∙ sym (add-mul a b k)),
      round_same f t (y - x) k (b - a) c K C (apart y x b a l h),
      round_same f (s && ltb b a) (x - y) k (a - b) c K C (apart x y a b h l),
    )
  where
    order : (x y a b : ℕ) → x * c ≡ a * k → y * c ≡ b * k → ltb x y ≡ ltb a b
    order x y a b h l = sym (ltb_scale x y c C) ∙ ap₂ ltb h l ∙ ltb_scale a b k K

    apart : (x y a b : ℕ) → x * c ≡ a * k → y * c ≡ b * k → (x - y) * c ≡ (a - b) * k
    apart x y a b h l = sub_mul x y c ∙ ap₂ ◌-◌ h l ∙ sym (sub_mul a b k)

module _ (s t : Bool) (a b c : ℕ) (C : 0 < c) where
  pub lt_over : (x y : Float) → HasValue x s a c → HasValue y t b c → lt x y ≡ below s a t b
  lt_over x y v w = lt_at s t a c b c C C x y v w ∙ below_scale s a t b c C

  pub add_over : (f : Format) (x y : Float) → HasValue x s a c → HasValue y t b c → add f x y ≡ sum f s a t b c
  unfolding add
  add_over f nan y v w = elim v [ ]
  add_over f (inf _) y v w = elim v [ ]
  add_over f (fin s' m e) nan v w = elim w [ ]
  add_over f (fin s' m e) (inf _) v w = elim w [ ]
  add_over f (fin s' m e) (fin t' n g) v w =
      rw (v.0, w.0)
      (sum_same f s t (m * up e * down g) (n * up g * down e) (down e * down g) a b c (mul-pos (down_pos e) (down_pos g)) C
      (mul_right_comm (m * up e) (down g) c ∙ ap (λ (z : ℕ). z * down g) v.1 ∙ mul_assoc a (down e) (down g))
      (mul_right_comm (n * up g) (down e) c ∙ ap (λ (z : ℕ). z * down e) w.1 ∙ mul_right_comm b (down g) (down e) ∙ mul_assoc b (down e) (down g)))

pub sub_over : (s t : Bool) (a b c : ℕ) → 0 < c → (f : Format) (x y : Float) → HasValue x s a c → HasValue y t b c
    → sub f x y ≡ sum f s a (not t) b c
unfolding sub
sub_over s t a b c C f x y v w = add_over s (not t) a b c C f x (neg y) v (neg_value y t b c w)

-- two of one sign
pub add_at : (f : Format) (x y : Float) (s : Bool) (a c b d : ℕ) → 0 < c → 0 < d → HasValue x s a c → HasValue y s b d
    → add f x y ≡ round f s (a * d + b * c) (c * d)
add_at f x y s a c b d C D v w =
    add_over s s (a * d) (b * c) (c * d) (mul-pos C D) f x y
    (rescale x s a c (a * d) (c * d) C (mul_left_comm a c d ∙ mul_comm c (a * d)) v)
    (rescale y s b d (b * c) (c * d) D (sym (mul_assoc b c d)) w)
    ∙ sum_like f s (a * d) (b * c) (c * d)

-- ---- over one denominator, of values that are not negative

pub lt_values : (x y : Float) (a b c : ℕ) → 0 < c → HasValue x false a c → HasValue y false b c → lt x y ≡ ltb a b
lt_values x y a b c C = lt_over false false a b c C x y

pub le_values : (x y : Float) (a b c : ℕ) → 0 < c → HasValue x false a c → HasValue y false b c → le x y ≡ leb a b
le_values x y a b c C v w = le_at false false a c b c C C x y v w ∙ simp add-zero (leb_scale a b c C)

pub add_values : (f : Format) (x y : Float) (a b c : ℕ) → 0 < c → HasValue x false a c → HasValue y false b c
    → add f x y ≡ round f false (a + b) c
add_values f x y a b c C v w = add_over false false a b c C f x y v w ∙ sum_like f false a b c

pub sub_values : (f : Format) (x y : Float) (a b c : ℕ) → 0 < c → b ≤ a → HasValue x false a c → HasValue y false b c
    → sub f x y ≡ round f false (a - b) c
unfolding sum
sub_values f x y a b c C h v w = sub_over false false a b c C f x y v w ∙ rw (le-ltb a b h)

-- ---- the negative turns the order round
pub neg_neg : (x : Float) → neg (neg x) ≡ x
unfolding neg
neg_neg nan = refl
neg_neg (inf true) = refl
neg_neg (inf false) = refl
neg_neg (fin true m e) = refl
neg_neg (fin false m e) = refl

turned : (s t : Bool) (x y : ℕ)
    → leb (gain (not s) x + loss (not t) y) (gain (not t) y + loss (not s) x)
    ≡ leb (gain t y + loss s x) (gain s x + loss t y)
turned true true x y = ap₂ leb (add_comm x 0) (add_comm y 0)
turned true false x y = ap₂ leb (add_comm x y) refl
turned false true x y = ap₂ leb refl (add_comm y x)
turned false false x y = ap₂ leb (add_comm 0 y) (add_comm 0 x)

pub neg_le : (s t : Bool) (a c b d : ℕ) → 0 < c → 0 < d → (x y : Float) → HasValue x s a c → HasValue y t b d
    → le (neg x) (neg y) ≡ le y x
neg_le s t a c b d C D x y v w =
    le_at (not s) (not t) a c b d C D (neg x) (neg y) (neg_value x s a c v) (neg_value y t b d w)
    ∙ turned s t (a * d) (b * c)
    ∙ sym (le_at t s b d a c D C y x w v)

-- ---- the sign goes through rounding
neg_units : (f : Format) (s : Bool) (q k : ℕ) → neg (units f s q k) ≡ units f (not s) q k
unfolding neg units odd
neg_units f s q k = go (ltb (q * 2 ^ k) (2 ^ (low f + suc (emax f)))) q
  where
    go : (b : Bool) (q : ℕ)
        → neg (cond b (odd (suc (prec f)) s q k (low f)) (inf s))
        ≡ cond b (odd (suc (prec f)) (not s) q k (low f)) (inf (not s))
    go true zero = refl
    go true (suc q) = refl
    go false q = refl

pub neg_round : (f : Format) (s : Bool) (n d : ℕ) → neg (round f s n d) ≡ round f (not s) n d
neg_round f s n d = rw (round_is f s n d, round_is f (not s) n d) (neg_units f s _ _)
