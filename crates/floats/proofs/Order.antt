-- The order of all floats. A finite value is a difference of two naturals over a denominator, so that `<`, `==` and
-- `<=` are those of cross-multiplied sums; from that `<=` is transitive, and off the NaN `x < y` is the opposite of `y
-- <= x`. The rest follows.
use Rattle.std.proofs.Common.{◌≡◌, ℕ, ◌+◌, ◌*◌, ◌<◌, ◌≤◌, Bool, true, false, cond, not, ◌&&◌, ◌||◌, T, eqb, ltb, leb, ◌⊎◌, ℤ, sym, refl, ◌∙◌, inl, inr, add-zero, mul-le-mul_right, mul_assoc, mul_comm, add-mul, add_comm, zero-add, zero-mul, le_of_mul-le-mul_right, mul_left_comm, arith, le→leb, eqb→eq, ltb→lt, lt→ltb, leb→le, nltb→le, T_not, le-ltb}
use mathlib.Core.Bool.{and-true, false≢true}
use lib.Dec.{not_T, nleb→lt}
use lib.Ieee.{Float, nan, inf, fin, Format, is_nan, up, down, below, level, lt, eq, le, fits}
use lib.Ieee.Fits.{and_i, and_l, and_r, eq→eqb, down_pos}
use denote.Floats.{passes}
use Rattle.folds.proofs.Tests.{same_test, yes_or_no, or_l, or_r, or_split}
use Rattle.floats.specs.MinMax.{min_number, max_number}

-- ---- tests

pub lt_or_eq : (a b : ℕ) → (ltb a b || eqb a b) ≡ leb a b
lt_or_eq a b =
    same_test (ltb a b || eqb a b) (leb a b)
    (λ t. elim (or_split (ltb a b) (eqb a b) t) [ inl u ↦ le→leb a b (omega (arith, ltb→lt a b u)) | inr u ↦ le→leb a b (omega (arith, eqb→eq a b u)) ])
    (λ t. elim (yes_or_no (ltb a b)) [
      | inl u ↦ or_l (ltb a b) (eqb a b) u
      | inr u ↦ or_r (ltb a b) (eqb a b) (eq→eqb {a = a} {b = b} (omega (arith, leb→le a b t, nltb→le a b u)))
    ])

lt_is_not_leb : (a b : ℕ) → ltb a b ≡ not (leb b a)
lt_is_not_leb a b =
    same_test (ltb a b) (not (leb b a))
    (λ t. not_T (leb b a) (λ u. omega (arith, ltb→lt a b t, leb→le b a u)))
    (λ t. lt→ltb a b (nleb→lt b a t))

same_eqb : (a b c d : ℕ) → (a ≡ b → c ≡ d) → (c ≡ d → a ≡ b) → eqb a b ≡ eqb c d
same_eqb a b c d p q = same_test (eqb a b) (eqb c d) (λ t. eq→eqb (p (eqb→eq a b t))) (λ t. eq→eqb (q (eqb→eq c d t)))

pub both_zero : (a b : ℕ) → (eqb a b && eqb a 0) ≡ eqb (a + b) 0
both_zero a b =
    same_test (eqb a b && eqb a 0) (eqb (a + b) 0)
    (λ t. eq→eqb {a = a + b} {b = 0} (omega (arith, eqb→eq a b (and_l (eqb a b) (eqb a 0) t), eqb→eq a 0 (and_r (eqb a b) (eqb a 0) t))))
    (λ t. let e = eqb→eq (a + b) 0 t in and_i (eqb a b) (eqb a 0) (eq→eqb {a = a} {b = b} (omega arith)) (eq→eqb {a = a} {b = 0} (omega arith)))

-- ---- ±a as the difference gain s a - loss s a

abbrev pub gain : Bool → ℕ → ℕ
gain true a = 0
gain false a = a

abbrev pub loss : Bool → ℕ → ℕ
loss true a = a
loss false a = 0

pub below_is : (s : Bool) (a : ℕ) (t : Bool) (b : ℕ) → below s a t b ≡ ltb (gain s a + loss t b) (gain t b + loss s a)
below_is true a true b = simp zero-add
below_is true a false b = rw (add_comm a b)
below_is false a true b = sym (le-ltb (a + b) 0 (omega arith))
below_is false a false b = simp add-zero

pub level_is : (s : Bool) (a : ℕ) (t : Bool) (b : ℕ) → level s a t b ≡ eqb (gain s a + loss t b) (gain t b + loss s a)
level_is true a true b = and-true (eqb a b) ∙ same_eqb a b (0 + b) (0 + a) (λ e. omega arith) (λ e. omega arith)
level_is true a false b = both_zero a b ∙ same_eqb (a + b) 0 0 (b + a) (λ e. omega arith) (λ e. omega arith)
level_is false a true b = both_zero a b
level_is false a false b = and-true (eqb a b) ∙ same_eqb a b (a + 0) (b + 0) (λ e. omega arith) (λ e. omega arith)

gain_mul : (s : Bool) (a c : ℕ) → gain s (a * c) ≡ gain s a * c
gain_mul true a c = sym (zero-mul c)
gain_mul false a c = refl

loss_mul : (s : Bool) (a c : ℕ) → loss s (a * c) ≡ loss s a * c
loss_mul true a c = refl
loss_mul false a c = sym (zero-mul c)

-- three differences over denominators: (p - n) / c ≤ (p' - n') / c' ≤ (p'' - n'') / c''
through : (p n c p' n' c' p'' n'' c'' : ℕ) → 0 < c'
    → p * c' + n' * c ≤ p' * c + n * c' → p' * c'' + n'' * c' ≤ p'' * c' + n' * c''
    → p * c'' + n'' * c ≤ p'' * c + n * c''
through p n c p' n' c' p'' n'' c'' C h k =
    let h' = simp (add-mul, mul_assoc, mul_comm) at (mul-le-mul_right c'' h) in
    let k' = simp (add-mul, mul_assoc, mul_comm, mul_left_comm) at (mul-le-mul_right c k) in
    let g : (p * c'' + n'' * c) * c' ≤ (p'' * c + n * c'') * c' = simp (add-mul, mul_assoc, mul_comm) (omega arith) in
    le_of_mul-le-mul_right g C

-- what is compared for ±m * 2 ^ e with ±n * 2 ^ d, and its mirror image for the other side
abbrev cross : Bool → ℕ → ℤ → Bool → ℕ → ℤ → ℕ
cross s m e t n d = gain s (m * up e) * down d + loss t (n * up d) * down e

lt_fin : (s : Bool) (m : ℕ) (e : ℤ) (t : Bool) (n : ℕ) (d : ℤ)
    → lt (fin s m e) (fin t n d) ≡ ltb (cross s m e t n d) (cross t n d s m e)
unfolding lt
lt_fin s m e t n d = below_is s (m * up e * down d) t (n * up d * down e) ∙ simp (gain_mul, loss_mul)

eq_fin : (s : Bool) (m : ℕ) (e : ℤ) (t : Bool) (n : ℕ) (d : ℤ)
    → eq (fin s m e) (fin t n d) ≡ eqb (cross s m e t n d) (cross t n d s m e)
unfolding eq
eq_fin s m e t n d = level_is s (m * up e * down d) t (n * up d * down e) ∙ simp (gain_mul, loss_mul)

le_fin : (s : Bool) (m : ℕ) (e : ℤ) (t : Bool) (n : ℕ) (d : ℤ)
    → le (fin s m e) (fin t n d) ≡ leb (cross s m e t n d) (cross t n d s m e)
unfolding le
le_fin s m e t n d = rw (le, lt_fin, eq_fin) (lt_or_eq (cross s m e t n d) (cross t n d s m e))

-- ---- the NaN is in no order

le_nan : (x : Float) → le x nan ≡ false
unfolding le
le_nan nan = refl
le_nan (inf s) = refl
le_nan (fin s m e) = refl

-- what is compared is no NaN
pub le_left : (x y : Float) → T (le x y) → T (not (is_nan x))
unfolding is_nan le
le_left nan y p = absurd p
le_left (inf s) y p = tt
le_left (fin s m e) y p = tt

pub le_right : (x y : Float) → T (le x y) → T (not (is_nan y))
unfolding is_nan
le_right x nan p = absurd (rw le_nan at p)
le_right x (inf s) p = tt
le_right x (fin s m e) p = tt

-- ---- the two laws from which the rest follows

-- −infinity is at most every number
minus_infinity_least : (x : Float) → T (not (is_nan x)) → T (le (inf true) x)
unfolding is_nan le
minus_infinity_least nan p = absurd p
minus_infinity_least (inf true) p = tt
minus_infinity_least (inf false) p = tt
minus_infinity_least (fin s m e) p = tt

pub le_trans : (x y z : Float) → T (le x y) → T (le y z) → T (le x z)
unfolding le
le_trans nan y z p q = absurd p
le_trans (inf true) y z p q = minus_infinity_least z (le_right y z q)
le_trans (inf false) nan z p q = absurd p
le_trans (inf false) (inf true) z p q = absurd p
le_trans (inf false) (inf false) z p q = q
le_trans (inf false) (fin t n d) z p q = absurd p
le_trans (fin s m e) nan z p q = absurd p
le_trans (fin s m e) (inf true) z p q = absurd p
le_trans (fin s m e) (inf false) nan p q = absurd q
le_trans (fin s m e) (inf false) (inf true) p q = absurd q
le_trans (fin s m e) (inf false) (inf false) p q = tt
le_trans (fin s m e) (inf false) (fin u k g) p q = absurd q
le_trans (fin s m e) (fin t n d) nan p q = absurd q
le_trans (fin s m e) (fin t n d) (inf true) p q = absurd q
le_trans (fin s m e) (fin t n d) (inf false) p q = tt
le_trans (fin s m e) (fin t n d) (fin u k g) p q =
    rw le_fin
    (le→leb (cross s m e u k g) (cross u k g s m e)
    (through (gain s (m * up e)) (loss s (m * up e)) (down e) (gain t (n * up d)) (loss t (n * up d)) (down d)
    (gain u (k * up g)) (loss u (k * up g)) (down g) (down_pos d)
    (leb→le (cross s m e t n d) (cross t n d s m e) (rw le_fin at p))
    (leb→le (cross t n d u k g) (cross u k g t n d) (rw le_fin at q))))

-- off the NaN
pub lt_is_not_le : (x y : Float) → T (not (is_nan x)) → T (not (is_nan y)) → lt x y ≡ not (le y x)
unfolding is_nan lt le
lt_is_not_le nan y p q = absurd p
lt_is_not_le (inf s) nan p q = absurd q
lt_is_not_le (inf true) (inf true) p q = refl
lt_is_not_le (inf true) (inf false) p q = refl
lt_is_not_le (inf false) (inf true) p q = refl
lt_is_not_le (inf false) (inf false) p q = refl
lt_is_not_le (inf true) (fin t n d) p q = refl
lt_is_not_le (inf false) (fin t n d) p q = refl
lt_is_not_le (fin s m e) nan p q = absurd q
lt_is_not_le (fin s m e) (inf true) p q = refl
lt_is_not_le (fin s m e) (inf false) p q = refl
lt_is_not_le (fin s m e) (fin t n d) p q = rw (lt_fin s m e t n d, le_fin) (lt_is_not_leb (cross s m e t n d) (cross t n d s m e))

-- ---- what follows

pub lt→le : (x y : Float) → T (lt x y) → T (le x y)
unfolding le
lt→le x y p = or_l (lt x y) (eq x y) p

pub eq→le : (x y : Float) → T (eq x y) → T (le x y)
unfolding le
eq→le x y p = or_r (lt x y) (eq x y) p

pub lt→not_le : (x y : Float) → T (lt x y) → T (le y x) → ⊥
lt→not_le x y p q = T_not (le y x) (rw (lt_is_not_le x y (le_left x y (lt→le x y p)) (le_right x y (lt→le x y p))) at p) q

pub not_le→lt : (x y : Float) → T (not (is_nan x)) → T (not (is_nan y)) → (T (le y x) → ⊥) → T (lt x y)
not_le→lt x y p q h = rw (lt_is_not_le x y p q) (not_T (le y x) h)

pub lt_of_le_of_lt : (x y z : Float) → T (le x y) → T (lt y z) → T (lt x z)
lt_of_le_of_lt x y z p q = not_le→lt x z (le_left x y p) (le_right y z (lt→le y z q)) (λ r. lt→not_le y z q (le_trans z x y r p))

pub lt_of_lt_of_le : (x y z : Float) → T (lt x y) → T (le y z) → T (lt x z)
lt_of_lt_of_le x y z p q = not_le→lt x z (le_left x y (lt→le x y p)) (le_right y z q) (λ r. lt→not_le x y p (le_trans y z x q r))

pub lt_trans : (x y z : Float) → T (lt x y) → T (lt y z) → T (lt x z)
lt_trans x y z p q = lt_of_lt_of_le x y z p (lt→le y z q)

pub le_total : (x y : Float) → T (not (is_nan x)) → T (not (is_nan y)) → T (le x y) ⊎ T (le y x)
le_total x y p q = elim (yes_or_no (le y x)) [ inl t ↦ inr t | inr t ↦ inl (lt→le x y (rw (lt_is_not_le x y p q) t)) ]

pub not_lt→le : (x y : Float) → T (not (is_nan x)) → T (not (is_nan y)) → lt x y ≡ false → T (le y x)
not_lt→le x y p q e = go (le y x) (sym e ∙ lt_is_not_le x y p q)
  where
    go : (b : Bool) → false ≡ not b → T b
    go true e = tt
    go false e = absurd (false≢true e)

pub le_refl : (x : Float) → T (not (is_nan x)) → T (le x x)
le_refl x p = elim (le_total x x p p) [ inl t ↦ t | inr t ↦ t ]

-- ---- the smaller and the larger

-- where one test implies the other, the two joined are the other
or_is_right : (a b : Bool) → (T a → T b) → b ≡ (a || b)
or_is_right true b h = same_test b true (λ t. tt) h
or_is_right false b h = refl

or_is_left : (a b : Bool) → (T b → T a) → a ≡ (a || b)
or_is_left true b h = refl
or_is_left false b h = same_test false b (λ t. absurd t) h

-- the second if it is less, else the first: at most c where one of them is
lower : (a b c : Float) → T (not (is_nan a)) → le (cond (lt b a) b a) c ≡ (le a c || le b c)
lower a b c p = go (lt b a) refl
  where
    go : (t : Bool) → lt b a ≡ t → le (cond t b a) c ≡ (le a c || le b c)
    go true e = or_is_right (le a c) (le b c) (λ q. le_trans b a c (lt→le b a (passes _ e)) q)
    go false e = or_is_left (le a c) (le b c) (λ q. le_trans a b c (not_lt→le b a (le_left b c q) p e) q)

-- the second if it is larger, else the first: at least c where one of them is
upper : (a b c : Float) → T (not (is_nan a)) → le c (cond (lt a b) b a) ≡ (le c a || le c b)
upper a b c p = go (lt a b) refl
  where
    go : (t : Bool) → lt a b ≡ t → le c (cond t b a) ≡ (le c a || le c b)
    go true e = or_is_right (le c a) (le c b) (λ q. le_trans c a b q (lt→le a b (passes _ e)))
    go false e = or_is_left (le c a) (le c b) (λ q. le_trans c b a q (not_lt→le a b p (le_right c b q) e))

-- the NaN included: it is at most nothing
pub le_min : (a b c : Float) → le (min_number a b) c ≡ (le a c || le b c)
unfolding min_number is_nan
le_min nan b c = unfold le in refl
le_min (inf s) b c = lower (inf s) b c tt
le_min (fin s m e) b c = lower (fin s m e) b c tt

pub le_max : (a b c : Float) → le c (max_number a b) ≡ (le c a || le c b)
unfolding max_number is_nan
le_max nan b c = rw le_nan
le_max (inf s) b c = upper (inf s) b c tt
le_max (fin s m e) b c = upper (fin s m e) b c tt

pub min_nan : (a : Float) → min_number a nan ≡ a
unfolding min_number
min_nan nan = refl
min_nan (inf s) = refl
min_nan (fin s m e) = refl

-- of a NaN and b the smaller is b
pub nan_min : (b : Float) → min_number nan b ≡ b
unfolding min_number
nan_min b = refl

pub max_nan : (a : Float) → max_number a nan ≡ a
unfolding max_number
max_nan nan = refl
max_nan (inf s) = refl
max_nan (fin s m e) = refl

-- −infinity raises no number
pub max_minus_infinity : (x : Float) → T (not (is_nan x)) → max_number x (inf true) ≡ x
unfolding max_number is_nan lt
max_minus_infinity nan p = absurd p
max_minus_infinity (inf true) p = refl
max_minus_infinity (inf false) p = refl
max_minus_infinity (fin s m e) p = refl

-- of a NaN and b the larger is b
pub nan_max : (b : Float) → max_number nan b ≡ b
unfolding max_number
nan_max b = refl

one_of : (t : Bool) (a b : Float) → (cond t b a ≡ a) ⊎ (cond t b a ≡ b)
one_of true a b = inr refl
one_of false a b = inl refl

pub min_either : (a b : Float) → (min_number a b ≡ a) ⊎ (min_number a b ≡ b)
unfolding min_number
min_either nan b = inr refl
min_either (inf s) b = one_of (lt b (inf s)) (inf s) b
min_either (fin s m e) b = one_of (lt b (fin s m e)) (fin s m e) b

pub max_either : (a b : Float) → (max_number a b ≡ a) ⊎ (max_number a b ≡ b)
unfolding max_number
max_either nan b = inr refl
max_either (inf s) b = one_of (lt (inf s) b) (inf s) b
max_either (fin s m e) b = one_of (lt (fin s m e) b) (fin s m e) b

pub min_le_left : (a b : Float) → T (not (is_nan a)) → T (le (min_number a b) a)
min_le_left a b p = rw le_min (or_l (le a a) (le b a) (le_refl a p))

pub min_le_right : (a b : Float) → T (not (is_nan b)) → T (le (min_number a b) b)
min_le_right a b p = rw le_min (or_r (le a b) (le b b) (le_refl b p))

pub min_number_lem : (a b : Float) → T (not (is_nan a)) → T (not (is_nan (min_number a b)))
min_number_lem a b h = le_left (min_number a b) a (min_le_left a b h)

pub max_ge_left : (a b : Float) → T (not (is_nan a)) → T (le a (max_number a b))
max_ge_left a b p = rw le_max (or_l (le a a) (le a b) (le_refl a p))

pub max_ge_right : (a b : Float) → T (not (is_nan b)) → T (le b (max_number a b))
max_ge_right a b p = rw le_max (or_r (le b a) (le b b) (le_refl b p))

-- ---- of the format

pub min_fits : (f : Format) (a b : Float) → T (fits f a) → T (fits f b) → T (fits f (min_number a b))
min_fits f a b p q = elim (min_either a b) [ inl e ↦ rw e p | inr e ↦ rw e q ]
