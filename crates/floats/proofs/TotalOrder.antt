-- The total order of floats, and the keys that stand as it does. A key is the sign with the magnitude's bits, and those
-- bits grow with the magnitude: weakly since a number's leading digits do, and strictly since the bits tell the value.
use Rattle.std.proofs.Common.{Less, Equal, Greater, nat_cmp, ◌≡◌, ℕ, zero, suc, ◌+◌, ◌-◌, ◌*◌, ◌/◌, ◌%◌, ◌^◌, ◌<◌, ◌≤◌, Bool, true, false, cond, not, ◌&&◌, ◌||◌, T, eqb, ltb, ◌⊎◌, ℤ, sym, refl, ap, ◌∙◌, ap₂, inl, inr, zero-le, add_assoc, mul-le-mul_right, mod-lt, suc-mul, div-lt_iff_lt-mul, add-mul, eq-zero-or-pos, eq-or-lt_of_le, one-mul, le-div_iff_mul-le, zero-mul, mul_right_comm, arith, lit<, ltb→lt, lt→ltb, ltb-false, nltb→le, T_not, pow_pos, pow-add, le-ltb, lt-ltb}
use mathlib.Core.Bool.{and-true, and-false, or-false}
use lib.Arith.{digits_div, digits_mod}
use lib.Pow.{shr_mono}
use lib.Ieee.{Float, nan, inf, fin, Format, binary32, binary64, prec, emax, low, up, down, size, lt, eq, le, ne, fits, is_nan, hid, ones, top, to_bits, of_bits}
use lib.Ieee.Digits.{size-lt, size-le, size_reaches}
use lib.Ieee.Fits.{two, reach, and_l, and_r, down_pos, kept-lt}
use lib.Ieee.Bits.{of_bits-to_bits, to_bits-lt}
use lib.Ieee.Compare.{differs_from_itself}
use lib.Ieee.Nearest.{div_mono}
use lib.Ieee.Positive.{num, den}
use Rattle.std.specs.Ordering.{MatchOrdering}
use Rattle.std.specs.Cmp.{nat_cmp_is}
use Rattle.floats.specs.Signs.{negative}
use Rattle.floats.specs.TotalOrder.{before, compared, order_key}
use denote.Floats.{passes}
use Rattle.folds.proofs.Tests.{same_test, yes_or_no, or_split, or_l}
use Rattle.floats.proofs.Signs.{absolute, absolute_fits, bits_sign, magnitude_lt}
use Rattle.floats.proofs.Values.{units_of, in_format, units_below}
use Rattle.floats.proofs.Order.{both_zero, lt→le, eq→le, lt→not_le, lt_trans, lt_of_le_of_lt, lt_of_lt_of_le}

-- ---- a strict order of all floats

-- only the NaN is before nothing
pub before_left : (x y : Float) → T (before x y) → T (not (is_nan x))
unfolding before is_nan
before_left nan y p = absurd p
before_left (inf s) y p = tt
before_left (fin s m e) y p = tt

-- all but the NaN are before the NaN
before_nan : (x : Float) → before x nan ≡ not (is_nan x)
unfolding before is_nan
before_nan nan = refl
before_nan (inf s) = refl
before_nan (fin s m e) = refl

-- off the NaN it goes by value, and then by sign
by_value : (x y : Float) → T (not (is_nan y)) → T (before x y)
    → T (lt x y) ⊎ (T (le x y) × T (negative x) × T (not (negative y)))
unfolding before is_nan
by_value nan y q p = absurd p
by_value (inf s) nan q p = absurd q
by_value (inf s) (inf t) q p = inl p
by_value (inf s) (fin t n d) q p = inl p
by_value (fin s m e) nan q p = absurd q
by_value (fin s m e) (inf t) q p = inl p
by_value (fin s m e) (fin t n d) q p =
    let x = fin s m e in
    let y = fin t n d in
    elim (or_split (lt x y) (eq x y && (s && not t)) p) [
      | inl u ↦ inl u
      | inr u ↦
          let v = and_r (eq x y) (s && not t) u in
          inr (eq→le x y (and_l (eq x y) (s && not t) u), and_l s (not t) v, and_r s (not t) v)
    ]

lt→before : (x y : Float) → T (lt x y) → T (before x y)
unfolding before
lt→before nan y p = absurd p
lt→before (inf s) nan p = tt
lt→before (inf s) (inf t) p = p
lt→before (inf s) (fin t n d) p = p
lt→before (fin s m e) nan p = tt
lt→before (fin s m e) (inf t) p = p
lt→before (fin s m e) (fin t n d) p = or_l (lt (fin s m e) (fin t n d)) (eq (fin s m e) (fin t n d) && (s && not t)) p

-- transitive, where the last is not the NaN
chained : (x y z : Float) → T (not (is_nan z)) → T (before x y) → T (before y z) → T (before x z)
chained x y z r p q = elim (by_value x y (before_left y z q) p) [
  | inl a ↦ elim (by_value y z r q) [ inl b ↦ lt→before x z (lt_trans x y z a b) | inr b ↦ lt→before x z (lt_of_lt_of_le x y z a b.0) ]
  | inr a ↦ elim (by_value y z r q) [ inl b ↦ lt→before x z (lt_of_le_of_lt x y z a.0 b) | inr b ↦ absurd (T_not (negative y) a.2 b.1) ]
]

-- what is before y is before all that y is before
pub before_trans : (x y z : Float) → T (before x y) → T (before y z) → T (before x z)
unfolding is_nan
before_trans x y nan p q = rw before_nan (before_left x y p)
before_trans x y (inf s) p q = chained x y (inf s) tt p q
before_trans x y (fin s m e) p q = chained x y (fin s m e) tt p q

pub before_asym : (x y : Float) → T (before x y) → T (before y x) → ⊥
before_asym x y p q = elim (by_value x y (before_left y x q) p) [
  | inl a ↦ elim (by_value y x (before_left x y p) q) [ inl b ↦ lt→not_le x y a (lt→le y x b) | inr b ↦ lt→not_le x y a b.0 ]
  | inr a ↦ elim (by_value y x (before_left x y p) q) [ inl b ↦ lt→not_le y x b a.0 | inr b ↦ T_not (negative y) a.2 b.1 ]
]

pub before_irrefl : (x : Float) → T (before x x) → ⊥
before_irrefl x p = before_asym x x p p

-- ---- the bits of a magnitude grow with it

-- n, in units of the smallest value, as the exponent's field and the leading digits
abbrev rank : Format → ℕ → ℕ
rank f n = (size n - prec f) * hid f + n / 2 ^ (size n - prec f)

twice_hid : (f : Format) → 2 ^ prec f ≡ 2 * hid f
twice_hid binary32 = refl
twice_hid binary64 = refl

-- the digits kept are no more than the format has
kept_below : (f : Format) (n : ℕ) → n / 2 ^ (size n - prec f) < 2 * hid f
kept_below f n = rw (twice_hid f) at (kept-lt (prec f) n)

in_use : (z p : ℕ) → 2 ≤ p → 0 < z - p → p - 1 + (z - p) < z
in_use z p P h = omega arith

-- where digits are dropped, the leading one is kept
kept_above : (f : Format) (n : ℕ) → 0 < size n - prec f → hid f ≤ n / 2 ^ (size n - prec f)
kept_above f n h =
    let k = size n - prec f in
    (le-div_iff_mul-le (pow_pos k)).1 (rw (← (pow-add 2 (prec f - 1) k)) (size_reaches n (prec f - 1 + k) (in_use (size n) (prec f) (two f) h)))

-- of a smaller number fewer digits are dropped
fewer : (f : Format) (a b : ℕ) → a ≤ b → size a - prec f ≤ size b - prec f
fewer f a b h =
    let l : a < 2 ^ size b = omega (arith, size-lt b) in
    omega (arith, size-le a (size b) l)

rank_mono : (f : Format) (a b : ℕ) → a ≤ b → rank f a ≤ rank f b
rank_mono f a b h =
    let k = size b - prec f in
    elim (eq-or-lt_of_le (fewer f a b h)) [
      | inl e ↦ rw e (omega (arith, shr_mono k h))
      | inr l ↦
          omega
          (arith, suc-mul (size a - prec f) (hid f), mul-le-mul_right (hid f) l, kept_below f a, kept_above f b (omega arith))
    ]

-- ---- the bits of a float, as its sign and the bits of its magnitude

bits_fin : (f : Format) (s : Bool) (m : ℕ) (e : ℤ) → to_bits f (fin s m e) ≡ cond s (top f) 0 + rank f (units_of f m e)
unfolding to_bits
bits_fin f s m e = add_assoc _ _ _

-- equal bits are of equal floats
bits_tell : (f : Format) (x y : Float) → T (fits f x) → T (fits f y) → to_bits f x ≡ to_bits f y → x ≡ y
bits_tell f x y p q e = sym (of_bits-to_bits f x p) ∙ ap (of_bits f) e ∙ of_bits-to_bits f y q

-- two magnitudes' bits, by the order of their values as fractions
bits_mono : (f : Format) (m : ℕ) (e : ℤ) (n : ℕ) (d : ℤ) → m * up e * down d ≤ n * up d * down e
    → to_bits f (fin false m e) ≤ to_bits f (fin false n d)
bits_mono f m e n d h =
    let l : m * up e * 2 ^ low f * down d ≤ n * up d * 2 ^ low f * down e = simp mul_right_comm (simp mul_right_comm at (mul-le-mul_right (2 ^ low f) h)) in
    let u = div_mono (m * up e * 2 ^ low f) (down e) (n * up d * 2 ^ low f) (down d) (down_pos e) (down_pos d) l in
    rw (bits_fin f false m e, bits_fin f false n d) (omega (arith, rank_mono f (units_of f m e) (units_of f n d) u))

bits_strict : (f : Format) (m : ℕ) (e : ℤ) (n : ℕ) (d : ℤ) → T (fits f (fin false m e)) → T (fits f (fin false n d))
    → m * up e * down d < n * up d * down e → to_bits f (fin false m e) < to_bits f (fin false n d)
bits_strict f m e n d p q h = elim (eq-or-lt_of_le (bits_mono f m e n d (omega arith))) [
  | inl r ↦
      let v = bits_tell f (fin false m e) (fin false n d) p q r in
      let i : m * up e ≡ n * up d = ap num v in
      let j : down e ≡ down d = ap den v in
      let k : m * up e * down d ≡ n * up d * down e = cc in
      absurd (omega arith)
  | inr l ↦ l
]

-- and so their order as numbers is that of the values
fin_orders : (f : Format) (m : ℕ) (e : ℤ) (n : ℕ) (d : ℤ) → T (fits f (fin false m e)) → T (fits f (fin false n d))
    → ltb (to_bits f (fin false m e)) (to_bits f (fin false n d)) ≡ before (fin false m e) (fin false n d)
unfolding before
fin_orders f m e n d p q =
    let a = m * up e * down d in
    let b = n * up d * down e in
    let x = to_bits f (fin false m e) in
    let y = to_bits f (fin false n d) in
    same_test (ltb x y) (ltb a b)
    (λ t. elim (yes_or_no (ltb a b)) [ inl u ↦ u | inr u ↦ absurd (omega (arith, ltb→lt x y t, bits_mono f n d m e (nltb→le a b u))) ])
    (λ t. lt→ltb x y (bits_strict f m e n d p q (ltb→lt a b t)))
    ∙ sym (rw (and-false, or-false))

-- the bits of a finite value are below an infinity's, and those below the NaN's
fin_below : (f : Format) (m : ℕ) (e : ℤ) → T (fits f (fin false m e))
    → to_bits f (fin false m e) < to_bits f (inf false)
unfolding to_bits
fin_below f m e p =
    let n = units_of f m e in
    let k = size n - prec f in
    let b = units_below f m e (in_format f false m e p) in
    let c : k + 2 ≤ ones f = omega (arith, size-le n (low f + suc (emax f)) b, two f, reach f) in
    omega (arith, add-mul k 2 (hid f), mul-le-mul_right (hid f) c, kept_below f n)

inf_below : (f : Format) → to_bits f (inf false) < to_bits f nan
unfolding to_bits
inf_below binary32 = lit< tt
inf_below binary64 = lit< tt

-- magnitudes' bits stand as the magnitudes do
mag_orders : (f : Format) (x y : Float) → T (fits f (absolute x)) → T (fits f (absolute y))
    → ltb (to_bits f (absolute x)) (to_bits f (absolute y)) ≡ before (absolute x) (absolute y)
unfolding before
mag_orders f nan nan p q = le-ltb (to_bits f nan) (to_bits f nan) (omega arith)
mag_orders f nan (inf t) p q = le-ltb (to_bits f nan) (to_bits f (inf false)) (omega (arith, inf_below f))
mag_orders f nan (fin t n d) p q = le-ltb (to_bits f nan) (to_bits f (fin false n d)) (omega (arith, inf_below f, fin_below f n d q))
mag_orders f (inf s) nan p q = lt-ltb (to_bits f (inf false)) (to_bits f nan) (inf_below f)
mag_orders f (inf s) (inf t) p q = le-ltb (to_bits f (inf false)) (to_bits f (inf false)) (omega arith)
mag_orders f (inf s) (fin t n d) p q = le-ltb (to_bits f (inf false)) (to_bits f (fin false n d)) (omega (arith, fin_below f n d q))
mag_orders f (fin s m e) nan p q = lt-ltb (to_bits f (fin false m e)) (to_bits f nan) (omega (arith, inf_below f, fin_below f m e p))
mag_orders f (fin s m e) (inf t) p q = lt-ltb (to_bits f (fin false m e)) (to_bits f (inf false)) (fin_below f m e p)
mag_orders f (fin s m e) (fin t n d) p q = fin_orders f m e n d p q

-- ---- first by sign, then by magnitude

same_ltb : (a b c d : ℕ) → (a < b → c < d) → (c < d → a < b) → ltb a b ≡ ltb c d
same_ltb a b c d p q = same_test (ltb a b) (ltb c d) (λ t. lt→ltb c d (p (ltb→lt a b t))) (λ t. lt→ltb a b (q (ltb→lt c d t)))

always : {A : Type 0} (t : Bool) (a : A) → a ≡ cond t a a
always true a = refl
always false a = refl

not_is : (t : Bool) → not t ≡ cond t false true
not_is true = refl
not_is false = refl

-- −a is before +b, both zero included
minus_first : (a b : ℕ) → (ltb 0 (a + b) || (eqb a b && eqb a 0) && true) ≡ true
minus_first a b = elim (eq-zero-or-pos (a + b)) [ inl z ↦ rw (and-true, both_zero, z) | inr h ↦ rw (lt-ltb 0 (a + b) h) ]

by_sign : (x y : Float)
    → before x y ≡ cond (negative x) (cond (negative y) (before (absolute y) (absolute x)) true)
    (cond (negative y) false (before (absolute x) (absolute y)))
unfolding before
by_sign nan nan = refl
by_sign nan (inf t) = always t false
by_sign nan (fin t n d) = always t false
by_sign (inf true) nan = refl
by_sign (inf true) (inf t) = not_is t
by_sign (inf true) (fin t n d) = always t true
by_sign (inf false) nan = refl
by_sign (inf false) (inf t) = always t false
by_sign (inf false) (fin t n d) = always t false
by_sign (fin s m e) nan = always s true
by_sign (fin s m e) (inf t) = not_is t ∙ always s (cond t false true)
by_sign (fin true m e) (fin true n d) = simp and-false
by_sign (fin true m e) (fin false n d) = minus_first (m * up e * down d) (n * up d * down e)
by_sign (fin false m e) (fin true n d) = rw and-false
by_sign (fin false m e) (fin false n d) = refl

-- ---- the key, as the sign and the bits of the magnitude

-- the key of the sign s and the magnitude's bits a, for a sign's weight t
abbrev key_of : ℕ → Bool → ℕ → ℕ
key_of t s a = cond s (t - 1 - a) (t + a)

key_form : (t : ℕ) (s : Bool) (a b : ℕ) → b ≡ cond s t 0 + a → cond s (2 * t - 1 - b) (t + b) ≡ key_of t s a
key_form t true a b e = omega arith
key_form t false a b e = omega arith

key_is : (f : Format) (x : Float) → order_key f x ≡ key_of (top f) (negative x) (to_bits f (absolute x))
unfolding order_key
key_is f x = key_form (top f) (negative x) (to_bits f (absolute x)) (to_bits f x) (bits_sign f x)

-- such keys stand first by sign, then by magnitude
placed : (t : ℕ) (s u : Bool) (a b : ℕ) → a < t → b < t
    → ltb (key_of t s a) (key_of t u b) ≡ cond s (cond u (ltb b a) true) (cond u false (ltb a b))
placed t true true a b p q = same_ltb (t - 1 - a) (t - 1 - b) b a (λ h. omega arith) (λ h. omega arith)
placed t true false a b p q = lt-ltb (t - 1 - a) (t + b) (omega arith)
placed t false true a b p q = le-ltb (t + a) (t - 1 - b) (omega arith)
placed t false false a b p q = same_ltb (t + a) (t + b) a b (λ h. omega arith) (λ h. omega arith)

pub key_orders : (f : Format) (x y : Float) → T (fits f x) → T (fits f y)
    → ltb (order_key f x) (order_key f y) ≡ before x y
key_orders f x y p q =
    let p' = absolute_fits f x p in
    let q' = absolute_fits f y q in
    ap₂ ltb (key_is f x) (key_is f y)
    ∙ placed (top f) (negative x) (negative y) (to_bits f (absolute x)) (to_bits f (absolute y)) (magnitude_lt f x p) (magnitude_lt f y q)
    ∙ rw (mag_orders f x y p' q', mag_orders f y x q' p') (sym (by_sign x y))

pub key_lt : (f : Format) (x : Float) → T (fits f x) → order_key f x < 2 * top f
key_lt f x p = rw key_is (go (top f) (negative x) (to_bits f (absolute x)) (magnitude_lt f x p))
  where
    go : (t : ℕ) (s : Bool) (a : ℕ) → a < t → key_of t s a < 2 * t
    go t true a h = omega arith
    go t false a h = omega arith

-- equal keys are of equal bits
unkeyed : (t : ℕ) (s u : Bool) (a b : ℕ) → a < t → b < t → key_of t s a ≡ key_of t u b → cond s t 0 + a ≡ cond u t 0 + b
unkeyed t true true a b p q e = omega arith
unkeyed t true false a b p q e = omega arith
unkeyed t false true a b p q e = omega arith
unkeyed t false false a b p q e = omega arith

pub key_injective : (f : Format) (x y : Float) → T (fits f x) → T (fits f y) → order_key f x ≡ order_key f y → x ≡ y
key_injective f x y p q e =
    bits_tell f x y p q
    (bits_sign f x
    ∙ unkeyed (top f) (negative x) (negative y) (to_bits f (absolute x)) (to_bits f (absolute y)) (magnitude_lt f x p) (magnitude_lt f y q)
    (sym (key_is f x) ∙ e ∙ key_is f y)
    ∙ sym (bits_sign f y))

-- of two different floats one is before the other
pub before_total : (f : Format) (x y : Float) → T (fits f x) → T (fits f y)
    → T (before x y) ⊎ ((x ≡ y) ⊎ T (before y x))
before_total f x y p q =
    let a = order_key f x in
    let b = order_key f y in
    elim (yes_or_no (ltb a b)) [
      | inl t ↦ inl (rw (key_orders f x y p q) at t)
      | inr t ↦
          elim (eq-or-lt_of_le (nltb→le a b t)) [
            | inl e ↦ inr (inl (key_injective f x y p q (sym e)))
            | inr l ↦ inr (inr (rw (key_orders f y x q p) at (lt→ltb b a l)))
          ]
    ]

-- ---- what the code finds

-- the key where x != x
pub key_nan : (f : Format) (x : Float) → ne x x ≡ true → order_key f x ≡ top f + (ones f * hid f + hid f / 2)
unfolding order_key
key_nan f x e = rw (differs_from_itself x (passes _ e))

-- the key from the bits: r without the sign, upwards from the middle, or downwards where the sign q is 1
abbrev pub sign_part_of : ℕ → ℕ → ℕ
sign_part_of t b = b % t + t - b / t * (b % t + b % t + 1)

pub key_split : (f : Format) (x : Float) → fits f x ≡ true → order_key f x ≡ sign_part_of (top f) (to_bits f x)
key_split f x p =
    key_is f x ∙ go (top f) (negative x) (to_bits f (absolute x)) (to_bits f x) (bits_sign f x) (magnitude_lt f x (passes _ p))
  where
    go : (t : ℕ) (s : Bool) (a b : ℕ) → b ≡ cond s t 0 + a → a < t → key_of t s a ≡ sign_part_of t b
    go t true a b e l =
        let i : b ≡ 1 * t + a = e ∙ rw one-mul in
        rw (i, digits_div 1 l, digits_mod 1 l, one-mul) (omega arith)
    go t false a b e l =
        let i : b ≡ 0 * t + a = e ∙ rw zero-mul in
        rw (i, digits_div 0 l, digits_mod 0 l, zero-mul) (omega arith)

-- and nothing in it wraps
top_pos : (f : Format) → 0 < top f
top_pos binary32 = lit< tt
top_pos binary64 = lit< tt

pub signed_fits : (f : Format) (x : Float) → fits f x ≡ true
    → to_bits f x / top f * (to_bits f x % top f + to_bits f x % top f + 1) ≤ to_bits f x % top f + top f
signed_fits f x p = go (to_bits f x / top f) (to_bits f x % top f) ((div-lt_iff_lt-mul (top_pos f)).1 (to_bits-lt f x (passes _ p))) (mod-lt (to_bits f x) (top_pos f))
  where
    go : (q r : ℕ) → q < 2 → r < top f → q * (r + r + 1) ≤ r + top f
    go zero r a b = rw zero-mul zero-le
    go (suc q) r a b = let z : q ≡ 0 = omega arith in rw (z, one-mul) (omega arith)

pub signed_below : (f : Format) (x : Float) → fits f x ≡ true
    → to_bits f x / top f * (to_bits f x % top f + to_bits f x % top f + 1) < 2 * top f
signed_below f x p = omega (arith, signed_fits f x p, mod-lt (to_bits f x) (top_pos f))

compared_is : (f : Format) (x y : Float) → T (fits f x) → T (fits f y)
    → compared x y
    ≡ cond (ltb (order_key f x) (order_key f y)) Less (cond (ltb (order_key f y) (order_key f x)) Greater Equal)
unfolding compared
compared_is f x y p q = rw (key_orders f x y p q, key_orders f y x q p)

-- two floats compare as their keys a and b do
pub by_keys : (f : Format) (x y : Float) (a b : ℕ) → T (fits f x) → T (fits f y) → a ≡ order_key f x
    → b ≡ order_key f y → compared x y ≡ nat_cmp a b
by_keys f x y a b p q i j = nat_cmp_is a b (compared x y) (rw (compared_is f x y p q, ← i, ← j) (go (ltb a b) (ltb b a) refl refl))
  where
    go : (s t : Bool) → ltb a b ≡ s → ltb b a ≡ t
        → MatchOrdering (cond s Less (cond t Greater Equal)) (a < b) (a ≡ b) (b < a)
    go true t h k = ltb→lt a b (passes _ h)
    go false true h k = ltb→lt b a (passes _ k)
    go false false h k = omega (arith, ltb-false a b h, ltb-false b a k)
