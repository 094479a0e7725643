-- A finite value of a format is a whole number of the format's smallest values, its units. A format has one value for
-- each sign and number, since the bits are worked out from the sign and the units alone; so rounding a value of the
-- format gives it back.
use Rattle.std.proofs.Common.{◌≡◌, ℕ, zero, suc, ◌+◌, ◌-◌, ◌*◌, ◌/◌, ◌%◌, ◌^◌, ◌<◌, ◌≤◌, Bool, cond, ◌&&◌, T, eqb, ltb, leb, ℤ, pos, negsuc, sym, refl, ap, ◌∙◌, subst, lt_of_lt_of_le, le_of_suc-le-suc, lt_irrefl, mul_assoc, mul_comm, lt_of_mul-lt-mul_right, mul-lt-mul_of_pos_right, mul-pos, one-mul, lt_of_not-le, zero-mul, mul-one, mul_right_comm, mul-div_cancel, arith, lit≤, eqb→eq, ltb→lt, leb→le, pow_pos, pow-add}
use native.Mathlib.Nat.{eq_of_mul-eq-mul_right}
use lib.Pow.{pow-lt}
use lib.Ieee.{Float, nan, inf, fin, Format, prec, emax, low, up, down, size, round, fits, hid, top, of_bits, to_bits}
use lib.Ieee.Digits.{back}
use lib.Ieee.Fits.{and_l, and_r, down_pos, round-fits}
use lib.Ieee.Bits.{of_bits-to_bits}
use lib.Ieee.Exact.{HasValue, round_exact}
use lib.Ieee.Nearest.{div_same}

-- the magnitude of a finite value of f, in units of f's smallest value
abbrev pub units_of : Format → ℕ → ℤ → ℕ
units_of f m e = m * up e * 2 ^ low f / down e

-- ---- what `fits` says of a finite value

pub record InFormat (f : Format) (m : ℕ) (e : ℤ) : Type 0 where
  pub digits : m < 2 ^ prec f
  pub fine : down e ≤ 2 ^ low f
  pub bounded : m * up e < 2 ^ suc (emax f) * down e

flat : (e : ℤ) → up e * down e ≡ 1 → down e ≤ 1
flat (pos k) h = lit≤ tt
flat (negsuc k) h = omega (arith, one-mul (2 ^ suc k))

small_den : (f : Format) (n : ℕ) → n ≤ 1 → n ≤ 2 ^ low f
small_den f n h = omega (arith, pow_pos (low f))

zero_below : (f : Format) (e : ℤ) → 0 * up e < 2 ^ suc (emax f) * down e
zero_below f e = subst (λ (x : ℕ). x < 2 ^ suc (emax f) * down e) (sym (zero-mul (up e))) (mul-pos (pow_pos (suc (emax f))) (down_pos e))

pub in_format : (f : Format) (s : Bool) (m : ℕ) (e : ℤ) → T (fits f (fin s m e)) → InFormat f m e
unfolding fits
in_format f s zero e h = record {
  digits = pow_pos (prec f);
  fine = small_den f (down e) (flat e (eqb→eq (up e * down e) 1 h));
  bounded = zero_below f e;
}
in_format f s (suc m) e h =
    let A = eqb (suc m % 2) 1 in
    let B = ltb (suc m) (2 ^ prec f) in
    let C = leb (down e) (2 ^ low f) in
    let D = ltb (suc m * up e) (2 ^ suc (emax f) * down e) in
    record {
      digits = ltb→lt (suc m) (2 ^ prec f) (and_r A B (and_l (A && B) C (and_l (A && B && C) D h)));
      fine = leb→le (down e) (2 ^ low f) (and_r (A && B) C (and_l (A && B && C) D h));
      bounded = ltb→lt (suc m * up e) (2 ^ suc (emax f) * down e) (and_r (A && B && C) D h);
    }

-- ---- the value in units

pow_le_back : (a l : ℕ) → 2 ^ a ≤ 2 ^ l → a ≤ l
pow_le_back a l h = le_of_suc-le-suc (lt_of_not-le (λ (g : suc l ≤ a). lt_irrefl (2 ^ l) (lt_of_lt_of_le (pow-lt g) h)))

-- 2 ^ e in units is 2 ^ j, for the j that `place` gives
place : (l : ℕ) (e : ℤ) → down e ≤ 2 ^ l → (j : ℕ) × ((m : ℕ) → m * up e * 2 ^ l ≡ m * 2 ^ j * down e)
place l (pos a) h = (a + l, λ m. mul_assoc m (2 ^ a) (2 ^ l) ∙ ap (λ (x : ℕ). m * x) (sym (pow-add 2 a l)) ∙ sym (mul-one (m * 2 ^ (a + l))))
place l (negsuc a) h = (
  l - suc a,
  λ m.
      ap (λ (x : ℕ). x * 2 ^ l) (mul-one m)
      ∙ ap (λ (x : ℕ). m * x) (ap (λ (x : ℕ). 2 ^ x) (sym (back l (suc a) (pow_le_back (suc a) l h))) ∙ pow-add 2 (l - suc a) (suc a))
      ∙ sym (mul_assoc m (2 ^ (l - suc a)) (2 ^ suc a)),
)

-- a value of the format is its units times the smallest value, and is written m * 2 ^ j there
pub in_units : (f : Format) (m : ℕ) (e : ℤ) → InFormat f m e
    → (j : ℕ) × (units_of f m e ≡ m * 2 ^ j) × (m * up e * 2 ^ low f ≡ m * 2 ^ j * down e)
in_units f m e h =
    let p = place (low f) e h.fine in
    (p.0, ap (λ (x : ℕ). x / down e) (p.1 m) ∙ mul-div_cancel (m * 2 ^ p.0) (down_pos e), p.1 m)

pub units_value : (f : Format) (s : Bool) (m : ℕ) (e : ℤ) → InFormat f m e
    → HasValue (fin s m e) s (units_of f m e) (2 ^ low f)
units_value f s m e h =
    let p = in_units f m e h in (refl, p.2 ∙ ap (λ (x : ℕ). x * down e) (sym p.1))

pub units_below : (f : Format) (m : ℕ) (e : ℤ) → InFormat f m e → units_of f m e < 2 ^ (low f + suc (emax f))
units_below f m e h =
    let p = in_units f m e h in
    subst (λ (x : ℕ). x < 2 ^ (low f + suc (emax f))) (sym p.1)
    (lt_of_mul-lt-mul_right (down e)
    (subst (λ (x : ℕ). x < 2 ^ (low f + suc (emax f)) * down e) p.2
    (subst (λ (x : ℕ). m * up e * 2 ^ low f < x)
    (mul_right_comm (2 ^ suc (emax f)) (down e) (2 ^ low f) ∙ ap (λ (x : ℕ). x * down e) (mul_comm (2 ^ suc (emax f)) (2 ^ low f) ∙ sym (pow-add 2 (low f) (suc (emax f)))))
    (mul-lt-mul_of_pos_right h.bounded (pow_pos (low f))))))

-- ---- one value for each sign and number

pub to_bits_of : (f : Format) (s : Bool) (m : ℕ) (e : ℤ)
    → to_bits f (fin s m e) ≡ cond s (top f) 0 + (size (units_of f m e) - prec f) * hid f + units_of f m e / 2 ^
    (size (units_of f m e) - prec f)
unfolding to_bits
to_bits_of f s m e = refl

same_units : (f : Format) (m n : ℕ) (e d : ℤ) (a c : ℕ) → 0 < c → m * up e * c ≡ a * down e → n * up d * c ≡ a * down d
    → units_of f m e ≡ units_of f n d
same_units f m n e d a c C p q =
    div_same (m * up e * 2 ^ low f) (down e) (n * up d * 2 ^ low f) (down d) (down_pos e) (down_pos d)
    (eq_of_mul-eq-mul_right c C (m * up e * 2 ^ low f * down d) (n * up d * 2 ^ low f * down e)
    (cross (m * up e) (down e) (down d) p ∙ mul_right_comm (a * 2 ^ low f) (down e) (down d) ∙ sym (cross (n * up d) (down d) (down e) q)))
  where
    cross : (x u v : ℕ) → x * c ≡ a * u → x * 2 ^ low f * v * c ≡ a * 2 ^ low f * u * v
    cross x u v h =
        mul_right_comm (x * 2 ^ low f) v c ∙ ap (λ (z : ℕ). z * v) (mul_right_comm x (2 ^ low f) c ∙ ap (λ (z : ℕ). z * 2 ^ low f) h ∙ mul_right_comm a u (2 ^ low f))

same_bits : (f : Format) (s : Bool) (m n : ℕ) (e d : ℤ) → units_of f m e ≡ units_of f n d
    → to_bits f (fin s m e) ≡ to_bits f (fin s n d)
same_bits f s m n e d h =
    to_bits_of f s m e
    ∙ ap (λ (x : ℕ). cond s (top f) 0 + (size x - prec f) * hid f + x / 2 ^ (size x - prec f)) h
    ∙ sym (to_bits_of f s n d)

pub value_unique : (f : Format) (x y : Float) (s : Bool) (a c : ℕ) → T (fits f x) → T (fits f y) → 0 < c
    → HasValue x s a c → HasValue y s a c → x ≡ y
value_unique f nan y s a c p q C v w = absurd v
value_unique f (inf t) y s a c p q C v w = absurd v
value_unique f (fin t m e) nan s a c p q C v w = absurd w
value_unique f (fin t m e) (inf u) s a c p q C v w = absurd w
value_unique f (fin t m e) (fin u n d) s a c p q C v w =
    sym (of_bits-to_bits f (fin t m e) p)
    ∙ ap (of_bits f) (ap (λ (b : Bool). to_bits f (fin b m e)) (v.0 ∙ sym w.0) ∙ same_bits f u m n e d (same_units f m n e d a c C v.1 w.1))
    ∙ of_bits-to_bits f (fin u n d) q

-- ---- a value of the format is rounded to itself

pub round_self : (f : Format) (s : Bool) (m : ℕ) (e : ℤ) → T (fits f (fin s m e))
    → round f s (m * up e) (down e) ≡ fin s m e
round_self f s m e h =
    let k = in_format f s m e h in
    let p = in_units f m e k in
    value_unique f (round f s (m * up e) (down e)) (fin s m e) s (m * up e) (down e) (round-fits f s (m * up e) (down e)) h (down_pos e)
    (round_exact f s (m * up e) (down e) m p.0 (down_pos e) k.digits (subst (λ (x : ℕ). x < 2 ^ (low f + suc (emax f))) p.1 (units_below f m e k)) p.2)
    (refl, refl)
