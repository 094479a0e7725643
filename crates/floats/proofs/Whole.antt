-- Floor and ceiling. A float of 2^(prec − 1) or more in size is whole. A smaller one is cut to a whole number that the
-- format holds exactly, and below zero a fraction takes one more away: so the code gives what `floored` says.
use Rattle.std.proofs.Common.{◌≡◌, ℕ, zero, suc, ◌+◌, ◌-◌, ◌*◌, ◌/◌, ◌^◌, ◌<◌, ◌≤◌, min, Bool, true, false, cond, not, ◌&&◌, ◌||◌, T, eqb, ltb, ℤ, pos, negsuc, neg_ℤ, sym, refl, ap, ◌∙◌, subst, true≢false, lt_of_lt_of_le, le_of_suc-le-suc, le_of_lt, mul-le-mul_right, suc-mul, div-lt_iff_lt-mul, add-mul, add_comm, mul-le-mul_left, mul-pos, one-mul, le-div_iff_mul-le, zero-mul, mul-one, le-mul_of_pos_right, div-mul-le_self, mul-div_cancel, arith, lit<, lit≤, le→leb, lt→ltb, leb→le, pow_pos, w64, to_z, of_z, ltb-false, ltb-true, lt-ltb, eq-eqb, eqb-true}
use mathlib.Core.Bool.{beq, false≢true}
use native.Mathlib.Nat.{div-eq_of_lt-le}
use native.Mathlib.Nat.{lt-div-mul-add, pow-succ'}
use native.Mathlib.Nat.{div-eq_of_eq-mul_left}
use lib.Arith.{lt_of_le-ne}
use mir.ValLaws.{to_z-of_z}
use denote.Floats.{passes}
use lib.Ieee.{Float, nan, inf, fin, Format, binary32, binary64, prec, up, down, below, level, round, neg, sub, lt, le, eq}
use lib.Ieee.{of_int, to_signed, to_unsigned, in_float, fits, is_nan}
use lib.Ieee.Fits.{down_pos, neg-fits, and_i, round-fits, fits_widens}
use lib.Ieee.Bits.{is_true}
use lib.Ieee.Exact.{HasValue}
use lib.Ieee.Back.{round_whole}
use lib.Ieee.Scale.{round_same}
use Rattle.std.specs.Float.{floor, ceil, round_with}
use Rattle.floats.specs.Whole.{ceiling, floored, ceiled}
use Rattle.floats.proofs.Values.{in_format, round_self, value_unique}
use Rattle.floats.proofs.Order.{gain, loss}
use Rattle.floats.proofs.Fractions.{lt_at, eq_at, le_at, add_at, neg_value, neg_le, neg_neg, neg_round}

-- a float of this size or more is whole; with the sign s
abbrev pub whole_limit : Format → Bool → Float
whole_limit f s = fin s 1 (pos (prec f - 1))

ceiling_is : (k a d : ℕ) → a ≤ k * d → k * d < a + d → ceiling a d ≡ k
ceiling_is k a d h l = div-eq_of_lt-le d (omega arith) (rw add-mul (omega (arith, one-mul d)))

-- ---- a float with no fraction is its own floor
floored_is : (f : Format) (s : Bool) (m : ℕ) (e : ℤ)
    → floored f (fin s m e) ≡ round f s (cond s (ceiling (m * up e) (down e)) (m * up e / down e)) 1
unfolding floored
floored_is f s m e = refl

whole_is : (s : Bool) (a d n : ℕ) → 0 < d → n * d ≡ a → cond s (ceiling a d) (a / d) ≡ n
whole_is true a d n D h = ceiling_is n a d (omega arith) (omega arith)
whole_is false a d n D h = rw (← h) (mul-div_cancel n D)

fixed : (f : Format) (s : Bool) (m : ℕ) (e : ℤ) (n : ℕ) → T (fits f (fin s m e)) → n * down e ≡ m * up e
    → floored f (fin s m e) ≡ fin s m e
fixed f s m e n t h =
    floored_is f s m e
    ∙ ap (λ (z : ℕ). round f s z 1) (whole_is s (m * up e) (down e) n (down_pos e) h)
    ∙ round_same f s n 1 (m * up e) (down e) (lit≤ tt) (down_pos e) (h ∙ sym (mul-one (m * up e)))
    ∙ round_self f s m e t

-- ---- a large float has no fraction
doubled : (f : Format) → 2 ^ (prec f - 1) * 2 ≡ 2 ^ prec f
doubled binary32 = refl
doubled binary64 = refl

two_up : (k : ℕ) → 2 ≤ 2 ^ suc k
two_up k = rw (pow-succ' 2 k) (omega (arith, pow_pos k))

no_fraction : (f : Format) (s : Bool) (m : ℕ) (e : ℤ) → T (fits f (fin s m e)) → 2 ^ (prec f - 1) * down e ≤ m * up e
    → (n : ℕ) × (n * down e ≡ m * up e)
no_fraction f s m (pos k) t h = (m * 2 ^ k, mul-one (m * 2 ^ k))
no_fraction f s m (negsuc k) t h =
    absurd (omega (arith, (in_format f s m (negsuc k) t).digits, mul-le-mul_left (2 ^ (prec f - 1)) (two_up k), doubled f, mul-one m))

large : (f : Format) (s : Bool) (m : ℕ) (e : ℤ) → T (fits f (fin s m e)) → 2 ^ (prec f - 1) * down e ≤ m * up e
    → floored f (fin s m e) ≡ fin s m e
large f s m e t h = let w = no_fraction f s m e t h in fixed f s m e w.0 t w.1

-- ---- the two tests that lead to an answer of x itself
bare : (p a d : ℕ) → ltb (a * 1) (1 * p * d) ≡ false → p * d ≤ a
bare p a d h = rw (one-mul, mul-one) at (ltb-false (a * 1) (1 * p * d) h)

-- a sum with a part above 0 is above 0
never : (p a d : ℕ) → 0 < p → 0 < d → ltb 0 (1 * p * d + a * 1) ≡ false → ⊥
never p a d P D h = omega (arith, ltb-false 0 (1 * p * d + a * 1) h, one-mul p, mul-pos P D)

-- x from the limit on, a NaN and +infinity included
floor_above : (f : Format) (x : Float) → T (fits f x) → lt x (whole_limit f false) ≡ false → x ≡ floored f x
unfolding lt floored
floor_above f nan t h = refl
floor_above f (inf s) t h = refl
floor_above f (fin true m e) t h = absurd (never (2 ^ (prec f - 1)) (m * up e) (down e) (pow_pos (prec f - 1)) (down_pos e) (rw add_comm at h))
floor_above f (fin false m e) t h = sym (large f false m e t (bare (2 ^ (prec f - 1)) (m * up e) (down e) h))

-- x down from the negative limit, a NaN and −infinity included
floor_below : (f : Format) (x : Float) → T (fits f x) → lt (whole_limit f true) x ≡ false → x ≡ floored f x
unfolding lt floored
floor_below f nan t h = refl
floor_below f (inf s) t h = refl
floor_below f (fin true m e) t h = sym (large f true m e t (bare (2 ^ (prec f - 1)) (m * up e) (down e) h))
floor_below f (fin false m e) t h = absurd (never (2 ^ (prec f - 1)) (m * up e) (down e) (pow_pos (prec f - 1)) (down_pos e) h)

-- ---- between the limits
-- What the code relies on there. z, which is x cut to an integer, passes to a float with nothing lost, and each answer
-- is `floored`.
pub record Cut (f : Format) (x : Float) (z : ℤ) : Type 0 where
  pub exact : T (in_float f z)
  pub same : eq (of_int f z) x ≡ true → x ≡ floored f x
  pub less : lt (of_int f z) x ≡ true → of_int f z ≡ floored f x
  pub more : eq (of_int f z) x ≡ false → lt (of_int f z) x ≡ false
      → sub f (of_int f z) (fin false 1 (pos 0)) ≡ floored f x

abbrev signed : Bool → ℕ → ℤ
signed s q = cond s (neg_ℤ (pos q)) (pos q)

-- the integer ±q as a float: it has the sign s or is zero
record Whole (f : Format) (s : Bool) (q : ℕ) : Type 0 where
  sign : Bool
  value : HasValue (of_int f (signed s q)) sign q 1
  alike : (d : ℕ) → T (beq sign s || eqb (q * d) 0)

whole_number : (f : Format) (s : Bool) (q : ℕ) → q ≤ 2 ^ prec f → Whole f s q
unfolding of_int
whole_number f false q h = record { sign = false; value = round_whole f false q h; alike = λ d. tt }
whole_number f true zero h = record { sign = false; value = round_whole f false 0 h; alike = λ d. rw zero-mul tt }
whole_number f true (suc k) h = record { sign = true; value = round_whole f true (suc k) h; alike = λ d. tt }

in_float_lem : (f : Format) (s : Bool) (q : ℕ) → q ≤ 2 ^ prec f → T (in_float f (signed s q))
unfolding in_float
in_float_lem f false q h = le→leb q (2 ^ prec f) h
in_float_lem f true zero h = le→leb 0 (2 ^ prec f) h
in_float_lem f true (suc k) h = lt→ltb k (2 ^ prec f) h

level_same : (s t : Bool) (a b : ℕ) → T (beq s t || eqb a 0) → a ≡ b → level s a t b ≡ true
level_same s t a b h e = rw (eq-eqb a b e) (is_true (beq s t || eqb a 0) h)

level_eq : (s t : Bool) (a b : ℕ) → level s a t b ≡ true → a ≡ b
level_eq s t a b h = eqb-true a b (first (eqb a b) h)
  where
    first : (p : Bool) → p && (beq s t || eqb a 0) ≡ true → p ≡ true
    first true h = refl
    first false h = h

not_below : (s : Bool) (a b : ℕ) → a ≤ b → below s a true b ≡ true → ⊥
not_below false a b h l = false≢true l
not_below true a b h l = omega (arith, ltb-true b a l)

not_above : (s : Bool) (a b : ℕ) → a ≤ b → below s a false b ≡ false → a ≡ b
not_above false a b h l = omega (arith, ltb-false a b l)
not_above true a b h l = omega (arith, ltb-false 0 (a + b) l)

-- −q minus one
minus_one : (f : Format) (q : ℕ) → q ≤ 2 ^ prec f
    → sub f (of_int f (neg_ℤ (pos q))) (fin false 1 (pos 0)) ≡ round f true (q + 1) 1
unfolding sub of_int
minus_one binary32 zero h = unfold round in refl
minus_one binary64 zero h = unfold round in refl
minus_one f (suc k) h =
    add_at f (round f true (suc k) 1) (fin true 1 (pos 0)) true (suc k) 1 1 1 (lit≤ tt) (lit≤ tt) (round_whole f true (suc k) h) (refl, refl)
    ∙ rw (mul-one (suc k))

module _ (f : Format) (m : ℕ) (e : ℤ) (q : ℕ) (is : m * up e / down e ≡ q) (fine : q ≤ 2 ^ prec f) where
  at_most : q * down e ≤ m * up e * 1
  at_most = rw (← is) (omega (arith, div-mul-le_self (m * up e) (down e)))

  lt_is : (s : Bool)
      → lt (of_int f (signed s q)) (fin s m e) ≡ below (whole_number f s q fine).sign (q * down e) s (m * up e * 1)
  lt_is s =
      let w = whole_number f s q fine in
      lt_at w.sign s q 1 (m * up e) (down e) (lit≤ tt) (down_pos e) (of_int f (signed s q)) (fin s m e) w.value (refl, refl)

  eq_is : (s : Bool)
      → eq (of_int f (signed s q)) (fin s m e) ≡ level (whole_number f s q fine).sign (q * down e) s (m * up e * 1)
  eq_is s =
      let w = whole_number f s q fine in
      eq_at w.sign s q 1 (m * up e) (down e) (lit≤ tt) (down_pos e) (of_int f (signed s q)) (fin s m e) w.value (refl, refl)

  differ : (s : Bool) → eq (of_int f (signed s q)) (fin s m e) ≡ false → q * down e ≡ m * up e * 1 → ⊥
  differ s h k =
      let w = whole_number f s q fine in
      true≢false (sym (level_same w.sign s (q * down e) (m * up e * 1) (w.alike (down e)) k) ∙ sym (eq_is s) ∙ h)

  less : (s : Bool) → lt (of_int f (signed s q)) (fin s m e) ≡ true → of_int f (signed s q) ≡ floored f (fin s m e)
  unfolding of_int
  less false h = rw (← is) (sym (floored_is f false m e))
  less true h = absurd (not_below (whole_number f true q fine).sign (q * down e) (m * up e * 1) at_most (sym (lt_is true) ∙ h))

  more : (s : Bool) → eq (of_int f (signed s q)) (fin s m e) ≡ false → lt (of_int f (signed s q)) (fin s m e) ≡ false
      → sub f (of_int f (signed s q)) (fin false 1 (pos 0)) ≡ floored f (fin s m e)
  more false h l = absurd (differ false h (not_above (whole_number f false q fine).sign (q * down e) (m * up e * 1) at_most (sym (lt_is false) ∙ l)))
  more true h l =
      let over : m * up e < q * down e + down e = rw is at (lt-div-mul-add {a = m * up e} (down_pos e)) in
      let under : q * down e < m * up e * 1 = lt_of_le-ne at_most (differ true h) in
      let up_one : ceiling (m * up e) (down e) ≡ q + 1 = ceiling_is (q + 1) (m * up e) (down e) (rw add-mul (omega arith)) (rw add-mul (omega arith)) in
      minus_one f q fine ∙ sym (floored_is f true m e ∙ ap (λ (z : ℕ). round f true z 1) up_one)

  below_limit : (s : Bool) → T (fits f (fin s m e)) → Cut f (fin s m e) (signed s q)
  below_limit s t = record {
    exact = in_float_lem f s q fine;
    same = λ h. sym (fixed f s m e q t (level_eq (whole_number f s q fine).sign s (q * down e) (m * up e * 1) (sym (eq_is s) ∙ h) ∙ mul-one (m * up e)));
    less = less s;
    more = more s;
  }

-- ---- the two tests that lead there, and what they are worth
-- finite, and below the limit in size
abbrev Inside : Format → Float → Type 0
Inside f nan = ⊥
Inside f (inf s) = ⊥
Inside f (fin s m e) = m * up e < 2 ^ (prec f - 1) * down e

inside : (f : Format) (x : Float) → lt x (whole_limit f false) ≡ true → lt (whole_limit f true) x ≡ true → Inside f x
unfolding lt
inside f nan h k = absurd (false≢true h)
inside f (inf true) h k = absurd (false≢true k)
inside f (inf false) h k = absurd (false≢true h)
inside f (fin true m e) h k = rw (one-mul, mul-one) at (ltb-true (m * up e * 1) (1 * 2 ^ (prec f - 1) * down e) k)
inside f (fin false m e) h k = rw (one-mul, mul-one) at (ltb-true (m * up e * 1) (1 * 2 ^ (prec f - 1) * down e) h)

in_63 : (f : Format) → 2 ^ (prec f - 1) < 2 ^ 63
in_63 binary32 = lit< tt
in_63 binary64 = lit< tt

wider : (f : Format) (m : ℕ) (e : ℤ) → Inside f (fin false m e) → m * up e * 1 < 2 ^ 63 * down e
wider f m e h = rw mul-one (lt_of_lt_of_le h (mul-le-mul_right (down e) (le_of_lt (in_63 f))))

-- what the conversion to i64 asks
castable : (f : Format) (x : Float) → Inside f x → T (le (fin true 1 (pos 63)) x) × T (lt x (fin false 1 (pos 63)))
unfolding le
castable f nan h = elim h [ ]
castable f (inf _) h = elim h [ ]
castable f (fin true m e) h =
    (rw (lt-ltb (m * up e * 1) (2 ^ 63 * down e) (wider f m e h)) tt, lt→ltb 0 (m * up e * 1 + 2 ^ 63 * down e) (omega (arith, down_pos e)))
castable f (fin false m e) h =
    (rw (lt-ltb 0 (2 ^ 63 * down e + m * up e * 1) (omega (arith, down_pos e))) tt, lt→ltb (m * up e * 1) (2 ^ 63 * down e) (wider f m e h))

cut_is : (f : Format) (s : Bool) (m : ℕ) (e : ℤ) → m * up e / down e < 2 ^ (prec f - 1)
    → to_signed 63 (fin s m e) ≡ signed s (m * up e / down e)
unfolding to_signed
cut_is f true m e h = let n : min (m * up e / down e) (2 ^ 63) ≡ m * up e / down e = omega (arith, in_63 f) in rw n
cut_is f false m e h = let n : min (m * up e / down e) (2 ^ 63 - 1) ≡ m * up e / down e = omega (arith, in_63 f) in rw n

-- the integer passes through 64 bits unchanged
stored : (s : Bool) (q : ℕ) → q < 2 ^ 63 → to_z w64 (of_z w64 (signed s q)) ≡ signed s q
stored false q h = to_z-of_z w64 (pos q) (record { sfits = h })
stored true zero h = to_z-of_z w64 (pos 0) (record { sfits = h })
stored true (suc k) h = to_z-of_z w64 (negsuc k) (record { sfits = le_of_lt h })

abbrev pub StoredCut : Format → Float → ℤ → Type 0
StoredCut f x z = Cut f x (to_z w64 (of_z w64 z))

-- x cut to an integer, which passes through 64 bits unchanged
kept : (f : Format) (x : Float) → Inside f x → to_z w64 (of_z w64 (to_signed 63 x)) ≡ to_signed 63 x
kept f nan h = elim h [ ]
kept f (inf _) h = elim h [ ]
kept f (fin s m e) h =
    let small : m * up e / down e < 2 ^ (prec f - 1) = (div-lt_iff_lt-mul (down_pos e)).1 h in
    rw (cut_is f s m e small) (stored s (m * up e / down e) (omega (arith, in_63 f)))

cut_inside : (f : Format) (x : Float) (z : ℤ) → T (fits f x) → Inside f x → z ≡ to_signed 63 x → StoredCut f x z
cut_inside f nan z t h k = elim h [ ]
cut_inside f (inf _) z t h k = elim h [ ]
cut_inside f (fin s m e) z t h k =
    let q = m * up e / down e in
    let small : q < 2 ^ (prec f - 1) = (div-lt_iff_lt-mul (down_pos e)).1 h in
    rw (k, cut_is f s m e small, stored s q (omega (arith, in_63 f))) (below_limit f m e q refl (omega (arith, doubled f)) s t)

-- ---- a floor by a cut to a whole number, from its first test to its answers
pub record FloorCode (f : Format) (x : Float) : Type 0 where
  pub from_limit : lt x (whole_limit f false) ≡ false → x ≡ floored f x
  pub to_limit : lt (whole_limit f true) x ≡ false → x ≡ floored f x
  pub castable : lt x (whole_limit f false) ≡ true → lt (whole_limit f true) x ≡ true
      → T (le (fin true 1 (pos 63)) x) × T (lt x (fin false 1 (pos 63)))
  pub cut : lt x (whole_limit f false) ≡ true → lt (whole_limit f true) x ≡ true → {z : ℤ} → z ≡ to_signed 63 x
      → StoredCut f x z
  pub kept : lt x (whole_limit f false) ≡ true → lt (whole_limit f true) x ≡ true
      → to_z w64 (of_z w64 (to_signed 63 x)) ≡ to_signed 63 x

pub floor_code : (f : Format) (x : Float) → fits f x ≡ true → FloorCode f x
floor_code f x e = let t = passes (fits f x) e in record {
  from_limit = floor_above f x t;
  to_limit = floor_below f x t;
  castable = λ h k. castable f x (inside f x h k);
  cut = λ h k {z} w. cut_inside f x z t (inside f x h k) w;
  kept = λ h k. kept f x (inside f x h k);
}

-- ---- std's floor and ceil are these

std_up : (f : Format) (m : ℕ) (e : ℤ)
    → round f true ((m * up e + down e - 1) / down e) 1 ≡ round f true (ceiling (m * up e) (down e)) 1
std_up f m e = ap (λ (n : ℕ). round f true (n / down e) 1) (omega (arith, down_pos e))

pub floor_by_std : (f : Format) (x : Float) → floor f x ≡ floored f x
unfolding floored round_with
floor_by_std f nan = refl
floor_by_std f (inf s) = refl
floor_by_std f (fin false m e) = refl
floor_by_std f (fin true m e) = std_up f m e

pub ceil_by_std : (f : Format) (x : Float) → ceil f x ≡ ceiled f x
unfolding ceiled round_with
ceil_by_std f nan = refl
ceil_by_std f (inf s) = refl
ceil_by_std f (fin false m e) = ap (λ (n : ℕ). round f false (n / down e) 1) (omega (arith, down_pos e))
ceil_by_std f (fin true m e) = refl

-- ---- the ceiling
-- the ceiling is the floor's negative of the negative
pub ceil_neg : (f : Format) (x : Float) → neg (floored f (neg x)) ≡ ceiled f x
unfolding neg floored ceiled
ceil_neg f nan = refl
ceil_neg f (inf true) = refl
ceil_neg f (inf false) = refl
ceil_neg f (fin true m e) = neg_round f false (m * up e / down e) 1
ceil_neg f (fin false m e) = neg_round f true (ceiling (m * up e) (down e)) 1

-- ---- what the floor is: the greatest whole number not above x
ceiling_above : (a d : ℕ) → 0 < d → a ≤ ceiling a d * d
ceiling_above a d D = omega (arith, lt-div-mul-add {a = a + (d - 1)} D)

ceiling_least : (a d k : ℕ) → 0 < d → a ≤ k * d → ceiling a d ≤ k
ceiling_least a d k D h = le_of_suc-le-suc ((div-lt_iff_lt-mul {y = suc k} D).1 (rw suc-mul (omega arith)))

-- the size of the floor of ±a/d
abbrev pub part : Bool → ℕ → ℕ → ℕ
part s a d = cond s (ceiling a d) (a / d)

part_le : (s : Bool) (a d p : ℕ) → 0 < d → a < p * d → part s a d ≤ p
part_le true a d p D h = ceiling_least a d p D (omega arith)
part_le false a d p D h = le_of_lt ((div-lt_iff_lt-mul D).1 h)

-- the floor is that whole number exactly, with the sign of x
pub floor_value : (f : Format) (s : Bool) (m : ℕ) (e : ℤ) → T (fits f (fin s m e))
    → HasValue (floored f (fin s m e)) s (part s (m * up e) (down e)) 1
floor_value f s m e t = go (ltb (m * up e) (2 ^ (prec f - 1) * down e)) refl
  where
    go : (b : Bool) → ltb (m * up e) (2 ^ (prec f - 1) * down e) ≡ b
        → HasValue (floored f (fin s m e)) s (part s (m * up e) (down e)) 1
    go true h =
        let l : part s (m * up e) (down e) ≤ 2 ^ (prec f - 1) = part_le s (m * up e) (down e) (2 ^ (prec f - 1)) (down_pos e) (ltb-true _ _ h) in
        rw (floored_is f s m e) (round_whole f s (part s (m * up e) (down e)) (omega (arith, doubled f)))
    go false h =
        let w = no_fraction f s m e t (ltb-false _ _ h) in
        rw (fixed f s m e w.0 t w.1, whole_is s (m * up e) (down e) w.0 (down_pos e) w.1) (refl, mul-one (m * up e) ∙ sym w.1)

floored_fits : (f : Format) (x : Float) → T (fits f (floored f x))
unfolding floored fits
floored_fits f nan = tt
floored_fits f (inf s) = tt
floored_fits f (fin s m e) = round-fits f s (part s (m * up e) (down e)) 1

-- an f32 has the same floor in both formats
pub floor_same : (x : Float) → T (fits binary32 x) → floored binary64 x ≡ floored binary32 x
unfolding floored
floor_same nan t = refl
floor_same (inf s) t = refl
floor_same (fin s m e) t =
    let x = fin s m e in
    value_unique binary64 (floored binary64 x) (floored binary32 x) s (part s (m * up e) (down e)) 1
    (floored_fits binary64 x) (fits_widens (floored binary32 x) (floored_fits binary32 x)) (lit≤ tt)
    (floor_value binary64 s m e (fits_widens x t)) (floor_value binary32 s m e t)

-- and that of a number is a number of the format
pub floored_number : (f : Format) (x : Float) → T (fits f x) → T (not (is_nan x))
    → T (fits f (floored f x) && not (is_nan (floored f x)))
unfolding floored fits is_nan
floored_number f nan t n = absurd n
floored_number f (inf s) t n = tt
floored_number f (fin s m e) t n =
    and_i (fits f (floored f (fin s m e))) _ (floored_fits f (fin s m e)) (finite (floored f (fin s m e)) s (part s (m * up e) (down e)) (floor_value f s m e t))
  where
    finite : (y : Float) (s : Bool) (a : ℕ) → HasValue y s a 1 → T (not (is_nan y))
    finite nan s a v = v
    finite (inf t) s a v = tt
    finite (fin t m e) s a v = tt

part_under : (s : Bool) (a d : ℕ) → 0 < d
    → gain s (part s a d * d) + loss s (a * 1) ≤ gain s (a * 1) + loss s (part s a d * d)
part_under true a d D = omega (arith, ceiling_above a d D)
part_under false a d D = omega (arith, div-mul-le_self a d)

part_greatest : (s t : Bool) (a d n : ℕ) → 0 < d → gain t (n * d) + loss s (a * 1) ≤ gain s (a * 1) + loss t (n * d)
    → gain t (n * 1) + loss s (part s a d * 1) ≤ gain s (part s a d * 1) + loss t (n * 1)
part_greatest true true a d n D h = omega (arith, ceiling_least a d n D (omega arith))
part_greatest true false a d n D h = omega (arith, ceiling_least a d 0 D (omega arith), le-mul_of_pos_right n D)
part_greatest false true a d n D h = omega arith
part_greatest false false a d n D h = omega (arith, (le-div_iff_mul-le {x = n} {y = a} D).1 (omega arith))

-- r is a whole number, not above x, and no whole number not above x is larger
pub record Floor (x r : Float) : Type 0 where
  pub sign : Bool
  pub size : ℕ
  pub is_whole : HasValue r sign size 1
  pub not_above : T (le r x)
  pub greatest : (y : Float) (t : Bool) (n : ℕ) → HasValue y t n 1 → T (le y x) → T (le y r)

pub floor_is : (f : Format) (s : Bool) (m : ℕ) (e : ℤ) → T (fits f (fin s m e))
    → Floor (fin s m e) (floored f (fin s m e))
floor_is f s m e t = record {
  sign = s;
  size = part s (m * up e) (down e);
  is_whole = floor_value f s m e t;
  not_above = rw (le_at s s (part s (m * up e) (down e)) 1 (m * up e) (down e) (lit≤ tt) (down_pos e) (floored f (fin s m e)) (fin s m e)
      (floor_value f s m e t) (refl, refl)) (le→leb _ _ (part_under s (m * up e) (down e) (down_pos e)));
  greatest = λ y u n v h.
      rw (le_at u s n 1 (part s (m * up e) (down e)) 1 (lit≤ tt) (lit≤ tt) y (floored f (fin s m e)) v (floor_value f s m e t))
      (le→leb _ _ (part_greatest s u (m * up e) (down e) n (down_pos e)
      (leb→le _ _ (rw (le_at u s n 1 (m * up e) (down e) (lit≤ tt) (down_pos e) y (fin s m e) v (refl, refl)) at h))));
}

-- ---- what the ceiling is: the least whole number not below x
-- r is a whole number, not below x, and no whole number not below x is less
pub record Ceil (x r : Float) : Type 0 where
  pub sign : Bool
  pub size : ℕ
  pub is_whole : HasValue r sign size 1
  pub not_below : T (le x r)
  pub least : (y : Float) (t : Bool) (n : ℕ) → HasValue y t n 1 → T (le x y) → T (le r y)

floor_turned : (x g : Float) (s : Bool) (a c : ℕ) → 0 < c → HasValue x s a c → Floor (neg x) g → Ceil x (neg g)
floor_turned x g s a c C v w = record {
  sign = not w.sign;
  size = w.size;
  is_whole = neg_value g w.sign w.size 1 w.is_whole;
  not_below = subst (λ (z : Float). T (le z (neg g))) (neg_neg x)
      (rw (neg_le (not s) w.sign a c w.size 1 C (lit≤ tt) (neg x) g (neg_value x s a c v) w.is_whole) w.not_above);
  least = λ y u n k h. subst (λ (z : Float). T (le (neg g) z)) (neg_neg y)
      (rw (neg_le w.sign (not u) w.size 1 n 1 (lit≤ tt) (lit≤ tt) g (neg y) w.is_whole (neg_value y u n 1 k))
      (w.greatest (neg y) (not u) n (neg_value y u n 1 k) (rw (neg_le u s n 1 a c (lit≤ tt) C y x k v) h)));
}

pub ceil_is : (f : Format) (s : Bool) (m : ℕ) (e : ℤ) → T (fits f (fin s m e)) → Ceil (fin s m e) (ceiled f (fin s m e))
unfolding neg
ceil_is f s m e t =
    rw (← ceil_neg) (floor_turned (fin s m e) (floored f (fin (not s) m e)) s (m * up e) (down e) (down_pos e) (refl, refl)
    (floor_is f (not s) m e (neg-fits f (fin s m e) t)))

-- ---- with a conversion
convert_whole : (x : Float) (s : Bool) (n : ℕ) → HasValue x s n 1 → to_unsigned 64 x ≡ cond s 0 (min n (2 ^ 64 - 1))
unfolding to_unsigned
convert_whole nan s n v = elim v [ ]
convert_whole (inf _) s n v = elim v [ ]
convert_whole (fin u m e) s n v = rw (v.0, div-eq_of_eq-mul_left (down_pos e) (sym (mul-one (m * up e)) ∙ v.1))

-- a floor before the saturating conversion changes nothing
pub floor_then_convert : (f : Format) (x : Float) → T (fits f x) → to_unsigned 64 (floored f x) ≡ to_unsigned 64 x
unfolding floored to_unsigned
floor_then_convert f nan t = refl
floor_then_convert f (inf s) t = refl
floor_then_convert f (fin true m e) t = convert_whole (floored f (fin true m e)) true (part true (m * up e) (down e)) (floor_value f true m e t)
floor_then_convert f (fin false m e) t = convert_whole (floored f (fin false m e)) false (part false (m * up e) (down e)) (floor_value f false m e t)
