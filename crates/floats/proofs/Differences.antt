-- Differences of floats. A number of a format is a whole number of the format's smallest values, so two that differ lie
-- one of them apart at least, and rounding keeps that: x − y is below zero where x < y, and y − x above it.
use Rattle.std.proofs.Common.{◌≡◌, ℕ, ◌+◌, ◌-◌, ◌*◌, ◌^◌, ◌<◌, Bool, true, false, not, T, ℤ, sym, ◌∙◌, subst, mul-le-mul_right, add_comm, arith, ltb→lt, lt→ltb, pow_pos, ltb-true, le-ltb}
use mathlib.Core.Bool.{false≢true}
use lib.Ieee.{Float, nan, inf, fin, Format, binary32, binary64, low, up, down, below, round, sum, neg, add, sub, lt, fits}
use lib.Ieee.Bits.{is_true}
use lib.Ieee.Order.{round_mono}
use Rattle.floats.proofs.Values.{in_format, units_of, units_value}
use Rattle.floats.proofs.Fractions.{neg_round, lt_over, sub_over}
use Rattle.floats.proofs.Order.{lt_of_lt_of_le}
use Rattle.floats.proofs.Zeros.{plus_zero}

smallest_above : (f : Format) → T (lt plus_zero (round f false 1 (2 ^ low f)))
unfolding lt round
smallest_above binary32 = tt
smallest_above binary64 = tt

neg_above : (z : Float) → T (lt plus_zero z) → T (lt (neg z) plus_zero)
unfolding lt neg
neg_above nan t = absurd t
neg_above (inf true) t = absurd t
neg_above (inf false) t = tt
neg_above (fin true m e) t = absurd t
neg_above (fin false m e) t = lt→ltb 0 (m * up e * 1 + 0 * down e) (omega (arith, ltb→lt (0 * down e) (m * up e * 1) t))

module _ (f : Format) where
  -- one smallest value or more
  above : (n : ℕ) → 0 < n → T (lt plus_zero (round f false n (2 ^ low f)))
  above n h =
      lt_of_lt_of_le plus_zero (round f false 1 (2 ^ low f)) (round f false n (2 ^ low f)) (smallest_above f)
      (round_mono f 1 (2 ^ low f) n (2 ^ low f) (pow_pos (low f)) (pow_pos (low f)) (mul-le-mul_right (2 ^ low f) h))

  under : (n : ℕ) → 0 < n → T (lt (round f true n (2 ^ low f)) plus_zero)
  under n h = subst (λ (z : Float). T (lt z plus_zero)) (neg_round f false n (2 ^ low f)) (neg_above (round f false n (2 ^ low f)) (above n h))

  -- ±a below ±b, in smallest values
  sum_lt : (s t : Bool) (a b : ℕ) → below s a t b ≡ true
      → T (lt (sum f s a (not t) b (2 ^ low f)) plus_zero) × T (lt plus_zero (sum f t b (not s) a (2 ^ low f)))
  unfolding sum
  sum_lt false false a b h = let l = ltb-true a b h in (rw h (under (b - a) (omega arith)), rw (le-ltb b a (omega arith)) (above (b - a) (omega arith)))
  sum_lt false true a b h = absurd (false≢true h)
  sum_lt true false a b h = let l = ltb-true 0 (a + b) h in (under (a + b) l, rw (add_comm b a) (above (a + b) l))
  sum_lt true true a b h = let l = ltb-true b a h in (rw (le-ltb a b (omega arith), h) (under (a - b) (omega arith)), rw h (above (a - b) (omega arith)))

  sub_fin : (s : Bool) (m : ℕ) (e : ℤ) (t : Bool) (n : ℕ) (d : ℤ) → T (fits f (fin s m e)) → T (fits f (fin t n d))
      → T (lt (fin s m e) (fin t n d))
      → T (lt (sub f (fin s m e) (fin t n d)) plus_zero) × T (lt plus_zero (sub f (fin t n d) (fin s m e)))
  sub_fin s m e t n d p q h =
      let u = units_of f m e in
      let u' = units_of f n d in
      let v = units_value f s m e (in_format f s m e p) in
      let v' = units_value f t n d (in_format f t n d q) in
      let L = pow_pos (low f) in
      rw (sub_over s t u u' (2 ^ low f) L f (fin s m e) (fin t n d) v v', sub_over t s u' u (2 ^ low f) L f (fin t n d) (fin s m e) v' v)
      (sum_lt s t u u' (sym (lt_over s t u u' (2 ^ low f) L (fin s m e) (fin t n d) v v') ∙ is_true (lt (fin s m e) (fin t n d)) h))

  pub sub_lt : (x y : Float) → T (fits f x) → T (fits f y) → T (lt x y)
      → T (lt (sub f x y) plus_zero) × T (lt plus_zero (sub f y x))
  unfolding lt sub add neg
  sub_lt nan y p q h = absurd h
  sub_lt (inf s) nan p q h = absurd h
  sub_lt (inf true) (inf true) p q h = absurd h
  sub_lt (inf true) (inf false) p q h = (tt, tt)
  sub_lt (inf false) (inf t) p q h = absurd h
  sub_lt (inf true) (fin t n d) p q h = (tt, tt)
  sub_lt (inf false) (fin t n d) p q h = absurd h
  sub_lt (fin s m e) nan p q h = absurd h
  sub_lt (fin s m e) (inf true) p q h = absurd h
  sub_lt (fin s m e) (inf false) p q h = (tt, tt)
  sub_lt (fin s m e) (fin t n d) p q h = sub_fin s m e t n d p q h
