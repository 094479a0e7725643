-- Document 01's sentences on posterior errors, as theorems about the definition. Every float of the machine fits its
-- format, which is all that `fits` asks here.
use mathlib.Core.Path.{◌≡◌, refl, sym, ap, ◌∙◌, subst}
use mathlib.Core.Logic.{inl, inr}
use mathlib.Core.List.{List}
use mathlib.Core.Bool.{Bool, true, false, ◌&&◌, true≢false, and-false}
use Prim.Native.Nat.{ℕ, ◌+◌, ◌-◌, ◌^◌, ◌≤◌, min}
use native.Mathlib.Omega.{arith}
use lib.Dec.{T}
use lib.IntN.{pos}
use lib.ListN.{length, get_or}
use lib.Ieee.{Float, nan, inf, fin, binary64, round, of_int, to_unsigned, neg, add, sub, mul, div, lt, eq, le, fits}
use lib.Ieee.Fits.{add-fits}
use lib.Ieee.Scale.{finite}
use lib.Ieee.Exact.{HasValue}
use lib.Ieee.Back.{round_whole}
use Rattle.folds.proofs.Tests.{or_split}
use Rattle.floats.specs.Signs.{negative}
use Rattle.floats.proofs.Nans.{add_nan, sub_nan, mul_nan, div_nan, nan_sub, nan_div}
use Rattle.floats.proofs.Zeros.{plus_zero, minus_zero, plus_zero_add, add_plus_zero, add_minus_zero, plus_zero_mul, mul_plus_zero, zero_mul_positive}
use Rattle.floats.proofs.Zeros.{sub_same, sub_level, plus_zero_eq, plus_zero_lt, sub_plus_zero_add}
use Rattle.floats.proofs.Differences.{sub_lt}
use Rattle.floats.proofs.Infinities.{off_above_zero, off_below_zero, off_div, off_mul, never_finite, level_div, zero_mul_infinite, add_infinite, infinite_minus}
use Rattle.floats.proofs.Convert.{under_div}
use Rattle.kde.specs.declared.Estimator.{Estimator}
use Rattle.kde.specs.Bins.{bin_score}
use Rattle.kde.specs.Estimate.{steps_up, factor, interpolated, posterior_error}
use Rattle.kde.proofs.Steps.{quotient, steps_are, posterior_by}

-- ---- which bins are used

abbrev pub last_of : List Float → ℕ
last_of bins = length bins - 1

abbrev pub last_bin : List Float → Float
last_bin bins = get_or bins (last_of bins) nan

abbrev pub first_bin : List Float → Float
first_bin bins = get_or bins 0 nan

-- the second bin, or the one that there is
abbrev pub second_bin : List Float → Float
second_bin bins = get_or bins (min (last_of bins) 1) nan

module _ (e : Estimator) (bins : List Float) (score : Float) where
  -- from the last bin's place on, the last bin twice
  pub last_used : last_of bins ≤ steps_up e score
      → posterior_error e bins score ≡ interpolated (last_bin bins) (last_bin bins) (factor e score (last_of bins))
  last_used h = sym (posterior_by e bins score (last_of bins) (last_of bins) (omega arith) (omega arith))

  -- below the second bin's place, the first two
  pub first_used : steps_up e score ≡ 0
      → posterior_error e bins score ≡ interpolated (first_bin bins) (second_bin bins) (factor e score 0)
  first_used h = sym (posterior_by e bins score 0 (min (last_of bins) 1) (omega arith) refl)

-- ---- interpolation without a number

pub factor_nan : (lower upper : Float) → interpolated lower upper nan ≡ nan
factor_nan lower upper = rw (mul_nan, add_nan)

-- one bin twice, it or the factor not finite
same_nan : (b linear : Float) → finite b && finite linear ≡ false → interpolated b b linear ≡ nan
unfolding add sub mul neg
same_nan nan linear h = refl
same_nan (inf true) linear h = refl
same_nan (inf false) linear h = refl
same_nan (fin s m e) nan h = factor_nan (fin s m e) (fin s m e)
same_nan (fin s m e) (inf t) h = rw sub_same (add_nan binary64 (fin s m e))
same_nan (fin s m e) (fin t n d) h = absurd (true≢false h)

-- both finite
same_stands : (b linear : Float) → T (fits binary64 b) → T (finite b) → T (finite linear) → (b ≡ minus_zero → ⊥)
    → interpolated b b linear ≡ b
same_stands nan linear t p q k = absurd p
same_stands (inf s) linear t p q k = absurd p
same_stands (fin s m e) nan t p q k = absurd q
same_stands (fin s m e) (inf u) t p q k = absurd q
same_stands (fin s m e) (fin u n d) t p q k = rw (sub_same, plus_zero_mul) (add_plus_zero binary64 s m e u t k)

same_minus : (linear : Float) → T (finite linear)
    → interpolated minus_zero minus_zero linear ≡ fin (negative linear) 0 (pos 0)
same_minus nan q = absurd q
same_minus (inf u) q = absurd q
same_minus (fin u n d) q = rw (sub_same, plus_zero_mul) (add_minus_zero binary64 u)

-- ---- "past the last bin the last value stands while it and the interpolation factor are finite"

module _ (e : Estimator) (bins : List Float) (score : Float) (past : last_of bins ≤ steps_up e score) where
  -- true to the bit but for a last bin of −0
  pub past_last : T (fits binary64 (last_bin bins)) → T (finite (last_bin bins))
      → T (finite (factor e score (last_of bins))) → (last_bin bins ≡ minus_zero → ⊥)
      → posterior_error e bins score ≡ last_bin bins
  past_last t p q k = last_used e bins score past ∙ same_stands _ _ t p q k

  -- which takes the factor's sign
  pub past_last_minus_zero : last_bin bins ≡ minus_zero → T (finite (factor e score (last_of bins)))
      → posterior_error e bins score ≡ fin (negative (factor e score (last_of bins))) 0 (pos 0)
  past_last_minus_zero h q = last_used e bins score past ∙ rw h (same_minus _ q)

  -- and otherwise it is a NaN
  pub past_last_nan : finite (last_bin bins) && finite (factor e score (last_of bins)) ≡ false
      → posterior_error e bins score ≡ nan
  past_last_nan h = last_used e bins score past ∙ same_nan _ _ h

-- ---- "A score of plus infinity gives NaN when the last bin is used": of minus infinity too

pub score_infinite : (e : Estimator) (bins : List Float) (s : Bool) → last_of bins ≤ steps_up e (inf s)
    → posterior_error e bins (inf s) ≡ nan
score_infinite e bins s h =
    past_last_nan e bins (inf s) h (rw (infinite_minus binary64 s (bin_score e (last_of bins)) e.score_step) (and-false (finite (last_bin bins))))

-- ---- a NaN score, least score or step

-- where every bin's factor is a NaN, so is the error
all_nan : (e : Estimator) (bins : List Float) (score : Float)
    → ((bin : ℕ) → bin ≤ last_of bins → factor e score bin ≡ nan)
    → posterior_error e bins score ≡ nan
all_nan e bins score h =
    let low = min (last_of bins) (steps_up e score) in
    let high = min (last_of bins) (low + 1) in
    sym (posterior_by e bins score low high refl refl)
    ∙ ap (interpolated (get_or bins low nan) (get_or bins high nan)) (h low (omega arith))
    ∙ factor_nan (get_or bins low nan) (get_or bins high nan)

pub score_nan : (e : Estimator) (bins : List Float) → posterior_error e bins nan ≡ nan
score_nan e bins = all_nan e bins nan (λ bin l. rw (nan_sub, nan_div))

pub least_nan : (e : Estimator) (bins : List Float) (score : Float) → e.min_score ≡ nan
    → posterior_error e bins score ≡ nan
least_nan e bins score h = all_nan e bins score (λ bin l. rw (h, add_nan, sub_nan, nan_div))

pub step_nan : (e : Estimator) (bins : List Float) (score : Float) → e.score_step ≡ nan
    → posterior_error e bins score ≡ nan
step_nan e bins score h = all_nan e bins score (λ bin l. rw (h, div_nan))

-- ---- "A score under the first bin is extrapolated": on the line through the first two bins

pub under_first : (e : Estimator) (bins : List Float) (score : Float) → T (fits binary64 score)
    → T (fits binary64 e.min_score)
    → T (lt plus_zero e.score_step) → T (finite e.score_step) → T (lt score e.min_score)
    → posterior_error e bins score ≡ interpolated (first_bin bins) (second_bin bins) (quotient e score)
under_first e bins score t u p q h =
    let least = e.min_score in
    let step = e.score_step in
    first_used e bins score (steps_are e score ∙ under_div 64 binary64 step (off_below_zero (sub binary64 score least) (sub_lt binary64 score least t u h).0) p)
    ∙ rw (zero_mul_positive step p q, sub_plus_zero_add binary64 score least t u h)

-- ---- "Step +0 gives NaN for a score at or above the least; under it, on finite bins, the same formula gives an
-- infinity, or NaN where the first two bins are equal or there is one bin."

module _ (e : Estimator) (bins : List Float) (score : Float) (t : T (fits binary64 score))
    (u : T (fits binary64 e.min_score)) (flat : e.score_step ≡ plus_zero) where
  -- every bin has the least score, as 0 + least
  flat_score : (bin : ℕ) → bin ≤ 65536 → bin_score e bin ≡ add binary64 plus_zero e.min_score
  unfolding of_int
  flat_score bin h = rw (flat, go (round binary64 false bin 1) (round_whole binary64 false bin (omega arith)))
    where
      go : (x : Float) → HasValue x false bin 1 → mul binary64 x plus_zero ≡ plus_zero
      go nan v = elim v [ ]
      go (inf _) v = elim v [ ]
      go (fin s m d) v = rw v.0 (mul_plus_zero binary64 m d)

  first_eq : T (eq e.min_score score) → T (eq (add binary64 plus_zero e.min_score) score)
  first_eq h = elim (plus_zero_add binary64 e.min_score u) [
    | inl k ↦ rw k h
    | inr k ↦ rw k.1 (plus_zero_eq score (subst (λ (x : Float). T (eq x score)) k.0 h))
  ]

  first_lt : T (lt score e.min_score) → T (lt score (add binary64 plus_zero e.min_score))
  first_lt h = elim (plus_zero_add binary64 e.min_score u) [
    | inl k ↦ rw k h
    | inr k ↦ rw k.1 (plus_zero_lt score (subst (λ (x : Float). T (lt score x)) k.0 h))
  ]

  flat_factor : (bin : ℕ) → bin ≤ 65536
      → factor e score bin ≡ div binary64 (sub binary64 score (add binary64 plus_zero e.min_score)) plus_zero
  flat_factor bin h = rw (flat_score bin h, flat)

  flat_level : length bins ≤ 65536 → T (eq e.min_score score) → posterior_error e bins score ≡ nan
  flat_level few h =
      all_nan e bins score
      (λ bin l. flat_factor bin (omega arith) ∙ level_div binary64 (add binary64 plus_zero e.min_score) score (first_eq h))

  flat_above : length bins ≤ 65536 → T (lt e.min_score score) → posterior_error e bins score ≡ nan
  unfolding to_unsigned
  flat_above few h =
      let q = off_div binary64 (off_above_zero (sub binary64 score e.min_score) (sub_lt binary64 e.min_score score u t h).1) in
      let l : last_of bins ≤ 2 ^ 64 - 1 = omega arith in
      past_last_nan e bins score (rw (steps_are, flat, q) l) (rw (flat, never_finite) (and-false (finite (last_bin bins))))

  pub step_plus_zero_above : length bins ≤ 65536 → T (le e.min_score score) → posterior_error e bins score ≡ nan
  unfolding le
  step_plus_zero_above few h = elim (or_split (lt e.min_score score) (eq e.min_score score) h) [
    | inl k ↦ flat_above few k
    | inr k ↦ flat_level few k
  ]

  flat_under : T (lt score e.min_score)
      → posterior_error e bins score ≡ interpolated (first_bin bins) (second_bin bins) (inf true)
  unfolding to_unsigned
  flat_under h =
      let q = off_div binary64 (off_below_zero (sub binary64 score e.min_score) (sub_lt binary64 score e.min_score t u h).0) in
      let first = add binary64 plus_zero e.min_score in
      let k = off_div binary64 (off_below_zero (sub binary64 score first) (sub_lt binary64 score first t (add-fits binary64 plus_zero e.min_score) (first_lt h)).0) in
      first_used e bins score (rw (steps_are, flat, q)) ∙ rw (flat_factor 0 (omega arith), k)

-- two finite bins on a line of infinite slope, to the left of it
pub record Steep (first second answer : Float) : Type 0 where
  pub level : T (eq first second) → answer ≡ nan
  pub rising : T (lt first second) → answer ≡ inf true
  pub falling : T (lt second first) → answer ≡ inf false

steep : (first second : Float) → T (fits binary64 first) → T (fits binary64 second) → T (finite first)
    → Steep first second (interpolated first second (inf true))
steep first second t u p = record {
  level = λ h. let z = sub_level binary64 first second p h in rw (z.1, zero_mul_infinite binary64 z.0 true) (add_nan binary64 first);
  rising = λ h. rw (off_mul binary64 true (off_above_zero (sub binary64 second first) (sub_lt binary64 first second t u h).1)) (add_infinite binary64 first true p);
  falling = λ h. rw (off_mul binary64 true (off_below_zero (sub binary64 second first) (sub_lt binary64 second first u t h).0)) (add_infinite binary64 first false p);
}

module _ (e : Estimator) (bins : List Float) (score : Float) (t : T (fits binary64 score))
    (u : T (fits binary64 e.min_score)) (flat : e.score_step ≡ plus_zero)
    (h : T (lt score e.min_score)) where
  pub step_plus_zero_under : T (fits binary64 (first_bin bins)) → T (fits binary64 (second_bin bins))
      → T (finite (first_bin bins))
      → Steep (first_bin bins) (second_bin bins) (posterior_error e bins score)
  step_plus_zero_under p q r = rw (flat_under e bins score t u flat h) (steep _ _ p q r)

  pub step_plus_zero_one_bin : length bins ≡ 1 → posterior_error e bins score ≡ nan
  step_plus_zero_one_bin single =
      let same : min (last_of bins) 1 ≡ 0 = omega arith in
      flat_under e bins score t u flat h ∙ rw same (same_nan (first_bin bins) (inf true) (and-false (finite (first_bin bins))))
