-- Numbers in keys: a number written over the score can be read back, and the payload stays.
use mathlib.Core.Path.{◌≡◌, refl, sym, ap, ap₂, ◌∙◌, subst}
use mathlib.Core.List.{List, [], ◌∷◌, map}
use mathlib.Core.Bool.{not}
use Prim.Native.Nat.{ℕ, suc, ◌/◌}
use native.Mathlib.Omega.{arith}
use lib.Dec.{T}
use lib.ListN.{length}
use lib.Ieee.{Float, binary32, fits, is_nan, of_bits, to_bits, add}
use lib.Ieee.Fits.{div-fits}
use lib.Ieee.Bits.{of_bits-to_bits, to_bits-lt}
use Rattle.folds.specs.Inner.Each.{Each}
use Rattle.folds.proofs.Writing.{all_mapped}
use Rattle.floats.specs.Constants.{f32_one}
use Rattle.floats.specs.MinMax.{min_number}
use Rattle.floats.proofs.Order.{min_number_lem, min_fits}
use Rattle.floats.proofs.Constants.{one_number, one_fits, min_capped}
use Rattle.counting.specs.QValues.{minimum, running_minimum}
use Rattle.counting.proofs.RunningMinimum.{minimum_number, minimum_most}
use Rattle.ranking.specs.Inner.Layout.{place_of, decoy_bit}
use Rattle.ranking.proofs.Packed.{upper_of_with, payload_of_with, with_over, bit_of_with}
use Rattle.ranking.proofs.Ranks.{AllF32}
use Rattle.fdr.specs.declared.Settings.{Settings}
use Rattle.fdr.specs.Sides.{Side}
use Rattle.fdr.specs.SideQValues.{error_of, ratios_from}
use Rattle.fdr.specs.Inner.Passes.{with_numbers, key_number, NumberBits, HoldsNumber}

-- ---- f32 numbers: no NaN, and of the format

abbrev pub F32Number : Float → Type 0
F32Number q = T (not (is_nan q)) × T (fits binary32 q)

number_bits : (q : Float) → F32Number q → NumberBits (to_bits binary32 q)
number_bits q h = record {
  small = to_bits-lt binary32 q h.1;
  number = subst (λ (x : Float). T (not (is_nan x))) (sym (of_bits-to_bits binary32 q h.1)) h.0;
}

-- ---- ratios are of the format, so that their minima, and ratios of at most 1.0, can be written

module _ (settings : Settings) (bins : List Float) where
  pub ratios_fit : (sum : Float) (targets : ℕ) (sides : List Side)
      → AllF32 (ratios_from settings bins sum targets sides)
  unfolding ratios_from
  ratios_fit sum targets [] = tt
  ratios_fit sum targets (s ∷ ss) = (div-fits binary32 _ _, ratios_fit (add binary32 sum (error_of settings bins s.score)) _ ss)

  pub length_ratios : (sum : Float) (targets : ℕ) (sides : List Side)
      → length (ratios_from settings bins sum targets sides) ≡ length sides
  unfolding ratios_from
  length_ratios sum targets [] = refl
  length_ratios sum targets (s ∷ ss) = ap suc (length_ratios (add binary32 sum (error_of settings bins s.score)) _ ss)

pub capped_numbers : (rs : List Float) → AllF32 rs → Each F32Number (map (min_number f32_one) rs)
capped_numbers rs w =
    all_mapped (λ r. T (fits binary32 r)) F32Number (min_number f32_one) (λ r h. (min_number_lem f32_one r one_number, min_fits binary32 f32_one r one_fits h)) rs w

minimum_fits : (rs : List Float) → AllF32 rs → T (fits binary32 (minimum rs))
unfolding minimum
minimum_fits [] w = one_fits
minimum_fits (r ∷ rs) w = min_fits binary32 (minimum rs) r (minimum_fits rs w.1) w.0

pub minimum_numbers : (rs : List Float) → AllF32 rs → Each F32Number (running_minimum rs)
unfolding running_minimum
minimum_numbers [] w = tt
minimum_numbers (r ∷ rs) w = ((minimum_number (r ∷ rs), minimum_fits (r ∷ rs) w), minimum_numbers rs w.1)

-- ---- numbers in the scores' places

pub hold_numbers : (qs : List Float) (keys : List ℕ) → Each F32Number qs → Each HoldsNumber (with_numbers qs keys)
unfolding with_numbers
hold_numbers [] keys h = tt
hold_numbers (q ∷ qs) [] h = tt
hold_numbers (q ∷ qs) (k ∷ ks) h = (subst NumberBits (sym (upper_of_with (to_bits binary32 q) k)) (number_bits q h.0), hold_numbers qs ks h.1)

-- they can be read back
pub numbers_back : (qs : List Float) (keys : List ℕ) → Each F32Number qs → length qs ≡ length keys
    → map key_number (with_numbers qs keys) ≡ qs
unfolding with_numbers
numbers_back [] keys h e = refl
numbers_back (q ∷ qs) [] h e = absurd (omega arith)
numbers_back (q ∷ qs) (k ∷ ks) h e =
    ap₂ ◌∷◌ (ap (of_bits binary32) (upper_of_with (to_bits binary32 q) k) ∙ of_bits-to_bits binary32 q h.0.1) (numbers_back qs ks h.1 (omega arith))

-- and the payload stays
pub payload_stays : {A : Type 0} (f : ℕ → ℕ → A) (qs : List Float) (keys : List ℕ) → length qs ≡ length keys
    → map (λ k. f (place_of k) (decoy_bit k)) (with_numbers qs keys) ≡ map (λ k. f (place_of k) (decoy_bit k)) keys
unfolding with_numbers
payload_stays f [] [] e = refl
payload_stays f [] (k ∷ ks) e = absurd (omega arith)
payload_stays f (q ∷ qs) [] e = absurd (omega arith)
payload_stays f (q ∷ qs) (k ∷ ks) e =
    let u = to_bits binary32 q in
    ap₂ ◌∷◌ (ap₂ f (ap (λ (n : ℕ). n / 2) (payload_of_with u k)) (bit_of_with u k)) (payload_stays f qs ks (omega arith))

pub places_stay : (P : ℕ → Type 0) (qs : List Float) (keys : List ℕ) → Each (λ k. P (place_of k)) keys
    → Each (λ k. P (place_of k)) (with_numbers qs keys)
unfolding with_numbers
places_stay P [] keys w = tt
places_stay P (q ∷ qs) [] w = tt
places_stay P (q ∷ qs) (k ∷ ks) w = (subst (λ (n : ℕ). P (n / 2)) (sym (payload_of_with (to_bits binary32 q) k)) w.0, places_stay P qs ks w.1)

-- it does not matter what was written before
pub written_over : (qs rs : List Float) (keys : List ℕ) → length rs ≡ length keys
    → with_numbers qs (with_numbers rs keys) ≡ with_numbers qs keys
unfolding with_numbers
written_over [] rs keys e = refl
written_over (q ∷ qs) [] [] e = refl
written_over (q ∷ qs) [] (k ∷ ks) e = absurd (omega arith)
written_over (q ∷ qs) (r ∷ rs) [] e = absurd (omega arith)
written_over (q ∷ qs) (r ∷ rs) (k ∷ ks) e =
    ap₂ ◌∷◌ (with_over (to_bits binary32 q) (to_bits binary32 r) k) (written_over qs rs ks (omega arith))

-- ---- a ratio above 1.0 and a NaN may stand as 1.0: the minimum starts there

minimum_capped : (rs : List Float) → minimum (map (min_number f32_one) rs) ≡ minimum rs
unfolding minimum
minimum_capped [] = refl
minimum_capped (r ∷ rs) = ap (λ (x : Float). min_number x (min_number f32_one r)) (minimum_capped rs) ∙ min_capped (minimum rs) r (minimum_number rs) (minimum_most rs)

pub running_minimum_capped : (rs : List Float) → running_minimum (map (min_number f32_one) rs) ≡ running_minimum rs
unfolding running_minimum
running_minimum_capped [] = refl
running_minimum_capped (r ∷ rs) = ap₂ ◌∷◌ (minimum_capped (r ∷ rs)) (running_minimum_capped rs)
