-- The pass from the last row up: the keys from i on hold the least number from their row on, and the count is of these
-- rows.
use mathlib.Core.Path.{◌≡◌, refl, sym, ap, ap₂, ◌∙◌}
use mathlib.Core.List.{List, [], ◌∷◌, map}
use mathlib.Core.Bool.{not, cond, ◌&&◌}
use Prim.Native.Nat.{ℕ, suc, ◌+◌, ◌≤◌, ◌<◌}
use native.Mathlib.Nat.{le_refl}
use native.Mathlib.Numerals.{add-one}
use native.Mathlib.Omega.{arith}
use lib.Dec.{T, eqb}
use lib.ListN.{length, get_or, take, drop, set, length-set}
use lib.Seq.{drop-cons, drop-length, set_split, take-set-le, take-take, get_or-take, drop_at, length-take-le}
use lib.Ieee.{Float, binary32, is_nan, le, of_bits}
use mir.Val.{bool_byte}
use Rattle.folds.proofs.Tests.{byte_most}
use Rattle.floats.specs.MinMax.{min_number}
use Rattle.floats.specs.Ratio.{one_in}
use Rattle.counting.specs.Labels.{is_decoy}
use Rattle.counting.specs.QValues.{minimum, running_minimum, targets_at_most}
use Rattle.counting.proofs.RunningMinimum.{minimum_number}
use Rattle.ranking.specs.Inner.Layout.{decoy_bit, label_of}
use Rattle.ranking.proofs.Packed.{pass_one}
use Rattle.fdr.specs.Inner.Passes.{with_number, with_numbers, key_number}
use Rattle.floats.proofs.Order.{min_number_lem}

abbrev minima : List ℕ → List Float
minima keys = running_minimum (map key_number keys)

abbrev passing_of : List ℕ → ℕ
passing_of keys = targets_at_most (one_in 100) (map label_of keys) (minima keys)

module _ (keys₀ : List ℕ) where
  pub record Minima (i : ℕ) (least : Float) (passing : ℕ) (keys : List ℕ) : Type 0 where
    pub high : i ≤ length keys₀
    pub same : length keys ≡ length keys₀
    pub few : passing + i ≤ length keys₀
    pub front : take i keys ≡ take i keys₀
    pub least_is : least ≡ minimum (map key_number (drop i keys₀))
    pub count_is : passing ≡ passing_of (drop i keys₀)
    pub keys_are : drop i keys ≡ with_numbers (minima (drop i keys₀)) (drop i keys₀)

  pub minima_start : Minima (length keys₀) (of_bits binary32 1065353216) 0 keys₀
  unfolding minimum running_minimum targets_at_most with_numbers
  minima_start =
      let none : drop (length keys₀) keys₀ ≡ [] = drop-length keys₀ in
      record {
        high = le_refl (length keys₀);
        same = refl;
        few = omega arith;
        front = refl;
        least_is = ap (λ (ks : List ℕ). minimum (map key_number ks)) (sym none);
        count_is = ap (λ (ks : List ℕ). passing_of ks) (sym none);
        keys_are = none ∙ ap (λ (ks : List ℕ). with_numbers (minima ks) ks) (sym none);
      }

  module _ {i : ℕ} {least : Float} {passing : ℕ} {keys : List ℕ} (w : Minima i least passing keys) where
    -- the least is no NaN
    pub minima_number : (x m : Float) → m ≡ min_number least x → T (not (is_nan m))
    minima_number x m e =
        let n : T (not (is_nan least)) = rw w.least_is (minimum_number (map key_number (drop i keys₀))) in
        rw e (min_number_lem least x n)

    module _ (j : ℕ) (e : i ≡ j + 1) where
      -- the key at the next place
      minima_key : get_or keys j 0 ≡ get_or keys₀ j 0
      minima_key = sym (get_or-take i keys j 0 (omega arith)) ∙ ap (λ (l : List ℕ). get_or l j 0) w.front ∙ get_or-take i keys₀ j 0 (omega arith)

      pub minima_step : (x m c : Float) (bit v : ℕ) → x ≡ key_number (get_or keys j 0) → m ≡ min_number least x
          → c ≡ one_in 100
          → bit ≡ decoy_bit (get_or keys j 0) → v ≡ with_number m (get_or keys j 0)
          → Minima j m (passing + bool_byte (le m c && eqb bit 0)) (set keys j v)
      unfolding minimum running_minimum targets_at_most with_numbers
      minima_step x m c bit v x_is m_is c_is bit_is v_is =
          let k = get_or keys₀ j 0 in
          let rest = drop (suc j) keys₀ in
          let h : j < length keys₀ = omega (arith, w.high) in
          let h' : j < length keys = omega (arith, w.high, w.same) in
          let i_is : i ≡ suc j = e ∙ add-one j in
          let key : get_or keys j 0 ≡ k = minima_key in
          let split : drop j keys₀ ≡ k ∷ rest = drop-cons keys₀ j 0 h in
          let low : m ≡ minimum (map key_number (k ∷ rest)) =
          m_is ∙ ap₂ min_number (w.least_is ∙ ap (λ (n : ℕ). minimum (map key_number (drop n keys₀))) i_is) (x_is ∙ ap key_number key) in
          let count : passing ≡ passing_of rest = w.count_is ∙ ap (λ (n : ℕ). passing_of (drop n keys₀)) i_is in
          record {
            high = omega arith;
            same = length-set keys j v ∙ w.same;
            few = omega (arith, byte_most (le m c && eqb bit 0), w.few);
            front = take-set-le j keys j v (le_refl j) ∙ sym (take-take j i keys (omega arith)) ∙ ap (take j) w.front ∙ take-take j i keys₀ (omega arith);
            least_is = low ∙ ap (λ (ks : List ℕ). minimum (map key_number ks)) (sym split);
            count_is = ap (λ (n : ℕ). passing + bool_byte (le m c && eqb n 0)) (bit_is ∙ ap decoy_bit key)
                ∙ pass_one k passing (le m c)
                ∙ ap (λ (y : Float). cond (is_decoy (label_of k)) passing (cond (le m y) (suc passing) passing)) c_is
                ∙ ap₂ (λ (n : ℕ) (y : Float). cond (is_decoy (label_of k)) n (cond (le y (one_in 100)) (suc n) n)) count low
                ∙ ap (λ (ks : List ℕ). passing_of ks) (sym split);
            keys_are = ap (drop j) (set_split keys j v h')
                ∙ drop_at (take j keys) (v ∷ drop (suc j) keys) j (length-take-le j keys (omega arith))
                ∙ ap₂ ◌∷◌ (v_is ∙ ap₂ with_number low key)
                (ap (λ (n : ℕ). drop n keys) (sym i_is) ∙ w.keys_are ∙ ap (λ (n : ℕ). with_numbers (minima (drop n keys₀)) (drop n keys₀)) i_is)
                ∙ ap (λ (ks : List ℕ). with_numbers (minima ks) ks) (sym split);
          }
