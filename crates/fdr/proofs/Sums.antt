-- The pass down the ranked rows: the first i keys hold their ratios, and the sum and the count are those up to row i.
use mathlib.Core.Path.{◌≡◌, refl, sym, ap, ap₂, ◌∙◌}
use mathlib.Core.List.{List, ◌∷◌, ◌++◌, append-nil}
use mathlib.Core.Bool.{Bool, true, false, cond}
use Prim.Native.Nat.{ℕ, suc, ◌+◌, ◌-◌, ◌≤◌, ◌<◌}
use native.Mathlib.Nat.{add-zero, add_assoc}
use native.Mathlib.Numerals.{add-one}
use native.Mathlib.Omega.{arith}
use lib.Dec.{eqb}
use borrow.Author.Tests.{eqb-true, eqb-false}
use lib.ListN.{length, get_or, take, drop, set, length-set, drop_of_length-le}
use lib.Seq.{drop-cons, drop-set-lt, drop-drop, get_or-drop, take_all}
use lib.Ieee.{Float, binary32, add, div, of_bits}
use Rattle.folds.proofs.Writing.{front_write}
use Rattle.floats.specs.Constants.{f32_one}
use Rattle.floats.specs.MinMax.{min_number}
use Rattle.floats.specs.Ratio.{f32_of_count}
use Rattle.ranking.specs.Inner.Layout.{decoy_bit}
use Rattle.competition.specs.Tables.{Table}
use Rattle.fdr.specs.declared.Settings.{Settings}
use Rattle.fdr.specs.SideQValues.{error_of, ratios_from}
use Rattle.fdr.specs.Inner.Passes.{key_side, target_keys, with_number, with_numbers, capped_ratios}

-- a target counts
seen_one : (bit targets : ℕ) → bit < 2 → targets + (1 - bit) ≡ cond (eqb bit 1) targets (suc targets)
seen_one bit targets l = go (eqb bit 1) (eqb-true bit 1) (eqb-false bit 1)
  where
    go : (d : Bool) → (d ≡ true → bit ≡ 1) → (d ≡ false → bit ≡ 1 → ⊥)
        → targets + (1 - bit) ≡ cond d targets (suc targets)
    go true h n = let o = h refl in omega arith
    go false h n = let o = n refl in omega arith

bit_small : (key : ℕ) → decoy_bit key < 2
bit_small key = omega arith

module _ (settings : Settings) (bins : List Float) (t : Table) (keys₀ : List ℕ) where
  pub record Summing (i : ℕ) (sum : Float) (target : ℕ) (keys : List ℕ) : Type 0 where
    pub high : i ≤ length keys₀
    pub same : length keys ≡ length keys₀
    pub rest : drop i keys ≡ drop i keys₀
    pub count : target + target_keys (drop i keys₀) ≡ target_keys keys₀
    pub is : take i keys ++ with_numbers (capped_ratios settings bins t sum target (drop i keys₀)) (drop i keys₀)
        ≡ with_numbers (capped_ratios settings bins t f32_one 0 keys₀) keys₀

  module _ {i : ℕ} {sum : Float} {target : ℕ} {keys : List ℕ} (w : Summing i sum target keys) where
    pub summing_done : length keys₀ ≤ i → keys ≡ with_numbers (capped_ratios settings bins t f32_one 0 keys₀) keys₀
    unfolding ratios_from with_numbers
    summing_done h =
        sym (append-nil keys)
        ∙ ap₂ (λ (a b : List ℕ). a ++ b) (sym (take_all i keys (omega (arith, w.same))))
        (ap (λ (ks : List ℕ). with_numbers (capped_ratios settings bins t sum target ks) ks) (sym (drop_of_length-le keys₀ h)))
        ∙ w.is

    -- the key at the place
    summing_key : get_or keys i 0 ≡ get_or keys₀ i 0
    summing_key = sym (first keys) ∙ ap (λ (l : List ℕ). get_or l 0 0) w.rest ∙ first keys₀
      where
        first : (l : List ℕ) → get_or (drop i l) 0 0 ≡ get_or l i 0
        first l = get_or-drop i l 0 0 ∙ ap (λ (n : ℕ). get_or l n 0) (add-zero i)

    module _ (h : i < length keys₀) where
      pub summing_step : (score pep r : Float) (bit v : ℕ) → score ≡ (key_side t (get_or keys i 0)).score
          → pep ≡ error_of settings bins score → bit ≡ decoy_bit (get_or keys i 0) → (count : Float)
          → count ≡ f32_of_count (target + (1 - bit))
          → r ≡ min_number (of_bits binary32 1065353216) (div binary32 (add binary32 sum pep) count)
          → v ≡ with_number r (get_or keys i 0)
          → Summing (i + 1) (add binary32 sum pep) (target + (1 - bit)) (set keys i v)
      unfolding ratios_from with_numbers target_keys
      summing_step score pep r bit v score_is pep_is bit_is count count_is r_is v_is =
          let k = get_or keys₀ i 0 in
          let key : get_or keys i 0 ≡ k = summing_key in
          let bit_of : bit ≡ decoy_bit k = bit_is ∙ ap decoy_bit key in
          let tail = drop (suc i) keys₀ in
          let split : drop i keys₀ ≡ k ∷ tail = drop-cons keys₀ i 0 h in
          let from_here : Float → ℕ → List ℕ =
          λ more seen. with_number (min_number f32_one (div binary32 more (f32_of_count seen))) k ∷ with_numbers (capped_ratios settings bins t more seen tail) tail in
          let more_is : add binary32 sum pep ≡ add binary32 sum (error_of settings bins (key_side t k).score) =
          ap (add binary32 sum) (pep_is ∙ ap (error_of settings bins) (score_is ∙ ap (λ (x : ℕ). (key_side t x).score) key)) in
          record {
            high = omega arith;
            same = length-set keys i v ∙ w.same;
            rest = drop-set-lt (i + 1) keys i v (omega arith) ∙ sym (drop-drop 1 i keys) ∙ ap (drop 1) w.rest ∙ drop-drop 1 i keys₀;
            count = ap₂ (λ (x n : ℕ). target + (1 - x) + target_keys (drop n keys₀)) bit_of (add-one i)
                ∙ add_assoc target (1 - decoy_bit k) (target_keys tail)
                ∙ ap (λ (ks : List ℕ). target + target_keys ks) (sym split)
                ∙ w.count;
            is = front_write i keys (with_numbers (capped_ratios settings bins t (add binary32 sum pep) (target + (1 - bit)) (drop (i + 1) keys₀)) (drop (i + 1) keys₀)) v (omega (arith, w.same))
                ∙ ap (λ (l : List ℕ). take i keys ++ l)
                (ap₂ (λ (x : ℕ) (ks : List ℕ). x ∷ with_numbers (capped_ratios settings bins t (add binary32 sum pep) (target + (1 - bit)) ks) ks)
                (v_is ∙ ap₂ with_number (r_is ∙ ap (λ (x : Float). min_number f32_one (div binary32 (add binary32 sum pep) x)) count_is) key) (ap (λ (n : ℕ). drop n keys₀) (add-one i))
                ∙ ap₂ from_here more_is (ap (λ (x : ℕ). target + (1 - x)) bit_of ∙ seen_one (decoy_bit k) target (bit_small k))
                ∙ ap (λ (ks : List ℕ). with_numbers (capped_ratios settings bins t sum target ks) ks) (sym split))
                ∙ w.is;
          }
