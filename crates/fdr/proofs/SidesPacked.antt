-- The pass that packs the seen sides: the keys so far are those of the slots passed.
use mathlib.Core.Path.{◌≡◌, refl, sym, ap, ap₂, ◌∙◌, subst}
use mathlib.Core.List.{List, [], ◌∷◌, ◌++◌, map, append-nil, append_assoc, map-append}
use mathlib.Core.Logic.{inl, inr}
use mathlib.Core.Bool.{Bool, true, false, cond}
use Prim.Native.Nat.{ℕ, suc, ◌+◌, ◌-◌, ◌*◌, ◌≤◌, ◌<◌}
use native.Mathlib.Numerals.{add-one}
use native.Mathlib.Omega.{arith}
use lib.ListN.{length, get_or, take}
use lib.Dec.{T}
use lib.Ieee.{nan, binary32, fits}
use Rattle.folds.proofs.Tests.{lt_or_ge}
use Rattle.ranking.specs.Inner.Layout.{packed, payload}
use Rattle.competition.specs.Tables.{Table, is_seen}
use Rattle.fdr.specs.Sides.{Side, side_of, if_seen, slot_sides, sides_from, seen_sides}
use Rattle.fdr.specs.Inner.Passes.{side_key, ScoresFit}

-- one slot more
up_to_next : (P : ℕ → Type 0) (n : ℕ) → ((i : ℕ) → i < n → P i) → P n → (i : ℕ) → i < n + 1 → P i
up_to_next P n before here i h = elim (lt_or_ge i n) [
  | inl k ↦ before i k
  | inr k ↦ let e : n ≡ i = omega arith in subst P e here
]

pub record Packing (t : Table) (slot rows : ℕ) (keys : List ℕ) : Type 0 where
  pub high : slot ≤ length t.forward
  pub same : length keys ≡ 2 * length t.forward
  pub few : rows ≤ 2 * slot
  pub scores : ScoresFit t slot
  pub is : take rows keys ++ map side_key (sides_from t slot (length t.forward - slot)) ≡ map side_key (seen_sides t)

side_key_lem : (seen : Bool) (s : Side) (key : ℕ) → key ≡ side_key s
    → cond seen (key ∷ []) [] ≡ map side_key (cond seen (s ∷ []) [])
side_key_lem true s key e = ap (λ (k : ℕ). k ∷ []) e
side_key_lem false s key e = refl

pub packing_step : (t : Table) {slot rows : ℕ} {keys : List ℕ} → Packing t slot rows keys → slot < length t.forward
    → T (fits binary32 (get_or t.forward slot nan)) → T (fits binary32 (get_or t.reverse slot nan))
    → (key₁ rows₁ : ℕ) (keys₁ : List ℕ) → key₁ ≡ packed (get_or t.forward slot nan) (payload slot false)
    → rows₁ ≤ rows + 1
    → take rows₁ keys₁ ≡ take rows keys ++ cond (is_seen (get_or t.forward_seen slot 0)) (key₁ ∷ []) []
    → (key₂ rows₂ : ℕ) (keys₂ : List ℕ) → key₂ ≡ packed (get_or t.reverse slot nan) (payload slot true)
    → rows₂ ≤ rows₁ + 1
    → take rows₂ keys₂ ≡ take rows₁ keys₁ ++ cond (is_seen (get_or t.reverse_seen slot 0)) (key₂ ∷ []) []
    → length keys₂ ≡ length keys
    → Packing t (slot + 1) rows₂ keys₂
unfolding sides_from
packing_step t {slot} {rows} {keys} w h f₁ f₂ key₁ rows₁ keys₁ k₁ l₁ e₁ key₂ rows₂ keys₂ k₂ l₂ e₂ s =
    let n = length t.forward in
    let seen = is_seen (get_or t.forward_seen slot 0) in
    let seen₂ = is_seen (get_or t.reverse_seen slot 0) in
    let A = cond seen (key₁ ∷ []) [] in
    let B = cond seen₂ (key₂ ∷ []) [] in
    let later = sides_from t (suc slot) (n - suc slot) in
    let all : sides_from t slot (n - slot) ≡ slot_sides t slot ++ later = ap (sides_from t slot) (next n slot h) in
    let ours : A ++ B ≡ map side_key (slot_sides t slot) =
    ap₂ (λ (x y : List ℕ). x ++ y) (side_key_lem seen (side_of t slot false) key₁ k₁)
    (side_key_lem seen₂ (side_of t slot true) key₂ k₂)
    ∙ sym (map-append side_key (if_seen (get_or t.forward_seen slot 0) (side_of t slot false)) (if_seen (get_or t.reverse_seen slot 0) (side_of t slot true))) in
    record {
      high = omega arith;
      same = s ∙ w.same;
      few = omega (arith, w.few);
      scores = record {
        forward = up_to_next (λ i. T (fits binary32 (get_or t.forward i nan))) slot w.scores.forward f₁;
        reverse = up_to_next (λ i. T (fits binary32 (get_or t.reverse i nan))) slot w.scores.reverse f₂;
      };
      is = ap₂ (λ (x : List ℕ) (m : ℕ). x ++ map side_key (sides_from t m (n - m))) (e₂ ∙ ap (λ (x : List ℕ). x ++ B) e₁) (add-one slot)
          ∙ ap (λ (x : List ℕ). x ++ map side_key later) (append_assoc (take rows keys) A B)
          ∙ append_assoc (take rows keys) (A ++ B) (map side_key later)
          ∙ ap (λ (x : List ℕ). take rows keys ++ x)
          (ap (λ (x : List ℕ). x ++ map side_key later) ours ∙ sym (map-append side_key (slot_sides t slot) later) ∙ ap (map side_key) (sym all))
          ∙ w.is;
    }
  where
    next : (n m : ℕ) → m < n → n - m ≡ suc (n - suc m)
    next n m l = omega arith

pub packing_done : (t : Table) {slot rows : ℕ} {keys : List ℕ} → Packing t slot rows keys → length t.forward ≤ slot
    → take rows keys ≡ map side_key (seen_sides t)
unfolding sides_from
packing_done t {slot} {rows} {keys} w h =
    let z : length t.forward - slot ≡ 0 = omega arith in
    sym (append-nil (take rows keys)) ∙ ap (λ (n : ℕ). take rows keys ++ map side_key (sides_from t slot n)) (sym z) ∙ w.is
