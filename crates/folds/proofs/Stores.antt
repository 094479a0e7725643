-- Walks that store an entry a turn, and walks that change nothing.
use mathlib.Core.Path.{◌≡◌, refl, ap, ◌∙◌}
use mathlib.Core.List.{List, [], ◌∷◌}
use Prim.Native.Nat.{ℕ, zero, suc, ◌+◌, ◌-◌, ◌≤◌, ◌<◌}
use native.Mathlib.Omega.{arith}
use lib.ListN.{length, get_or, set}
use lib.Seq.{get_or-set_other}
use Rattle.folds.specs.Walks.{steps, for_range}

-- ---- a walk that stores f i at each place i

module _ {A : Type 0} (f : ℕ → A) where
  abbrev pub store : ℕ → List A → List A
  store i column = set column i (f i)

  steps_past : (d : A) (i a k : ℕ) (column : List A) → a + k ≤ i
      → get_or (steps store a k column) i d ≡ get_or column i d
  unfolding steps
  steps_past d i a zero column h = refl
  steps_past d i a (suc k) column h =
      steps_past d i (suc a) k (store a column) (omega arith) ∙ get_or-set_other column a i (f a) d (λ (e : i ≡ a). omega arith)

  -- places past its end keep their entries
  pub stored_past : (d : A) (i a b : ℕ) (column : List A) → a ≤ i → b ≤ i
      → get_or (for_range store a b column) i d ≡ get_or column i d
  stored_past d i a b column l h = steps_past d i a (b - a) column (omega arith)

-- both entries of a pair
pub stored_pair : {A : Type 0} (l : List A) (a b : A) → length l ≡ 2 → set (set l 0 a) 1 b ≡ a ∷ b ∷ []
stored_pair [] a b e = absurd (no e)
  where
    no : ◌≡◌ {A = ℕ} 0 2 → ⊥
    no p = omega arith
stored_pair (x ∷ []) a b e = absurd (no e)
  where
    no : ◌≡◌ {A = ℕ} 1 2 → ⊥
    no p = omega arith
stored_pair (x ∷ y ∷ []) a b e = refl
stored_pair (x ∷ y ∷ z ∷ l) a b e = absurd (no (length l) e)
  where
    no : (n : ℕ) → suc (suc (suc n)) ≡ 2 → ⊥
    no n p = omega arith

-- ---- a walk whose turns change nothing

module _ {S : Type 0} (f : ℕ → S → S) (s : S) where
  steps_unchanged : (a k : ℕ) → ((i : ℕ) → a ≤ i → i < a + k → f i s ≡ s) → steps f a k s ≡ s
  unfolding steps
  steps_unchanged a zero h = refl
  steps_unchanged a (suc k) h =
      ap (steps f (suc a) k) (h a (omega arith) (omega arith)) ∙ steps_unchanged (suc a) k (λ i l g. h i (omega arith) (omega arith))

  pub for_range_unchanged : (a b : ℕ) → ((i : ℕ) → a ≤ i → i < b → f i s ≡ s) → for_range f a b s ≡ s
  for_range_unchanged a b h = steps_unchanged a (b - a) (λ i l g. h i l (omega arith))
