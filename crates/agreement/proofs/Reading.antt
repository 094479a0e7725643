-- The walk along an order: the labels are written from the front (`Writing`), and the rows that pass are counted
-- (`Counting`).
use mathlib.Core.Path.{◌≡◌, refl, ap, ◌∙◌}
use mathlib.Core.List.{List, [], ◌∷◌, map}
use mathlib.Core.Bool.{Bool, true, false, cond}
use Prim.Native.Nat.{ℕ, suc, ◌+◌, ◌^◌, ◌≤◌, ◌<◌}
use native.Mathlib.Nat.{zero-add, add_comm}
use native.Mathlib.Numerals.{add-one}
use native.Mathlib.Omega.{arith}
use lib.IntN.{ℤ, pos}
use lib.ListN.{length, get_or, set}
use lib.Ieee.{Float, nan, le}
use lib.Signed.{mag}
use mir.Syntax.{w32}
use mir.Val.{bool_byte, of_z, to_z}
use mir.ValLaws.{to_z-of_z}
use Rattle.folds.specs.Lists.{how_many}
use Rattle.folds.proofs.Folds.{Counting, counting_step, counting_done}
use Rattle.folds.proofs.Writing.{Writing, writing_step, writing_mapped}
use Rattle.counting.specs.QValues.{count_at_most}

count_mapped : (c : Float) (read : ℕ → Float) (rows : List ℕ)
    → how_many (λ row. le (read row) c) rows ≡ count_at_most c (map read rows)
unfolding how_many count_at_most
count_mapped c read [] = refl
count_mapped c read (row ∷ rows) = go (le (read row) c) (count_mapped c read rows)
  where
    go : (b : Bool) → how_many (λ row. le (read row) c) rows ≡ count_at_most c (map read rows)
        → cond b 1 0 + how_many (λ row. le (read row) c) rows
        ≡ cond b (suc (count_at_most c (map read rows))) (count_at_most c (map read rows))
    go true e = rw (add_comm 1 (how_many (λ row. le (read row) c) rows), add-one) (ap suc e)
    go false e = rw (zero-add) e

module _ (c : Float) (labels : List ℤ) (q : List Float) (order : List ℕ) where
  abbrev label : ℕ → ℤ
  label row = get_or labels row (pos 0)

  abbrev row_passes : ℕ → Bool
  row_passes row = le (get_or q row nan) c

  pub record Reading (ranked : List ℤ) (passing i : ℕ) : Type 0 where
    pub ranks : Writing (λ k. label (get_or order k 0)) (pos 0) (length order) ranked i
    pub count : Counting row_passes order i passing

  -- a label comes from its 32 bits
  pub reading_step : {ranked : List ℤ} {passing i : ℕ} (b : Bool) → Reading ranked passing i → i < length order
      → mag (label (get_or order i 0)) < 2 ^ 31 → b ≡ row_passes (get_or order i 0)
      → Reading (set ranked i (to_z w32 (of_z w32 (label (get_or order i 0))))) (passing + bool_byte b) (i + 1)
  reading_step b w h m e = record {
    ranks = writing_step w.ranks h (to_z-of_z w32 _ (record { sfits = m }));
    count = counting_step 0 b w.count h e;
  }

  pub reading_labels : {ranked : List ℤ} {passing i : ℕ} → Reading ranked passing i → length order ≤ i
      → ranked ≡ map label order
  reading_labels w h = writing_mapped label 0 order w.ranks refl (omega (arith, w.ranks.same))

  pub reading_count : {ranked : List ℤ} {passing i : ℕ} → Reading ranked passing i → length order ≤ i
      → passing ≡ count_at_most c (map (λ row. get_or q row nan) order)
  reading_count w h = counting_done w.count h ∙ count_mapped c (λ row. get_or q row nan) order
