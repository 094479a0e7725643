-- The first pass: the sums that the loop leaves are the definition's, class by class and column by column.
use mathlib.Core.Path.{◌≡◌, refl, sym, ap, ◌∙◌}
use mathlib.Core.List.{List, []}
use mathlib.Core.Bool.{Bool, true, false, cond}
use Prim.Native.Nat.{ℕ, zero, suc, ◌+◌, ◌<◌, zero-le}
use native.Mathlib.Numerals.{add-one}
use lib.IntN.{ℤ, pos}
use lib.ListN.{get_or, replicate}
use lib.Ieee.{Float, nan, binary64, add}
use borrow.Author.Tests.{eq-eqb, ne_eqb}
use Rattle.folds.specs.Walks.{steps, for_range}
use Rattle.folds.specs.Lists.{tabulated}
use Rattle.floats.specs.Constants.{f64_zero}
use Rattle.gauss.specs.Elimination.{Matrix, row}
use Rattle.linear_discriminant.specs.Rows.{feature}
use Rattle.linear_discriminant.specs.Fit.{class_of, in_class, add_taken, summed}
use Rattle.linear_discriminant.specs.Inner.Passes.{added_row, sum_row, summed_rows}
use Rattle.folds.proofs.Walks.{for_range_last}
use Rattle.folds.proofs.Writing.{tabulated_same, tabulated_at, tabulated_set}
use Rattle.linear_discriminant.proofs.Classes.{class_small}

module _ (features : List Float) (labels : List ℤ) where
  -- the sum of column j over the rows of class c
  abbrev pub class_sum : ℕ → ℕ → ℕ → Float
  class_sum c n j = summed (in_class labels c) (λ i. feature features i j) n

  abbrev pub sum_table : ℕ → Matrix
  sum_table n = tabulated (λ c. tabulated (class_sum c n) 0 20) 0 2

  next : (c n j : ℕ) → class_sum c (n + 1) j
      ≡ add_taken (in_class labels c) (λ i. feature features i j) n (class_sum c n j)
  unfolding summed
  next c n j = for_range_last (add_taken (in_class labels c) (λ i. feature features i j)) 0 n f64_zero zero-le

  -- one row more
  turn : (n : ℕ) → sum_row features labels n (sum_table n) ≡ sum_table (n + 1)
  unfolding added_row
  turn n = tabulated_set (λ c. tabulated (class_sum c n) 0 20) 2 own (added_row features n (row (sum_table n) own)) [] (class_small (get_or labels n (pos 0))) mine others
    where
      own : ℕ
      own = class_of (get_or labels n (pos 0))

      taken : (c j : ℕ) (b : Bool) → in_class labels c n ≡ b
          → class_sum c (n + 1) j ≡ cond b (add binary64 (class_sum c n j) (feature features n j)) (class_sum c n j)
      taken c j b e = next c n j ∙ ap (λ (b : Bool). cond b (add binary64 (class_sum c n j) (feature features n j)) (class_sum c n j)) e

      read : (j : ℕ) → j < 20 → get_or (row (sum_table n) own) j nan ≡ class_sum own n j
      read j h =
          ap (λ (l : List Float). get_or l j nan) (tabulated_at (λ c. tabulated (class_sum c n) 0 20) 2 own [] (class_small (get_or labels n (pos 0))))
          ∙ tabulated_at (class_sum own n) 20 j nan h

      mine : tabulated (class_sum own (n + 1)) 0 20 ≡ added_row features n (row (sum_table n) own)
      mine = tabulated_same 20 (λ j h. taken own j true (eq-eqb own own refl) ∙ ap (λ (s : Float). add binary64 s (feature features n j)) (sym (read j h)))

      others : (c : ℕ) → c < 2 → (c ≡ own → ⊥) → tabulated (class_sum c (n + 1)) 0 20 ≡ tabulated (class_sum c n) 0 20
      others c h p = tabulated_same 20 (λ j h. taken c j false (ne_eqb own c (λ e. p (sym e))))

  pub sums_are : (n : ℕ) → summed_rows features labels 0 n (replicate 2 (replicate 20 f64_zero)) ≡ sum_table n
  unfolding summed_rows summed steps tabulated
  sums_are zero = refl
  sums_are (suc n) =
      ap (λ (m : ℕ). for_range (sum_row features labels) 0 m (replicate 2 (replicate 20 f64_zero))) (sym (add-one n))
      ∙ for_range_last (sum_row features labels) 0 n (replicate 2 (replicate 20 f64_zero)) zero-le
      ∙ ap (sum_row features labels n) (sums_are n)
      ∙ turn n
      ∙ ap sum_table (add-one n)
