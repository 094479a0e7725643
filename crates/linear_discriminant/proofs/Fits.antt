-- The passes joined: what `fit` makes of the counts is the definition's system.
use mathlib.Core.Path.{◌≡◌, ap, ◌∙◌}
use mathlib.Core.List.{List, [], ◌∷◌}
use mathlib.Core.Bool.{cond}
use Prim.Native.Nat.{ℕ, ◌<◌}
use native.Mathlib.Omega.{arith}
use lib.IntN.{ℤ}
use lib.ListN.{length, get_or}
use lib.Ieee.{Float, nan, binary64, add, sub, mul}
use Rattle.folds.specs.Lists.{tabulated}
use Rattle.columns.specs.declared.Refusal.{Refusal}
use Rattle.counting.specs.Labels.{decoys, targets}
use Rattle.floats.specs.Constants.{f64_zero}
use Rattle.gauss.specs.Elimination.{Vector, Matrix, row, entry}
use Rattle.gauss.specs.Solutions.{solution}
use Rattle.std.specs.Prelude.{Result}
use Rattle.linear_discriminant.specs.Rows.{feature}
use Rattle.linear_discriminant.specs.Fit.{in_class, class_count, f64_of_count, summed, mean, scatter, scatter_within, mean_difference, left_side, right_side}
use Rattle.linear_discriminant.specs.Inner.Passes.{class_sums, mean_of, half_table, half_entry, half_tables, scatter_of, within_row, within_table, row_difference}
use Rattle.folds.proofs.Walks.{for_range_same}
use Rattle.folds.proofs.Writing.{tabulated_same, tabulated_at}
use Rattle.linear_discriminant.proofs.Sums.{class_sum, sum_table, sums_are}
use Rattle.linear_discriminant.proofs.Scatters.{scatter_is}

module _ (features : List Float) (labels : List ℤ) where
  -- ---- the means

  abbrev mean_row : ℕ → Vector
  mean_row c = tabulated (mean features labels c) 0 20

  mean_row_lem : (c n : ℕ) → c < 2 → n ≡ class_count labels c → {sums : Matrix} {v : Vector}
      → sums ≡ class_sums features labels → v ≡ mean_of (row sums c) n
      → v ≡ mean_row c
  unfolding mean_of mean
  mean_row_lem c n h e s m =
      m ∙ ap (λ (t : Matrix). mean_of (row t c) n) (s ∙ sums_are features labels (length labels))
      ∙ tabulated_same 20 (λ j l. rw (read j l, e))
    where
      read : (j : ℕ) → j < 20
          → entry (sum_table features labels (length labels)) c j ≡ class_sum features labels c (length labels) j
      read j l =
          ap (λ (r : Vector). get_or r j nan) (tabulated_at (λ c. tabulated (class_sum features labels c (length labels)) 0 20) 2 c [] h)
          ∙ tabulated_at (class_sum features labels c (length labels)) 20 j nan l

  -- ---- the system

  scatter_at : (c j k : ℕ) → j < 20 → k < 20
      → scatter_of (half_table (half_entry features labels (mean_row c) c (length labels))) j k
      ≡ scatter features labels c j k
  unfolding scatter summed
  scatter_at c j k h l =
      scatter_is features labels (mean_row c) c (length labels) j k h l
      ∙ for_range_same 0 (length labels) f64_zero
      (λ i p q s. ap (λ (x : Float). cond (in_class labels c i) (add binary64 s x) s) (same i (tabulated_at (mean features labels c) 20 j nan h) (tabulated_at (mean features labels c) 20 k nan l)))
    where
      same : (i : ℕ) {a a' b b' : Float} → a ≡ a' → b ≡ b'
          → mul binary64 (sub binary64 (feature features i j) a) (sub binary64 (feature features i k) b)
          ≡ mul binary64 (sub binary64 (feature features i j) a') (sub binary64 (feature features i k) b')
      same i e f = rw (e, f)

  left_is : {d t : ℕ} → d ≡ decoys labels → t ≡ targets labels
      → within_table (half_table (half_entry features labels (mean_row 0) 0 (length labels)))
      (half_table (half_entry features labels (mean_row 1) 1 (length labels))) (f64_of_count d) (f64_of_count t)
      ≡ left_side features labels
  unfolding within_table within_row left_side scatter_within
  left_is {d} {t} e f =
      tabulated_same 20 (λ j h. tabulated_same 20 (λ k l. rw (scatter_at 0 j k h l, scatter_at 1 j k h l, e, f)))

  right_is : row_difference (mean_row 1) (mean_row 0) ≡ right_side features labels
  unfolding row_difference right_side mean_difference
  right_is = tabulated_same 20 (λ j h. rw (tabulated_at (mean features labels 1) 20 j nan h, tabulated_at (mean features labels 0) 20 j nan h))

  -- ---- the calls of `fit` one after the other

  pub fitted : {d t : ℕ} {sums left : Matrix} {decoy target right : Vector} {tables : List Matrix}
      {s : Result Vector Refusal}
      → d ≡ decoys labels
      → t ≡ targets labels → sums ≡ class_sums features labels → decoy ≡ mean_of (row sums 0) d
      → target ≡ mean_of (row sums 1) t
      → tables ≡ half_tables features labels (decoy ∷ target ∷ [])
      → left ≡ within_table (get_or tables 0 []) (get_or tables 1 []) (f64_of_count d) (f64_of_count t)
      → right ≡ row_difference target decoy → s ≡ solution left right 20
      → s ≡ solution (left_side features labels) (right_side features labels) 20
  unfolding half_tables tabulated
  fitted {d} {t} {right = right} e f a m n b l g h =
      let x = mean_row_lem 0 d (omega arith) e a m in
      let y = mean_row_lem 1 t (omega arith) f a n in
      h ∙ ap (λ (l : Matrix). solution l right 20) (l ∙ rw (b, x, y) (left_is e f))
      ∙ ap (λ (v : Vector). solution (left_side features labels) v 20) (g ∙ rw (x, y) right_is)
