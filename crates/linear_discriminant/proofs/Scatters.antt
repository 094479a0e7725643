-- The second pass: each entry of the two tables is the definition's sum, and the scatter of columns j and k, wherever
-- it was kept, is that of the definition, since products commute.
use mathlib.Core.Path.{◌≡◌, refl, ap, ◌∙◌}
use mathlib.Core.Logic.{◌⊎◌, inl, inr}
use mathlib.Core.List.{List, []}
use mathlib.Core.Bool.{Bool, true, false, cond}
use Prim.Native.Nat.{ℕ, ◌+◌, ◌*◌, ◌/◌, ◌≤◌, ◌<◌, zero-le}
use native.Mathlib.Omega.{arith}
use lib.Dec.{ltb}
use lib.IntN.{ℤ}
use lib.ListN.{get_or, replicate}
use lib.Ieee.{Float, nan, binary64, add, sub, mul}
use borrow.Author.Tests.{lt-ltb, le-ltb, ltb-true}
use Rattle.folds.specs.Walks.{steps, for_range}
use Rattle.folds.specs.Lists.{tabulated}
use Rattle.folds.proofs.Tests.{lt_or_ge}
use Rattle.floats.specs.Constants.{f64_zero}
use Rattle.floats.proofs.Products.{product_commutes}
use Rattle.gauss.specs.Elimination.{Vector, Matrix, row, entry}
use Rattle.linear_discriminant.specs.Rows.{feature}
use Rattle.linear_discriminant.specs.Fit.{in_class, add_taken, summed, centred_product}
use Rattle.linear_discriminant.specs.Inner.Passes.{centred_at, centred_row, add_kept_product, stored_width, stored_column, half_table, half_entry, stored_place, scatter_of}
use Rattle.folds.proofs.Walks.{for_range_same, for_range_join}
use Rattle.folds.proofs.Writing.{tabulated_same, tabulated_at}
use Rattle.linear_discriminant.proofs.Halves.{width_most, other_has, column_at}
use Rattle.linear_discriminant.proofs.Accumulated.{kept_added_lem}
use Rattle.linear_discriminant.proofs.KeptRows.{Adds}

-- ---- scatter is symmetric, bit for bit, since a product of floats commutes

pub scatter_sum_symmetric : (takes : ℕ → Bool) (features : List Float) (mu : ℕ → Float) (j k n : ℕ)
    → summed takes (centred_product features mu j k) n ≡ summed takes (centred_product features mu k j) n
unfolding summed
scatter_sum_symmetric takes features mu j k n =
    for_range_same 0 n f64_zero
    (λ i l u s. ap (λ (x : Float). cond (takes i) (add binary64 s x) s) (product_commutes binary64 (sub binary64 (feature features i j) (mu j)) (sub binary64 (feature features i k) (mu k))))

-- ---- the tables

module _ (features : List Float) (labels : List ℤ) (mean : List Float) (c : ℕ) where
  abbrev mu : ℕ → Float
  mu j = get_or mean j nan

  abbrev kept : ℕ → Vector
  kept i = centred_row features i mean

  -- before the first row
  pub empty : replicate 20 (replicate 12 f64_zero) ≡ half_table (half_entry features labels mean c 0)
  unfolding tabulated summed steps
  empty = refl

  -- the product of two columns of a kept row is the definition's
  kept_product : (j d : ℕ) → j < 20 → 2 * (j / 2) + d < 28 → (i : ℕ) (s : Float)
      → add_kept_product j (2 * (j / 2) + d) (kept i) s
      ≡ add binary64 s (centred_product features mu j (stored_column j d) i)
  unfolding centred_row
  kept_product j d h l i s =
      let z : j < 28 = omega arith in
      ap (λ (x : Float). add binary64 s (mul binary64 x (get_or (kept i) (2 * (j / 2) + d) nan))) (tabulated_at (centred_at features mean i) 28 j nan z ∙ low)
      ∙ ap (λ (y : Float). add binary64 s (mul binary64 (sub binary64 (feature features i j) (mu j)) y)) (tabulated_at (centred_at features mean i) 28 (2 * (j / 2) + d) nan l)
    where
      low : centred_at features mean i j ≡ sub binary64 (feature features i j) (mu j)
      low = rw (lt-ltb j 20 h)

  -- place d of row j lies in a kept row
  in_kept_row : (j d : ℕ) → j < 20 → d < stored_width j → 2 * (j / 2) + d < 28
  in_kept_row j d h l = go (ltb j 10) refl l
    where
      go : (b : Bool) → ltb j 10 ≡ b → d < cond b 12 10 → 2 * (j / 2) + d < 28
      go true e g =
          let z = ltb-true j 10 e in
          omega arith
      go false e g = omega arith

  pub adds : Adds (in_class labels c) kept (λ n. half_table (half_entry features labels mean c n))
  unfolding summed
  adds rows m a b h same =
      kept_added_lem rows m (half_entry features labels mean c a)
      ∙ tabulated_same 20 (λ j l. tabulated_same 12 (λ d u. at j d l (ltb d (stored_width j)) refl))
    where
      sums : ℕ → ℕ → ℕ → Float
      sums j d n = summed (in_class labels c) (centred_product features mu j (stored_column j d)) n

      run : (j d : ℕ) → j < 20 → d < stored_width j
          → for_range (λ g. add_kept_product j (2 * (j / 2) + d) (row rows g)) 0 m (sums j d a) ≡ sums j d b
      run j d l u =
          same (add_kept_product j (2 * (j / 2) + d)) (sums j d a)
          ∙ for_range_same a b (sums j d a) (λ i p q s. ap (λ (x : Float). cond (in_class labels c i) x s) (kept_product j d l (in_kept_row j d l u) i s))
          ∙ for_range_join (add_taken (in_class labels c) (centred_product features mu j (stored_column j d))) 0 a b f64_zero zero-le h

      at : (j d : ℕ) → j < 20 → (t : Bool) → ltb d (stored_width j) ≡ t
          → cond t (for_range (λ g. add_kept_product j (2 * (j / 2) + d) (row rows g)) 0 m
          (cond t (sums j d a) f64_zero))
          (cond t (sums j d a) f64_zero)
          ≡ cond t (sums j d b) f64_zero
      at j d l true e = run j d l (ltb-true d (stored_width j) e)
      at j d l false e = refl

  -- the sum of columns j and k, wherever it is
  pub scatter_is : (n j k : ℕ) → j < 20 → k < 20
      → scatter_of (half_table (half_entry features labels mean c n)) j k
      ≡ summed (in_class labels c) (centred_product features mu j k) n
  unfolding scatter_of
  scatter_is n j k h l = go (lt_or_ge (stored_place j k) (stored_width j))
    where
      table : Matrix
      table = half_table (half_entry features labels mean c n)

      read : (j k : ℕ) → j < 20 → k < 20 → stored_place j k < stored_width j
          → entry table j (stored_place j k) ≡ summed (in_class labels c) (centred_product features mu j k) n
      read j k h l p =
          let m = width_most j in
          let z : stored_place j k < 12 = omega arith in
          ap (λ (r : Vector). get_or r (stored_place j k) nan) (tabulated_at (λ j. tabulated (half_entry features labels mean c n j) 0 12) 20 j [] h)
          ∙ tabulated_at (half_entry features labels mean c n j) 12 (stored_place j k) nan z
          ∙ rw (lt-ltb (stored_place j k) (stored_width j) p)
          (ap (λ (q : ℕ). summed (in_class labels c) (centred_product features mu j q) n) (column_at j k h l p))

      pick : (b : Bool) → ltb (stored_place j k) (stored_width j) ≡ b
          → cond (ltb (stored_place j k) (stored_width j)) (entry table j (stored_place j k))
          (entry table k (stored_place k j))
          ≡ cond b (entry table j (stored_place j k)) (entry table k (stored_place k j))
      pick b e = ap (λ (b : Bool). cond b (entry table j (stored_place j k)) (entry table k (stored_place k j))) e

      go : (stored_place j k < stored_width j) ⊎ (stored_width j ≤ stored_place j k)
          → cond (ltb (stored_place j k) (stored_width j)) (entry table j (stored_place j k))
          (entry table k (stored_place k j)) ≡ summed (in_class labels c) (centred_product features mu j k) n
      go (inl p) = pick true (lt-ltb (stored_place j k) (stored_width j) p) ∙ read j k h l p
      go (inr p) =
          pick false (le-ltb (stored_place j k) (stored_width j) p)
          ∙ read k j l h (other_has j k h l p)
          ∙ scatter_sum_symmetric (in_class labels c) features mu k j n
