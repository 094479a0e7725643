-- What a column of `echelon` makes of a table, skipped or cleared; and the part of a table that a system has.
use mathlib.Core.Path.{◌≡◌, sym, ap, ◌∙◌}
use mathlib.Core.Bool.{Bool, true, false, cond}
use mathlib.Core.List.{[]}
use Prim.Native.Nat.{ℕ, ◌+◌, ◌<◌}
use lib.ListN.{get_or, take}
use lib.Seq.{get_or-take}
use lib.Ieee.{eq, nan}
use Rattle.floats.specs.Constants.{f64_zero}
use Rattle.gauss.specs.Elimination.{Vector, Matrix, row, entry, swapped, pivot_row, cleared_below, echelon_column}

-- column k, with the pivot in row i
module _ (size k h : ℕ) (m : Matrix) {i : ℕ} (pivot : i ≡ pivot_row size h k m) where
  abbrev turn : ℕ → Bool → ℕ × Matrix
  turn i skip = cond skip (h, m) (h + 1, cleared_below size h k (swapped h i m))

  column_is : (skip : Bool) → eq (entry m i k) f64_zero ≡ skip → turn i skip ≡ echelon_column size k (h, m)
  column_is skip e = sym (ap (λ (x : ℕ). turn x (eq (entry m x k) f64_zero)) (sym pivot) ∙ ap (turn i) e)

  pub skipped : eq (entry m i k) f64_zero ≡ true → (h, m) ≡ echelon_column size k (h, m)
  skipped = column_is true

  pub pivoted : {m₁ m₂ : Matrix} → eq (entry m i k) f64_zero ≡ false → m₁ ≡ swapped h i m
      → m₂ ≡ cleared_below size h k m₁
      → (h + 1, m₂) ≡ echelon_column size k (h, m)
  pivoted e s c = ap (λ (t : Matrix). (h + 1, t)) (c ∙ ap (cleared_below size h k) s) ∙ column_is false e

-- an entry, read in the part of a table that a system has
pub in_rows : (m : Matrix) (n i j : ℕ) → i < n → get_or (row (take n m) i) j nan ≡ entry m i j
in_rows m n i j h = ap (λ (r : Vector). get_or r j nan) (get_or-take n m i [] h)

pub in_part : (m : Matrix) (n i j : ℕ) → i < n → j < n → get_or (take n (row (take n m) i)) j nan ≡ entry m i j
in_part m n i j h l = get_or-take n (row (take n m) i) j nan l ∙ in_rows m n i j h
