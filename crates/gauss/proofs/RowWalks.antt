-- The walk along a row that its first nonzero entry ends, inside the walk over the rows from the last up: a turn of
-- `reduce` and of `backfill`, for any f that is done at the entry found.
use mathlib.Core.Path.{◌≡◌, sym, ap, ◌∙◌, subst}
use Prim.Native.Nat.{ℕ, ◌+◌, ◌≤◌, ◌<◌}
use mathlib.Core.Bool.{Bool, true, false, not, cond}
use lib.Dec.{ltb}
use lib.Ieee.{eq}
use borrow.Author.Tests.{lt-ltb, le-ltb}
use Rattle.folds.specs.Walks.{find_in_range}
use Rattle.folds.proofs.Walks.{WalkDown, walk_down_step, Finding, finding_step, finding_found, finding_none}
use Rattle.floats.specs.Constants.{f64_zero}
use Rattle.gauss.specs.Elimination.{Matrix, entry, nonzero, at_first_nonzero}

-- row i was walked up to column j, and the table is as it was
pub record RowWalk (size i j : ℕ) (m₀ m : Matrix) : Type 0 where
  pub same : m ≡ m₀
  pub finding : Finding (nonzero m i) 0 j size

pub row_walk_step : {size i j : ℕ} {m₀ m : Matrix} → RowWalk size i j m₀ m → j < size → eq (entry m i j) f64_zero ≡ true
    → RowWalk size i (j + 1) m₀ m
row_walk_step w h e = record { same = w.same; finding = finding_step w.finding h (ap not e) }

module _ (f : ℕ → ℕ → Matrix → Matrix) {size i j : ℕ} {m₀ m : Matrix} (walked : RowWalk size i j m₀ m) where
  at_found : (b : Bool) → j ≡ find_in_range (nonzero m i) 0 size → ltb j size ≡ b
      → at_first_nonzero f size i m₀ ≡ cond b (f i j m) m
  at_found b e t =
      ap (at_first_nonzero f size i) (sym walked.same)
      ∙ ap (λ (x : ℕ). cond (ltb x size) (f i x m) m) (sym e)
      ∙ ap (λ (b : Bool). cond b (f i j m) m) t

  -- no entry of the row is nonzero
  pub none_found : {i' n : ℕ} {s : Matrix} → WalkDown (at_first_nonzero f size) i' n s m₀ → i' ≡ i + 1 → size ≤ j
      → WalkDown (at_first_nonzero f size) i n s m
  none_found {n = n} {s = s} w e h =
      subst (WalkDown (at_first_nonzero f size) i n s) (at_found false (finding_none walked.finding h) (le-ltb j size h)) (walk_down_step i w e)

  -- the entry at j is the first, and f is done
  pub found : {i' n : ℕ} {s t : Matrix} → WalkDown (at_first_nonzero f size) i' n s m₀ → i' ≡ i + 1 → j < size
      → eq (entry m i j) f64_zero ≡ false → t ≡ f i j m
      → WalkDown (at_first_nonzero f size) i n s t
  found {n = n} {s = s} w e h z d =
      subst (WalkDown (at_first_nonzero f size) i n s) (at_found true (finding_found walked.finding h (ap not z)) (lt-ltb j size h) ∙ sym d) (walk_down_step i w e)
