-- The right line. The last row that qualifies is right, and no other line is: a line before it has a later row that
-- qualifies, and a line after it is neither 0 nor a row that qualifies.
use mathlib.Core.Path.{◌≡◌, refl, sym, ◌∙◌}
use mathlib.Core.Logic.{◌⊎◌, inl, inr}
use mathlib.Core.List.{List, map}
use mathlib.Core.Bool.{Bool, true, false, cond, false≢true}
use Prim.Native.Nat.{ℕ, zero, suc, ◌+◌, ◌≤◌, ◌<◌, zero-le}
use native.Mathlib.Nat.{le_refl}
use native.Mathlib.Numerals.{add-one}
use native.Mathlib.Omega.{arith}
use lib.IntN.{ℤ}
use lib.ListN.{length}
use Rattle.folds.proofs.Tests.{lt_or_ge}
use Rattle.counting.specs.Labels.{is_decoy}
use Rattle.counting.specs.Lines.{qualifies, RightLine, last_row_of, right_line}
use Rattle.counting.proofs.Labels.{same_decoys, same_targets, same_length}

-- ---- the last of the rows 1 to n that meets p

module _ (p : ℕ → Bool) where
  pub last_next : (n : ℕ) → last_row_of p (n + 1) ≡ cond (p (n + 1)) (n + 1) (last_row_of p n)
  unfolding last_row_of
  last_next n = rw add-one

  pub last_in_list : (n : ℕ) → last_row_of p n ≤ n
  unfolding last_row_of
  last_in_list zero = zero-le
  last_in_list (suc n) = go (p (suc n)) (last_in_list n)
    where
      go : (b : Bool) {e : ℕ} → e ≤ n → cond b (suc n) e ≤ suc n
      go true h = le_refl (suc n)
      go false h = omega arith

  pub last_own : (n : ℕ) → (last_row_of p n ≡ 0) ⊎ (p (last_row_of p n) ≡ true)
  unfolding last_row_of
  last_own zero = inl refl
  last_own (suc n) = go (p (suc n)) refl (last_own n)
    where
      go : (b : Bool) → p (suc n) ≡ b → (last_row_of p n ≡ 0) ⊎ (p (last_row_of p n) ≡ true)
          → (cond b (suc n) (last_row_of p n) ≡ 0) ⊎ (p (cond b (suc n) (last_row_of p n)) ≡ true)
      go true e h = inr e
      go false e h = h

  pub last_later : (n row : ℕ) → last_row_of p n < row → row ≤ n → p row ≡ false
  unfolding last_row_of
  last_later zero row h k = absurd (no h k)
    where
      no : 0 < row → row ≤ 0 → ⊥
      no h k = omega arith
  last_later (suc n) row h k = go (p (suc n)) refl h (λ (g : last_row_of p n < row) (l : row ≤ n). last_later n row g l) (lt_or_ge row (suc n))
    where
      over : suc n < row → ⊥
      over g = omega arith

      top : suc n ≤ row → suc n ≡ row
      top g = omega arith

      go : (b : Bool) → p (suc n) ≡ b → cond b (suc n) (last_row_of p n) < row
          → (last_row_of p n < row → row ≤ n → p row ≡ false)
          → (row < suc n) ⊎ (suc n ≤ row) → p row ≡ false
      go true e h before s = absurd (over h)
      go false e h before (inl g) = before h (omega arith)
      go false e h before (inr g) = rw (← (top g)) e

  pub last_upper : (n row : ℕ) → p row ≡ true → row ≤ n → row ≤ last_row_of p n
  last_upper n row e h = elim (lt_or_ge (last_row_of p n) row) [ inl k ↦ absurd (false≢true (sym (last_later n row k h) ∙ e)) | inr k ↦ k ]

-- ---- demand 3

module _ (rate : ℕ) (labels : List ℤ) where
  pub right_line_lem : RightLine rate labels (right_line rate labels)
  right_line_lem = record {
    none_later = last_later (qualifies rate labels) (length labels);
    own = last_own (qualifies rate labels) (length labels);
  }

  -- of two right lines neither comes first
  not_first : (line other : ℕ) → RightLine rate labels line → RightLine rate labels other → other ≤ length labels
      → line < other → ⊥
  not_first line other r s h k = elim s.own [
    | inl e ↦ omega arith
    | inr e ↦ false≢true (sym (r.none_later other k h) ∙ e)
  ]

  pub right_line_only : (line : ℕ) → RightLine rate labels line → line ≤ length labels → line ≡ right_line rate labels
  right_line_only line r h =
      let right = right_line rate labels in
      let a = not_first line right r right_line_lem (last_in_list (qualifies rate labels) (length labels)) in
      let b = not_first right line right_line_lem r h in
      elim (lt_or_ge line right) [
        | inl k ↦ absurd (a k)
        | inr k ↦ elim (lt_or_ge right line) [ inl l ↦ absurd (b l) | inr l ↦ omega arith ]
      ]

-- targets may have any other target numbers
pub same_line : (rate : ℕ) (ls ls' : List ℤ) → map is_decoy ls ≡ map is_decoy ls'
    → right_line rate ls ≡ right_line rate ls'
unfolding last_row_of
same_line rate ls ls' e = rw (same_length ls ls' e) (go (length ls'))
  where
    go : (n : ℕ) → last_row_of (qualifies rate ls) n ≡ last_row_of (qualifies rate ls') n
    go zero = refl
    go (suc n) = rw (same_decoys ls ls' e (suc n), same_targets ls ls' e (suc n), go n)
