-- Monotonic bins never rise with the bin number: each is the greatest of the bins from its own to the last, where a NaN
-- counts for nothing. So it is a NaN only where all of those are, at the end of the column.
use mathlib.Core.Path.{◌≡◌, refl, ◌∙◌}
use mathlib.Core.Logic.{◌⊎◌, inl, inr}
use mathlib.Core.List.{List, [], ◌∷◌}
use mathlib.Core.Bool.{not}
use Prim.Native.Nat.{ℕ, zero, suc, ◌+◌, ◌-◌, ◌≤◌, ◌<◌}
use native.Mathlib.Nat.{not-suc-le-zero, le_of_suc-le-suc}
use native.Mathlib.Omega.{arith}
use lib.Dec.{T}
use lib.ListN.{length, get_or, drop, length-drop}
use lib.Seq.{get_or-drop, drop-drop}
use lib.Ieee.{Float, nan, is_nan, le}
use Rattle.floats.specs.MinMax.{max_number}
use Rattle.floats.proofs.Order.{le_refl, le_trans, le_right, max_ge_left, max_ge_right, max_either}
use Rattle.kde.specs.Bins.{maximum_from, raised_from, raised}

module _ (start : Float) where
  raised_at : (bins : List Float) (i : ℕ) → i < length bins
      → get_or (raised_from start bins) i nan ≡ maximum_from start (drop i bins)
  unfolding raised_from
  raised_at [] i h = absurd (not-suc-le-zero h)
  raised_at (b ∷ bins) zero h = refl
  raised_at (b ∷ bins) (suc i) h = raised_at bins i (le_of_suc-le-suc h)

  -- at least the greatest from a later bin on, if that is a number
  maximum_falls : (bins : List Float) (k : ℕ) → T (not (is_nan (maximum_from start (drop k bins))))
      → T (le (maximum_from start (drop k bins)) (maximum_from start bins))
  unfolding maximum_from
  maximum_falls bins zero p = le_refl (maximum_from start bins) p
  maximum_falls [] (suc k) p = le_refl start p
  maximum_falls (b ∷ bins) (suc k) p =
      let m = maximum_from start bins in
      let l = maximum_falls bins k p in
      le_trans (maximum_from start (drop k bins)) m (max_number m b) l (max_ge_left m b (le_right (maximum_from start (drop k bins)) m l))

  -- at least every bin that is a number
  maximum_most : (bins : List Float) (k : ℕ) → k < length bins → T (not (is_nan (get_or bins k nan)))
      → T (le (get_or bins k nan) (maximum_from start bins))
  unfolding maximum_from
  maximum_most [] k h p = absurd (not-suc-le-zero h)
  maximum_most (b ∷ bins) zero h p = max_ge_right (maximum_from start bins) b p
  maximum_most (b ∷ bins) (suc k) h p =
      let m = maximum_from start bins in
      let l = maximum_most bins k (le_of_suc-le-suc h) p in
      le_trans (get_or bins k nan) m (max_number m b) l (max_ge_left m b (le_right (get_or bins k nan) m l))

  -- one of the bins, or the value that the walk starts from
  maximum_one : (bins : List Float)
      → (maximum_from start bins ≡ start)
      ⊎ ((k : ℕ) × (k < length bins) × (maximum_from start bins ≡ get_or bins k nan))
  unfolding maximum_from
  maximum_one [] = inl refl
  maximum_one (b ∷ bins) = elim (max_either (maximum_from start bins) b) [
    | inr e ↦ inr (0, omega arith, e)
    | inl e ↦ elim (maximum_one bins) [ inl g ↦ inl (e ∙ g) | inr g ↦ inr (suc g.0, omega arith, e ∙ g.2) ]
  ]

-- ---- every place

module _ (bins : List Float) (i : ℕ) (h : i < length bins) where
  abbrev start : Float
  start = get_or bins (length bins - 1) nan

  place_is : (j : ℕ) → j < length bins → get_or (raised bins) j nan ≡ maximum_from start (drop j bins)
  unfolding raised
  place_is j l = raised_at start bins j l

  -- the place j from i on
  past : (j : ℕ) → i ≤ j → i + (j - i) ≡ j
  past j k = omega arith

  -- "never rise with the bin number", of numbers: a NaN stands in no order
  pub never_rises : (j : ℕ) → i ≤ j → j < length bins → T (not (is_nan (get_or (raised bins) j nan)))
      → T (le (get_or (raised bins) j nan) (get_or (raised bins) i nan))
  never_rises j k l p =
      let later : drop (j - i) (drop i bins) ≡ drop j bins = drop-drop (j - i) i bins ∙ rw (past j k) in
      rw (place_is i h, place_is j l, ← later) (maximum_falls start (drop i bins) (j - i) (rw (place_is j l, ← later) at p))

  -- no less than any bin from there on that is a number; so no NaN if there is one
  pub at_least : (j : ℕ) → i ≤ j → j < length bins → T (not (is_nan (get_or bins j nan)))
      → T (le (get_or bins j nan) (get_or (raised bins) i nan))
  at_least j k l p =
      let bin : get_or (drop i bins) (j - i) nan ≡ get_or bins j nan = get_or-drop i bins (j - i) nan ∙ rw (past j k) in
      rw (place_is i h, ← bin) (maximum_most start (drop i bins) (j - i) (rw length-drop (omega arith)) (rw (← bin) at p))

  -- and one of the bins from there on; so a NaN if they all are
  pub one_of_them : (j : ℕ) × (i ≤ j) × (j < length bins) × (get_or (raised bins) i nan ≡ get_or bins j nan)
  one_of_them = elim (maximum_one start (drop i bins)) [
    | inl e ↦ (length bins - 1, omega arith, omega arith, place_is i h ∙ e)
    | inr e ↦ let l = rw length-drop at e.1 in (i + e.0, omega arith, omega arith, place_is i h ∙ e.2 ∙ get_or-drop i bins e.0 nan)
  ]
