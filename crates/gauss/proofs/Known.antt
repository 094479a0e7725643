-- Document 01's known points on systems, and two pivot searches, computed from the definitions. A point of size 1 is
-- stated of every system with that entry, whatever stands past the size.
use mathlib.Core.Path.{◌≡◌, refl, ◌∙◌, subst}
use mathlib.Core.List.{[], ◌∷◌}
use Prim.Native.Nat.{ℕ, ◌<◌}
use native.Mathlib.Omega.{arith}
use lib.ListN.{get_or, replicate}
use lib.Ieee.{Float, nan, binary64, of_bits, neg, add, sub, mul, div, eq, le, lt, round}
use Rattle.folds.specs.Walks.{steps, for_range_down, first, every}
use Rattle.std.specs.Prelude.{Ok, Err}
use Rattle.columns.specs.declared.Refusal.TheVariants.{OutOfRange, Unsolved}
use Rattle.floats.specs.Constants.{f64_one, f64_zero}
use Rattle.gauss.specs.Elimination.{Vector, Matrix, entry, small, row_subtracted, diagonal_filled, left_solved, pivot_row, cleared_below, echeloned, row_divided, reduced, cleared_above, backfilled}
use Rattle.gauss.specs.Solutions.{joined, values, eliminated, attempt, epsilon, first_answer, solution}
use Rattle.gauss.proofs.Meaning.{unread}

-- 5.0
abbrev pub f64_five : Float
f64_five = of_bits binary64 4617315517961601024

only : (P : ℕ → Type 0) → P 0 → (i : ℕ) → i < 1 → P i
only P p i h = subst P (zero_is i h) p
  where
    zero_is : (i : ℕ) → i < 1 → 0 ≡ i
    zero_is i h = omega arith

-- a system of size 1 is its one entry and its right side
alone : (left : Matrix) (right : Vector) (x y : Float) → entry left 0 0 ≡ x → get_or right 0 nan ≡ y
    → solution left right 1 ≡ solution ((x ∷ []) ∷ []) (y ∷ []) 1
alone left right x y l r =
    unread left ((x ∷ []) ∷ []) right (y ∷ []) 1
    (λ (i j : ℕ) (h : i < 1) (g : j < 1).
    only (λ i. entry left i j ≡ entry ((x ∷ []) ∷ []) i j) (only (λ j. entry left 0 j ≡ entry ((x ∷ []) ∷ []) 0 j) l j g) i h)
    (only (λ i. get_or right i nan ≡ get_or (y ∷ []) i nan) r)

computed : (solution ((neg small ∷ []) ∷ []) (f64_five ∷ []) 1 ≡ Ok (f64_five ∷ replicate 19 f64_zero))
    × ((y : Float) → solution ((nan ∷ []) ∷ []) (y ∷ []) 1 ≡ Err Unsolved)
unfolding solution first_answer attempt joined values eliminated epsilon diagonal_filled left_solved echeloned pivot_row cleared_below reduced row_divided backfilled cleared_above row_subtracted steps for_range_down first every neg add sub mul div eq le lt round of_bits
computed = (refl, λ y. refl)

-- "system [−1E-8], right side 5: answer 5, since the entry becomes 0"
pub minus_small : (left : Matrix) (right : Vector) → entry left 0 0 ≡ neg small → get_or right 0 nan ≡ f64_five
    → solution left right 1 ≡ Ok (f64_five ∷ replicate 19 f64_zero)
minus_small left right l r = alone left right (neg small) f64_five l r ∙ computed.0

-- "system [NaN]: 7", whatever the right side
pub not_a_number : (left : Matrix) (right : Vector) → entry left 0 0 ≡ nan → solution left right 1 ≡ Err Unsolved
not_a_number left right l = alone left right nan (get_or right 0 nan) l refl ∙ computed.1 (get_or right 0 nan)

-- "Size 0 or 21: 3."
pub sizes_refused : (left : Matrix) (right : Vector)
    → (solution left right 0 ≡ Err OutOfRange) × (solution left right 21 ≡ Err OutOfRange)
unfolding solution
sizes_refused left right = (refl, refl)

-- ---- pivots: the largest signed entry, and the last among equals

pub signed : pivot_row 2 0 0 ((f64_one ∷ []) ∷ (neg f64_five ∷ []) ∷ []) ≡ 0
unfolding pivot_row steps le neg of_bits
signed = refl

pub last_of_equals : pivot_row 2 0 0 ((f64_one ∷ []) ∷ (f64_one ∷ []) ∷ []) ≡ 1
unfolding pivot_row steps le neg of_bits
last_of_equals = refl
