-- The least of 1.0 and a list of floats, and the column of them: never a NaN, at most 1.0, at most a number below 1.0
-- exactly where one of the list is, and never falling down the column.
use mathlib.Core.Path.{◌≡◌, refl, sym, ap, ◌∙◌}
use mathlib.Core.Logic.{inl, inr}
use mathlib.Core.List.{List, [], ◌∷◌}
use mathlib.Core.Bool.{not}
use Prim.Native.Nat.{ℕ, zero, suc, ◌≤◌, ◌<◌, zero-le}
use native.Mathlib.Nat.{not-suc-le-zero, le_of_suc-le-suc, zero-lt-suc}
use native.Mathlib.Omega.{arith}
use lib.Dec.{T, leb, leb-zero, leb-suc-suc, leb-suc-zero}
use lib.ListN.{length, drop, get_or}
use lib.Ieee.{Float, nan, of_bits, is_nan, lt, le}
use Rattle.folds.proofs.Tests.{or_l, or_r, or_split}
use Rattle.floats.specs.MinMax.{min_number}
use Rattle.floats.proofs.Order.{le_left, le_refl, le_min, lt→not_le, min_either, min_le_left}
use Rattle.floats.specs.Constants.{f32_one}
use Rattle.counting.specs.QValues.{minimum, running_minimum, count_at_most}

-- ---- the least

pub minimum_number : (rs : List Float) → T (not (is_nan (minimum rs)))
unfolding minimum is_nan of_bits
minimum_number [] = tt
minimum_number (r ∷ rs) = le_left (min_number (minimum rs) r) (minimum rs) (min_le_left (minimum rs) r (minimum_number rs))

pub minimum_most : (rs : List Float) → T (le (minimum rs) f32_one)
unfolding minimum
minimum_most [] = le_refl f32_one (minimum_number [])
minimum_most (r ∷ rs) = rw le_min (or_l (le (minimum rs) f32_one) (le r f32_one) (minimum_most rs))

pub minimum_above : (c : Float) → T (lt c f32_one) → (rs : List Float)
    → ((j : ℕ) → j < length rs → T (lt c (get_or rs j nan))) → T (lt c (minimum rs))
unfolding minimum
minimum_above c h [] g = h
minimum_above c h (r ∷ rs) g =
    let tail = minimum_above c h rs (λ (j : ℕ) (l : j < length rs). g (suc j) (omega arith)) in
    elim (min_either (minimum rs) r) [ inl e ↦ rw e tail | inr e ↦ rw e (g 0 (zero-lt-suc (length rs))) ]

-- at most c where one of them is
pub minimum_of : (c : Float) (rs : List Float) (j : ℕ) → j < length rs → T (le (get_or rs j nan) c)
    → T (le (minimum rs) c)
unfolding minimum
minimum_of c [] j h t = absurd (not-suc-le-zero h)
minimum_of c (r ∷ rs) zero h t = rw le_min (or_r (le (minimum rs) c) (le r c) t)
minimum_of c (r ∷ rs) (suc j) h t = rw le_min (or_l (le (minimum rs) c) (le r c) (minimum_of c rs j (le_of_suc-le-suc h) t))

-- and, for a c below 1.0, only there
pub minimum_from : (c : Float) → T (lt c f32_one) → (rs : List Float) → T (le (minimum rs) c)
    → (j : ℕ) × (j < length rs) × T (le (get_or rs j nan) c)
unfolding minimum
minimum_from c h [] t = absurd (lt→not_le c f32_one h t)
minimum_from c h (r ∷ rs) t = elim (or_split (le (minimum rs) c) (le r c) (rw le_min at t)) [
  | inl u ↦ let w = minimum_from c h rs u in (suc w.0, omega (arith, w.1), w.2)
  | inr u ↦ (0, zero-lt-suc (length rs), u)
]

-- ---- the column

pub length_running_minimum : (rs : List Float) → length (running_minimum rs) ≡ length rs
unfolding running_minimum
length_running_minimum [] = refl
length_running_minimum (r ∷ rs) = ap suc (length_running_minimum rs)

pub running_minimum_at : (rs : List Float) (i : ℕ) (d : Float) → i < length rs
    → get_or (running_minimum rs) i d ≡ minimum (drop i rs)
unfolding running_minimum
running_minimum_at [] i d h = absurd (not-suc-le-zero h)
running_minimum_at (r ∷ rs) zero d h = refl
running_minimum_at (r ∷ rs) (suc i) d h = running_minimum_at rs i d (le_of_suc-le-suc h)

pub running_minimum_rise : (rs : List Float) (i : ℕ) → suc i < length rs
    → T (le (get_or (running_minimum rs) i nan) (get_or (running_minimum rs) (suc i) nan))
unfolding running_minimum minimum
running_minimum_rise [] i h = absurd (not-suc-le-zero h)
running_minimum_rise (r ∷ []) i h = absurd (not-suc-le-zero (le_of_suc-le-suc h))
running_minimum_rise (r ∷ s ∷ rs) zero h = min_le_left (minimum (s ∷ rs)) r (minimum_number (s ∷ rs))
running_minimum_rise (r ∷ s ∷ rs) (suc i) h = running_minimum_rise (s ∷ rs) i (le_of_suc-le-suc h)

-- ---- a column whose numbers up to a line are at most c, and no others, has that many at most c

pub count_up : (c : Float) (qs : List Float) (line : ℕ) → line ≤ length qs
    → ((i : ℕ) → i < length qs → le (get_or qs i nan) c ≡ leb (suc i) line) → count_at_most c qs ≡ line
unfolding count_at_most
count_up c [] line h g = omega arith
count_up c (q ∷ qs) zero h g =
    rw (g 0 (zero-lt-suc (length qs)))
    (count_up c qs zero zero-le (λ (i : ℕ) (l : i < length qs). g (suc i) (omega arith) ∙ leb-suc-zero (suc i) ∙ sym (leb-suc-zero i)))
count_up c (q ∷ qs) (suc line) h g =
    rw (g 0 (zero-lt-suc (length qs)), leb-suc-suc, leb-zero)
    (ap suc
    (count_up c qs line (le_of_suc-le-suc h) (λ (i : ℕ) (l : i < length qs). g (suc i) (omega arith) ∙ leb-suc-suc (suc i) line)))
