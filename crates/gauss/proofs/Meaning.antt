-- What a user would ask of the definitions: an answer has 0 past the size and a refusal is blank, what stands past the
-- size changes nothing, and when row 0 is picked for the pivot.
use mathlib.Core.Path.{◌≡◌, refl, sym, ap, ◌∙◌}
use mathlib.Core.Bool.{Bool, true, false, cond}
use Prim.Native.Nat.{ℕ, ◌≤◌, ◌<◌, zero-le}
use lib.Dec.{ltb}
use lib.ListN.{get_or, replicate, get_or-replicate}
use lib.Ieee.{nan, le}
use Rattle.std.specs.Prelude.{Result, Ok, Err}
use Rattle.columns.specs.declared.Refusal.{Refusal}
use Rattle.columns.specs.declared.Refusal.TheVariants.{Unsolved}
use Rattle.columns.specs.Refusals.{Asked, answered}
use Rattle.columns.proofs.Questions.{refused_not_accepted}
use Rattle.folds.specs.Walks.{for_range, find_in_range}
use Rattle.folds.proofs.Walks.{for_range_same}
use Rattle.folds.proofs.Stores.{stored_past, for_range_unchanged}
use Rattle.gauss.specs.declared.Pivot.{Pivot}
use Rattle.floats.specs.Constants.{f64_min, f64_zero}
use Rattle.gauss.specs.Elimination.{Vector, Matrix, entry, set_entry, left_solved, larger, pivot_row}
use Rattle.gauss.specs.Solutions.{solved_values, join_row, joined, values, eliminated, attempt, epsilon, tries, solves, first_answer, size_asked, solution}

-- ---- answers and refusals

pub record Sound (size : ℕ) (s : Result Vector Refusal) : Type 0 where
  -- "answer places past it hold 0"
  pub zeros : (v : Vector) → s ≡ Ok v → (i : ℕ) → size ≤ i → i < 20 → get_or v i nan ≡ f64_zero
  -- "Floats returned by value are then NaN", twenty of them
  pub blanks : (refusal : Refusal) → s ≡ Err refusal → solved_values s ≡ replicate 20 nan

one_of : (P : Result Vector Refusal → Type 0) (b : Bool) {s t : Result Vector Refusal} → P s → P t → P (cond b s t)
one_of P true p q = p
one_of P false p q = q

refusal_sound : (size : ℕ) (refusal : Refusal) → Sound size (Err refusal)
refusal_sound size refusal = record { zeros = λ v e. absurd (refused_not_accepted refusal e); blanks = λ r e. refl }

attempt_sound : (size n : ℕ) (m : Matrix) → Sound size (attempt size (epsilon n) m)
unfolding attempt values
attempt_sound size n m = one_of (Sound size) (left_solved size done) solved (refusal_sound size Unsolved)
  where
    done : Matrix
    done = eliminated size (epsilon n) m

    zero_past : (i : ℕ) → size ≤ i → i < 20 → get_or (values size done) i nan ≡ f64_zero
    zero_past i h l = stored_past (λ j. entry done j 20) nan i 0 size (replicate 20 f64_zero) zero-le h ∙ get_or-replicate 20 i f64_zero nan l

    solved : Sound size (Ok (values size done))
    solved =
        record {
          zeros = λ v e i h l. (let f : v ≡ values size done = cc in ap (λ (v : Vector). get_or v i nan) f ∙ zero_past i h l);
          blanks = λ r e. absurd (refused_not_accepted r (sym e));
        }

-- what every answer of a system is
pub sound : (left : Matrix) (right : Vector) (size : ℕ) → Sound size (solution left right size)
unfolding solution first_answer
sound left right size = go (size_asked size)
  where
    n : ℕ
    n = find_in_range (solves size (joined left right size)) 0 tries

    go : (o : Asked) → Sound size (answered o (first_answer size (joined left right size)) Err)
    go (Ok u) = one_of (Sound size) (ltb n tries) (attempt_sound size n (joined left right size)) (refusal_sound size Unsolved)
    go (Err refusal) = refusal_sound size refusal

-- ---- "Entries past the size are not read"

pub unread : (left left' : Matrix) (right right' : Vector) (size : ℕ)
    → ((i j : ℕ) → i < size → j < size → entry left i j ≡ entry left' i j)
    → ((i : ℕ) → i < size → get_or right i nan ≡ get_or right' i nan)
    → solution left right size ≡ solution left' right' size
unfolding solution joined
unread left left' right right' size l r = ap (λ (m : Matrix). answered (size_asked size) (first_answer size m) Err) same
  where
    turn : (i : ℕ) → i < size → (m : Matrix) → join_row left right size i m ≡ join_row left' right' size i m
    turn i h m =
        ap (λ (x : Matrix). set_entry i 20 (get_or right i nan) x)
        (for_range_same 0 size m (λ j a g t. ap (λ x. set_entry i j x t) (l i j h g)))
        ∙ ap (λ x. set_entry i 20 x (for_range (λ j. set_entry i j (entry left' i j)) 0 size m)) (r i h)

    same : joined left right size ≡ joined left' right' size
    same = for_range_same 0 size (replicate 20 (replicate 21 f64_zero)) (λ i a u m. turn i u m)

-- ---- "If nothing in the column from row h down is ≥ f64::MIN (only NaN or −infinity), row 0 is picked."

pub row_zero : (size h k : ℕ) (m : Matrix) → ((i : ℕ) → h ≤ i → i < size → le f64_min (entry m i k) ≡ false)
    → pivot_row size h k m ≡ 0
unfolding pivot_row
row_zero size h k m none = ap (λ (p : Pivot). p.row) (for_range_unchanged (larger m k) (record { row = 0; value = f64_min }) h size (λ i l g. rw (none i l g)))
