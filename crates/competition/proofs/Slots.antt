-- Question 5, asked of one slot after the other.
use mathlib.Core.Path.{◌≡◌, sym, ap, ◌∙◌}
use mathlib.Core.List.{List}
use mathlib.Core.Bool.{Bool, ◌&&◌, and_assoc, and-true}
use Prim.Native.Nat.{ℕ, suc, ◌+◌, ◌≤◌, ◌<◌}
use native.Mathlib.Numerals.{add-one}
use native.Mathlib.Omega.{arith}
use lib.ListN.{length, drop, get_or}
use lib.Seq.{drop-cons, drop-length}
use Rattle.competition.specs.Batches.{allowed, all_allowed}

-- `all` is the answer for the first i slots: joined with the answer for the rest it is the whole list's
pub record Asking (count : ℕ) (slots : List ℕ) (all : Bool) (i : ℕ) : Type 0 where
  pub high : i ≤ length slots
  pub is : (all && all_allowed count (drop i slots)) ≡ all_allowed count slots

pub asking_step : {count : ℕ} {slots : List ℕ} {all x : Bool} {i : ℕ} → Asking count slots all i → i < length slots
    → x ≡ allowed count (get_or slots i 0)
    → Asking count slots (all && x) (i + 1)
unfolding all_allowed
asking_step {count} {slots} {all} {x} {i} w h e = record {
  high = omega arith;
  is = rw (add-one i, e) (and_assoc all (allowed count (get_or slots i 0)) (all_allowed count (drop (suc i) slots)))
      ∙ ap (λ (l : List ℕ). all && all_allowed count l) (sym (drop-cons slots i 0 h))
      ∙ w.is;
}

pub asking_done : {count : ℕ} {slots : List ℕ} {all : Bool} {i : ℕ} → Asking count slots all i → length slots ≤ i
    → all ≡ all_allowed count slots
unfolding all_allowed
asking_done {count} {slots} {all} {i} w h =
    let high = w.high in
    let e : length slots ≡ i = omega arith in
    sym (and-true all)
    ∙ ap (λ (l : List ℕ). all && all_allowed count l) (sym (drop-length slots) ∙ ap (λ (n : ℕ). drop n slots) e)
    ∙ w.is
