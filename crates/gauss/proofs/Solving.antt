-- The tries of `solve`: the loop's invariant, with the number of the try that the code does not have, and what
-- each way out of the loop returns.
use mathlib.Core.Path.{◌≡◌, refl, sym, ap, ◌∙◌}
use mathlib.Core.Bool.{Bool, true, false, cond, ◌&&◌}
use Prim.Native.Nat.{ℕ, ◌+◌, ◌≤◌, ◌<◌}
use native.Mathlib.Numerals.{add-one}
use native.Mathlib.Omega.{arith}
use lib.Dec.{ltb, leb, leb→le}
use lib.Ieee.{Float, binary64, le, mul}
use borrow.Author.Tests.{lt-ltb, le-ltb, le-leb}
use Rattle.std.specs.Prelude.{Result, Ok, Err, is_ok}
use Rattle.columns.specs.declared.Refusal.{Refusal}
use Rattle.columns.specs.declared.Refusal.TheVariants.{OutOfRange, Unsolved}
use Rattle.columns.proofs.Questions.{if_refused}
use Rattle.columns.specs.Refusals.{if_not}
use Rattle.folds.specs.Walks.{find_in_range}
use Rattle.folds.proofs.Walks.{Finding, finding_start, finding_step, finding_found, finding_none}
use Rattle.floats.specs.Constants.{f64_one}
use Rattle.gauss.specs.Elimination.{Vector, Matrix, small, diagonal_filled, echeloned, reduced, backfilled, left_solved}
use Rattle.gauss.specs.Solutions.{joined, values, eliminated, attempt, ten, epsilon, tries, solves, first_answer, solution}
use Rattle.gauss.proofs.Epsilons.{tried, untried, tries_left, falls}

-- ---- solve_inner: the stages, and the two returns

module _ (size : ℕ) (eps : Float) (m : Matrix) where
  pub stages : {m₂ m₃ m₄ : Matrix} → m₂ ≡ echeloned size (diagonal_filled size eps m) → m₃ ≡ reduced size m₂
      → m₄ ≡ backfilled size m₃
      → m₄ ≡ eliminated size eps m
  unfolding eliminated
  stages e r b = b ∙ ap (backfilled size) (r ∙ ap (reduced size) e)

  attempt_is : (b : Bool) → left_solved size (eliminated size eps m) ≡ b
      → attempt size eps m ≡ cond b (Ok (values size (eliminated size eps m))) (Err Unsolved)
  unfolding attempt
  attempt_is b e = ap (λ (b : Bool). cond b (Ok (values size (eliminated size eps m))) (Err Unsolved)) e

  pub attempt_answers : {t : Matrix} {b : Bool} {v : Vector} → t ≡ eliminated size eps m → b ≡ left_solved size t
      → b ≡ true → v ≡ values size t
      → Ok v ≡ attempt size eps m
  attempt_answers d s e v =
      ap Ok (v ∙ ap (values size) d) ∙ sym (attempt_is true (ap (left_solved size) (sym d) ∙ sym s ∙ e))

  pub attempt_refuses : {t : Matrix} {b : Bool} {r : Result Vector Refusal} → t ≡ eliminated size eps m
      → b ≡ left_solved size t → b ≡ false → r ≡ Err Unsolved
      → r ≡ attempt size eps m
  attempt_refuses d s e r = r ∙ sym (attempt_is false (ap (left_solved size) (sym d) ∙ sym s ∙ e))

  -- the answer of a try says whether it solved the system
  solved_is : {r : Result Vector Refusal} → r ≡ attempt size eps m → left_solved size (eliminated size eps m) ≡ is_ok r
  unfolding attempt
  solved_is e = go (left_solved size (eliminated size eps m)) ∙ ap is_ok (sym e)
    where
      go : (b : Bool)
          → b ≡ is_ok (cond b (Ok (values size (eliminated size eps m))) (Err Unsolved))
      go true = refl
      go false = refl

-- ---- solve's loop

-- eps is that of try n, and no try before n solves the system
pub record Trying (size : ℕ) (m : Matrix) (eps : Float) : Type 0 where
  pub n : ℕ
  pub is : eps ≡ epsilon n
  pub finding : Finding (solves size m) 0 n tries

pub trying_start : {size : ℕ} {m : Matrix} → Trying size m small
unfolding epsilon
trying_start = record { n = 0; is = refl; finding = finding_start (omega arith) }

module _ {size : ℕ} {m : Matrix} {eps : Float} (w : Trying size m eps) where
  -- this try's answer, said of its number
  solves_is : {r : Result Vector Refusal} → r ≡ attempt size eps m → solves size m w.n ≡ is_ok r
  solves_is e = ap (λ (x : Float). left_solved size (eliminated size x m)) (sym w.is) ∙ solved_is size eps m e

  now_tried : le eps f64_one ≡ true → w.n < tries
  now_tried t = tried w.n w.is w.finding.high t

  pub trying_step : {r : Result Vector Refusal} → le eps f64_one ≡ true → r ≡ attempt size eps m → is_ok r ≡ false
      → Trying size m (mul binary64 eps ten)
  unfolding epsilon
  trying_step t e a =
      record {
        n = w.n + 1;
        is = ap (λ (x : Float). mul binary64 x ten) w.is ∙ ap epsilon (sym (add-one w.n));
        finding = finding_step w.finding (now_tried t) (solves_is e ∙ a);
      }

  pub trying_less : le eps f64_one ≡ true → tries_left (mul binary64 eps ten) < tries_left eps
  trying_less t = falls w.n w.is (now_tried t)

  first_is : w.n ≡ find_in_range (solves size m) 0 tries → (b : Bool) → ltb w.n tries ≡ b
      → first_answer size m ≡ cond b (attempt size eps m) (Err Unsolved)
  unfolding first_answer
  first_is f b t =
      ap (λ (k : ℕ). cond (ltb k tries) (attempt size (epsilon k) m) (Err Unsolved)) (sym f)
      ∙ ap (λ (x : Float). cond (ltb w.n tries) (attempt size x m) (Err Unsolved)) (sym w.is)
      ∙ ap (λ (b : Bool). cond b (attempt size eps m) (Err Unsolved)) t

  pub trying_found : {r : Result Vector Refusal} → le eps f64_one ≡ true → r ≡ attempt size eps m → is_ok r ≡ true
      → r ≡ first_answer size m
  trying_found t e a =
      let h = now_tried t in
      e ∙ sym (first_is (finding_found w.finding h (solves_is e ∙ a)) true (lt-ltb w.n tries h))

  pub trying_none : {r : Result Vector Refusal} → le eps f64_one ≡ false → r ≡ Err Unsolved → r ≡ first_answer size m
  trying_none t e =
      let h = untried w.n w.is t in
      e ∙ sym (first_is (finding_none w.finding h) false (le-ltb w.n tries h))

-- ---- the question on the size

module _ (left : Matrix) (right : Vector) (size : ℕ) where
  pub in_range_lem : {r : Result Vector Refusal} → (1 ≤ size) × (size ≤ 20)
      → r ≡ first_answer size (joined left right size)
      → r ≡ solution left right size
  unfolding solution
  in_range_lem q e = e ∙ rw (le-leb 1 size q.0, le-leb size 20 q.1)

  pub out_of_range : ((1 ≤ size) × (size ≤ 20) → ⊥) → Err OutOfRange ≡ solution left right size
  unfolding solution
  out_of_range q = sym (if_refused _ Err (go (leb 1 size) (leb size 20) refl refl))
    where
      go : (a b : Bool) → leb 1 size ≡ a → leb size 20 ≡ b → if_not (a && b) OutOfRange (Ok tt) ≡ Err OutOfRange
      go true true e f = absurd (q (leb→le 1 size (rw e tt), leb→le size 20 (rw f tt)))
      go true false e f = refl
      go false b e f = refl
