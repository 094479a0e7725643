-- What the questions' answers say: of the questions that were met, and of what the call answers and leaves.
use mathlib.Core.Path.{◌≡◌, refl, sym, ◌∙◌}
use mathlib.Core.Bool.{Bool, true, false}
use Prim.Native.Nat.{ℕ, ◌≤◌}
use native.Mathlib.Omega.{arith}
use borrow.Author.Tests.{eqb-true}
use lib.Dec.{leb, eqb, leb→le}
use Rattle.std.specs.Prelude.{Result, Ok, Err}
use Rattle.std.specs.Result.{IsErrAnd}
use Rattle.std.proofs.lemmas.Result.{err_from_is_err_and}
use Rattle.columns.specs.Refusals.{longest, Asked, if_not, answered, asked}
use Rattle.columns.specs.declared.Refusal.{Refusal}
use Rattle.columns.specs.declared.Refusal.TheVariants.{TooLong, WrongLength}

-- a refusal is no other answer
pub refused_not_accepted : {A : Type 0} {x : A} (r : Refusal) → Err r ≡ Ok x → ⊥
refused_not_accepted r e = let z : ◌≡◌ {A = ℕ} 0 1 = cc in omega arith

-- where all are met, so are the first and the rest
pub met : (b : Bool) (r : Refusal) (next : Asked) → if_not b r next ≡ Ok tt → (b ≡ true) × (next ≡ Ok tt)
met true r next e = (refl, e)
met false r next e = absurd (refused_not_accepted r e)

-- what a call answers and leaves, by what its questions say
pub if_accepted : {A : Type 0} {o : Asked} (accepted : A) (refused : Refusal → A) → o ≡ Ok tt
    → answered o accepted refused ≡ accepted
if_accepted accepted refused e = rw e

pub if_refused : {A : Type 0} {o : Asked} {r : Refusal} (accepted : A) (refused : Refusal → A) → o ≡ Err r
    → answered o accepted refused ≡ refused r
if_refused accepted refused e = rw e

-- where no refusal gives an answer, the questions were met, and it is that of the accepted call
pub was_accepted : {A B : Type 0} (answer : A → B) {b : B} (o : Asked) (accepted : A) (refused : Refusal → A)
    → ((r : Refusal) → answer (refused r) ≡ b → ⊥) → answer (answered o accepted refused) ≡ b
    → (o ≡ Ok tt) × (answer accepted ≡ b)
was_accepted answer (Ok tt) accepted refused other e = (refl, e)
was_accepted answer (Err r) accepted refused other e = absurd (other r e)

-- a list and a column that questions 1 and 2 let pass
pub asked_lengths : (rows column : ℕ) → asked rows column ≡ Ok tt → (column ≡ rows) × (rows ≤ longest)
asked_lengths rows column e =
    let short = met (leb rows longest) TooLong _ e in
    let even = met (eqb column rows) WrongLength _ short.1 in
    (eqb-true _ _ even.0, leb→le rows longest (rw short.0 tt))

-- what a call answers and leaves where `?` gives back a question's refusal: the refusal, and a blank column
pub refused_run : {A B C : Type 0} (run : Result A Refusal → B → C) (accepted : C) (before blank : B)
    {o answer asked : Asked} {r : Refusal} {result : Result A Refusal} {after : B}
    → asked ≡ o → answer ≡ asked → answer ≡ Err r → IsErrAnd result (λ s. s ≡ r)
    → after ≡ answered asked before (λ s. blank)
    → run result after ≡ answered o accepted (λ s. run (Err s) blank)
refused_run run accepted before blank {result = result} e k l w m =
    let p = err_from_is_err_and result w in
    rw (rw p.2 at p.1, m, e, sym e ∙ sym k ∙ l)

-- where all are met, the column stands as it was
pub kept : {A : Type 0} {o : Asked} {column : A} (before blank : A) → column ≡ answered o before (λ r. blank)
    → o ≡ Ok tt → column ≡ before
kept before blank e k = e ∙ if_accepted _ _ k
