-- The numbers of refusals, and what calls answer and leave. Document 01, "Questions asked of each call, in this order";
-- "A refusal returns its number".
use Rattle.std.specs.Prelude.{ℕ, List, Float, Bool, leb, eqb, cond, Result, Ok, Err}
use Rattle.columns.specs.declared.Refusal.{Refusal}
use Rattle.columns.specs.declared.Refusal.TheVariants.{TooLong, WrongLength, OutOfRange, NoTolerance}
use Rattle.columns.specs.declared.Refusal.TheVariants.{NoSuchSlot, OneClass, Unsolved, NotFinite, PastTheEnd}

abbrev pub number_of : Refusal → ℕ
-- "Is every list at most 16,777,215 long? If not: 1."
number_of TooLong = 1
-- "Do all lent columns have the stated length …? If not: 2."
number_of WrongLength = 2
-- "Is the system's size 1 to 20, and the bin count 1 to 65,536? If not: 3."
number_of OutOfRange = 3
-- "Is the tolerance ppm or Da? If not: 4, asked before question 3"
number_of NoTolerance = 4
-- "Is each slot below the slot count, or the no-part mark? If not: 5."
number_of NoSuchSlot = 5
-- "For a fit: is there a decoy and a target? If not: 6."
number_of OneClass = 6
-- "Did some eps solve the system? If not: 7."
number_of Unsolved = 7
-- "For a scoring run: are all twenty coefficients finite? If not: 8."
number_of NotFinite = 8
-- "Is the line at most the list's length? If not: 9."
number_of PastTheEnd = 9

-- A call that accepts returns 0; "A refusal returns its number".
abbrev pub answer_number : {A : Type 0} → Result A Refusal → ℕ
answer_number (Ok x) = 0
answer_number (Err r) = number_of r

-- "A refusal returns its number and count 0"; a call that accepts returns its count.
abbrev pub answer_count : Result ℕ Refusal → ℕ
answer_count (Ok n) = n
answer_count (Err r) = 0

-- what the questions say: that all are met, or the first that is not
abbrev pub Asked : Type 0
Asked = Result (Unit {0}) Refusal

-- the longest list that question 1 lets pass
abbrev pub longest : ℕ
longest = 16777215

-- "Questions asked of each call, in this order … If not: 1.": a refusal where a question is not met, else what the rest
-- give
abbrev pub if_not : Bool → Refusal → Asked → Asked
if_not met refusal rest = cond met rest (Err refusal)

-- questions 1 and 2: of lists that are short or not, and of columns that fit them or not
abbrev pub lengths_asked : Bool → Bool → Asked
lengths_asked short fits = if_not short TooLong (if_not fits WrongLength (Ok tt))

-- the same of a list's rows and the entries of a column beside it
abbrev pub asked : ℕ → ℕ → Asked
asked rows column = lengths_asked (leb rows longest) (eqb column rows)

-- what a call answers and leaves: what it works out where every question is met, and otherwise what a refusal leaves
abbrev pub answered : {A : Type 0} → Asked → A → (Refusal → A) → A
answered (Ok x) accepted refused = accepted
answered (Err r) accepted refused = refused r

-- what a call returns and what it leaves, as one value
infixr 40 ◌and◌
abbrev pub ◌and◌ : {A B : Type 0} → A → B → A × B
a and b = (a, b)

-- what a call that ranks and counts answers, and its working and result columns afterwards
pub record RankedRun : Type 0 where
  pub answer : Result ℕ Refusal
  pub keys : List ℕ
  pub spare : List ℕ
  pub q : List Float

abbrev pub ranked_run : Result ℕ Refusal → List ℕ → List ℕ → List Float → RankedRun
ranked_run answer keys spare q = record { answer = answer; keys = keys; spare = spare; q = q }
