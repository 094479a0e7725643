-- Demand 3, as one statement over the definitions that the calls are proved equal to. The three demands say, word for
-- word:
--
-- 1. "Every call is sound on its own: it finishes on all inputs; it checks lengths, slots, bins and lines itself; a
-- refusal has a fixed number; after it, result columns hold only blanks and competition tables are unchanged."
--
-- 2. "On lists of up to 16,777,215 rows, within the domain of document 01, the results equal the Rust's, as shown by
-- running both. They are also proved equal to definitions written from IEEE 754 and from the target-decoy counting
-- rule. Each place where Rust and document part is written in docs/DIFFERENCES.md."
--
-- 3. "Whichever rows of a ranked list of up to 16,777,215 are decoys, and at whatever row from zero to its length
-- someone draws the one-in-a-hundred line, our added line check answers right exactly when the line is right: no later
-- row has 100 times (decoys so far plus one) at most the targets so far, and the line is zero or its own row has. Any
-- other of these lines is answered wrong. Whenever the spectrum q-value call accepts that list, the rows to which it
-- gives a rounded q-value of at most 0.01 are exactly those up to the one right line, and its count is that line. The
-- check does the same at one in twenty, with 20 in place of 100. Whenever the precursor q-value call accepts a list, in
-- whatever order it came, the precursors given a rounded q-value of at most 0.05 are exactly those up to the right
-- one-in-twenty line of the list as document 01 ranks it by narrowed peak score, and the call's count is the targets up
-- to that line."
use Rattle.std.specs.Prelude.{◌≡◌, ◌⊎◌, List, map, true, false, ℕ, suc, ◌≤◌, ◌<◌, leb, ℤ, pos, length, get_or, take, Float, Ok}
use Rattle.std.specs.Float.{nan}
use Rattle.std.specs.Float.Ieee.{le}
use Rattle.columns.specs.Refusals.{longest}
use Rattle.floats.specs.Ratio.{one_in}
use Rattle.counting.specs.Labels.{targets}
use Rattle.counting.specs.Lines.{qualifies, RightLine}
use Rattle.qvalue.specs.Spectrum.{spectrum_q_value}
use Rattle.line_check.specs.Check.{per_of, counts_at, line_answer}
use Rattle.line_check.specs.declared.Rate.{Rate}
use Rattle.line_check.specs.declared.Line.TheVariants.{Right, Wrong}
use Rattle.ranking.specs.Ranking.{ranked_rows, as_ranked, rank_of}
use Rattle.precursor.specs.Precursors.{picked_precursor, precursor_order}

-- exactly one line of a list is right
pub record OneRight (rate : ℕ) (labels : List ℤ) : Type 0 where
  pub line : ℕ
  pub listed : line ≤ length labels
  pub right : RightLine rate labels line
  pub only : (other : ℕ) → other ≤ length labels → RightLine rate labels other → other ≡ line

-- module 7: "the last later row that qualifies, or, if none does, … the line itself"
pub record LastQualifying (rate : ℕ) (labels : List ℤ) (line row : ℕ) : Type 0 where
  pub none_after : (later : ℕ) → row < later → later ≤ length labels → qualifies rate labels later ≡ false
  pub which : (row ≡ line) ⊎ ((line < row) × (row ≤ length labels) × (qualifies rate labels row ≡ true))

-- exactly one row is that
pub record OneLast (rate : ℕ) (labels : List ℤ) (line : ℕ) : Type 0 where
  pub row : ℕ
  pub last : LastQualifying rate labels line row
  pub only : (other : ℕ) → LastQualifying rate labels line other → other ≡ row

-- the check at a line from zero to the list's length: "right exactly when the line is right"; "Any other … wrong"
pub record LineCheck (rate : ℕ) (labels : List ℤ) (line : ℕ) : Type 0 where
  pub if_right : RightLine rate labels line → line_answer rate labels line ≡ Ok (Right (counts_at labels line))
  pub if_wrong : (RightLine rate labels line → ⊥)
      → (last : OneLast rate labels line) × (line_answer rate labels line ≡ Ok (Wrong (counts_at labels last.row)))

-- the spectrum call, where it accepts, and the right line at one in 100; rows count from 1
pub record Spectra (labels : List ℤ) (q : List Float) (count line : ℕ) : Type 0 where
  pub count_is_line : count ≡ line
  pub rows : (i : ℕ) → i < length labels
      → le (get_or (spectrum_q_value labels q).q i nan) (one_in 100) ≡ leb (suc i) line

-- the precursor call, where it accepts, and the line of the list as ranked that is right at one in 20
pub record Precursors (labels : List ℤ) (scores : List Float) (q : List Float) (count line : ℕ) : Type 0 where
  pub count_is_targets : count ≡ targets (take line (as_ranked labels scores))
  pub rows : (place : ℕ) → place < length labels
      → le (get_or q place nan) (one_in 20) ≡ leb (suc (rank_of (ranked_rows scores) place)) line

-- The order call, where it accepts. Module 7: "a line of a precursor list counts its rows as ranked". Ranks count from
-- 0, places too: each place of the list has a rank of its own, the order has that place there, and the list as ranked
-- its label; and each rank has a place.
pub record Order (labels : List ℤ) (scores : List Float) (order : List ℕ) : Type 0 where
  pub as_long : length order ≡ length scores
  pub ranked : (place : ℕ) → place < length scores → rank_of (ranked_rows scores) place < length scores
  pub distinct : (place other : ℕ) → place < length scores → other < length scores
      → rank_of (ranked_rows scores) place ≡ rank_of (ranked_rows scores) other → place ≡ other
  pub place_there : (place : ℕ) → place < length scores → get_or order (rank_of (ranked_rows scores) place) 0 ≡ place
  pub label_there : (place : ℕ) → place < length scores
      → get_or (as_ranked labels scores) (rank_of (ranked_rows scores) place) (pos 0) ≡ get_or labels place (pos 0)
  pub placed : (rank : ℕ) → rank < length scores
      → (get_or order rank 0 < length scores) × (rank_of (ranked_rows scores) (get_or order rank 0) ≡ rank)
  pub labels_in_order : map (λ place. get_or labels place (pos 0)) order ≡ as_ranked labels scores

pub record Demand3 : Type 0 where
  pub one_right : (rate : Rate) (labels : List ℤ) → OneRight (per_of rate) labels
  pub line_check : (rate : Rate) (labels : List ℤ) (line : ℕ) → length labels ≤ longest → line ≤ length labels
      → LineCheck (per_of rate) labels line
  pub spectra : (labels : List ℤ) (q : List Float) (count line : ℕ) → (spectrum_q_value labels q).answer ≡ Ok count
      → line ≤ length labels → RightLine 100 labels line → Spectra labels q count line
  pub precursors : (labels : List ℤ) (scores : List Float) (keys spare : List ℕ) (q : List Float) (count line : ℕ)
      → let run = picked_precursor labels scores keys spare q in
      run.answer ≡ Ok count → line ≤ length (as_ranked labels scores) → RightLine 20 (as_ranked labels scores) line
      → Precursors labels scores run.q count line
  pub order : (labels : List ℤ) (scores : List Float) (keys spare order : List ℕ)
      → let run = precursor_order scores keys spare order in
      run.answer ≡ Ok tt → Order labels scores run.order
