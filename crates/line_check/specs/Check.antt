-- The line check. Document 01, module 7: "A line that is right, as demand 3 has it, gets Right with its own three
-- numbers (row 0 gives 0, 1, 0). Any other gets Wrong with those of the last later row that qualifies, or, if none
-- does, of the line itself."
use Rattle.std.specs.Prelude.{List, cond, ℕ, ◌+◌, max, leb, eqb, ℤ, length, take, Result, Ok, Err}
use Rattle.columns.specs.Refusals.{longest, number_of, Asked, if_not, answered}
use Rattle.columns.specs.declared.Refusal.{Refusal}
use Rattle.columns.specs.declared.Refusal.TheVariants.{TooLong, PastTheEnd}
use Rattle.counting.specs.Labels.{decoys, targets}
use Rattle.counting.specs.Lines.{right_line}
use Rattle.line_check.specs.declared.Counts.{Counts}
use Rattle.line_check.specs.declared.Line.{Line}
use Rattle.line_check.specs.declared.Line.TheVariants.{Right, Wrong}
use Rattle.line_check.specs.declared.LineNumbers.{LineNumbers}
use Rattle.line_check.specs.declared.Rate.{Rate}
use Rattle.line_check.specs.declared.Rate.TheVariants.{OneIn100, OneIn20}

-- "at one in 100 or one in 20"
abbrev pub per_of : Rate → ℕ
per_of OneIn100 = 100
per_of OneIn20 = 20

-- "Each answer carries a row, decoys plus one, and targets up to it."
abbrev pub counts_at : List ℤ → ℕ → Counts
counts_at labels row =
    let rows = take row labels in
    record { row = row; decoys_plus_one = decoys rows + 1; targets = targets rows }

-- a line up to the list's length: where a later row qualifies, the right line is past this one
abbrev pub judgement : ℕ → List ℤ → ℕ → Line
judgement per labels line =
    let right = right_line per labels in
    cond (eqb line right) (Right (counts_at labels line)) (Wrong (counts_at labels (max line right)))

-- questions 1 and 9, of a list's length and a line
abbrev pub line_asked : ℕ → ℕ → Asked
line_asked labels line = if_not (leb labels longest) TooLong (if_not (leb line labels) PastTheEnd (Ok tt))

-- the call
unfoldable pub line_answer : ℕ → List ℤ → ℕ → Result Line Refusal
line_answer per labels line = answered (line_asked (length labels) line) (Ok (judgement per labels line)) Err

-- The answer as numbers: that of a refusal, or 0; then, in the port's own numbers, 1 for right and 0 for wrong; and the
-- three counts. After a refusal all are 0 but the first.
abbrev pub judged : ℕ → Counts → LineNumbers
judged right c =
    record { number = 0; right = right; row = c.row; decoys_plus_one = c.decoys_plus_one; targets = c.targets }

abbrev pub numbers_of : Result Line Refusal → LineNumbers
numbers_of (Ok (Right c)) = judged 1 c
numbers_of (Ok (Wrong c)) = judged 0 c
numbers_of (Err r) = record { number = number_of r; right = 0; row = 0; decoys_plus_one = 0; targets = 0 }
