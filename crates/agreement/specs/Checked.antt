-- Calls that make a list's q-values and then check the line after the rows that pass. Demand 3 says that this line is
-- right whenever the q-values are accepted: here the answer itself says so, for it is never Wrong.
use Rattle.std.specs.Prelude.{◌≡◌, List, ◌&&◌, ℕ, leb, eqb, ℤ, pos, length, Float, Result, Ok, Err}
use Rattle.std.specs.Float.{nan}
use Rattle.folds.specs.Lists.{filled}
use Rattle.columns.specs.Refusals.{longest, Asked, if_not, answered, RankedRun}
use Rattle.columns.specs.declared.Refusal.{Refusal}
use Rattle.columns.specs.declared.Refusal.TheVariants.{TooLong, WrongLength}
use Rattle.floats.specs.Ratio.{one_in}
use Rattle.counting.specs.QValues.{q_values, count_at_most}
use Rattle.counting.specs.Lines.{RightLine}
use Rattle.line_check.specs.Check.{counts_at}
use Rattle.line_check.specs.declared.Counts.{Counts}
use Rattle.line_check.specs.declared.Line.{Line}
use Rattle.line_check.specs.declared.Line.TheVariants.{Right}
use Rattle.ranking.specs.Ranking.{ranked_order, as_ranked}
use Rattle.precursor.specs.Precursors.{precursor_q, OrderRun}

-- ---- spectra

-- "its count is that line": the line check's answer at the count of an accepted list, and a refusal as it is
abbrev pub right_at : List ℤ → Result ℕ Refusal → Result Line Refusal
right_at labels (Ok count) = Ok (Right (counts_at labels count))
right_at labels (Err refusal) = Err refusal

-- ---- precursors

-- what the call answers, and its columns afterwards
pub record CheckedRun : Type 0 where
  pub answer : Result Line Refusal
  pub keys : List ℕ
  pub spare : List ℕ
  pub ranked : List ℤ
  pub order : List ℕ
  pub q : List Float

abbrev pub checked_run : Result Line Refusal → List ℕ → List ℕ → List ℤ → List ℕ → List Float → CheckedRun
checked_run answer keys spare ranked order q =
    record { answer = answer; keys = keys; spare = spare; ranked = ranked; order = order; q = q }

-- What an accepted call's counts are: those of the right line of the list as ranked. Its targets are the count of
-- `picked_precursor`, and its columns those of that call and of `precursor_order`, made one by one.
pub record AsCalled (labels : List ℤ) (scores : List Float) (picked : RankedRun) (ordered : OrderRun) (run : CheckedRun)
    (counts : Counts) : Type 0 where
  pub counts_are : counts ≡ counts_at (as_ranked labels scores) counts.row
  pub right : RightLine 20 (as_ranked labels scores) counts.row
  pub count_is_targets : picked.answer ≡ Ok counts.targets
  pub same_q : run.q ≡ picked.q
  pub same_order : run.order ≡ ordered.order

-- questions 1 and 2: short lists, and one entry per precursor in each column
abbrev pub checked_asked : ℕ → ℕ → ℕ → ℕ → ℕ → ℕ → ℕ → Asked
checked_asked labels scores keys spare ranked order q =
    let working = eqb keys labels && (eqb spare labels && eqb ranked labels) in
    if_not (leb labels longest && leb scores longest) TooLong
    (if_not (eqb scores labels && (working && (eqb order labels && eqb q labels))) WrongLength (Ok tt))

-- The order of the precursors and their q-values; the line of the list as ranked is how many of these are at most
-- 0.05. Working columns "hold 0 in every place afterwards, accepted or refused".
unfoldable pub checked_precursors
    : List ℤ → List Float → List ℕ → List ℕ → List ℤ → List ℕ → List Float → CheckedRun
checked_precursors labels scores keys spare ranked order q =
    let rows = as_ranked labels scores in
    let line = count_at_most (one_in 20) (q_values rows) in
    let after : Result Line Refusal → List ℕ → List Float → CheckedRun =
    λ answer. checked_run answer (filled 0 keys) (filled 0 spare) (filled (pos 0) ranked) in
    answered (checked_asked (length labels) (length scores) (length keys) (length spare)
    (length ranked) (length order) (length q))
    (after (Ok (Right (counts_at rows line))) (ranked_order scores) (precursor_q labels scores))
    (λ r. after (Err r) (filled 4294967295 order) (filled nan q))
