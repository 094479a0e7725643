-- A scoring run. Document 01, module 3: "score_psms is the wrapper that refuses more: it also refuses coefficients that
-- aren't all finite. A scoring run gives each row's score as f64 and narrowed to f32."
use Rattle.std.specs.Prelude.{ℕ, ◌*◌, List, Bool, true, false, ◌&&◌, leb, eqb, length, get_or, Float, Ok, Err}
use Rattle.std.specs.Float.{nan, inf, fin, binary32}
use Rattle.folds.specs.Walks.{every}
use Rattle.folds.specs.Lists.{filled, tabulated}
use Rattle.columns.specs.declared.Refusal.TheVariants.{TooLong, WrongLength, NotFinite}
use Rattle.columns.specs.Refusals.{longest, Asked, if_not, answered}
use Rattle.floats.specs.Convert.{converted}
use Rattle.linear_discriminant.specs.Rows.{feature, scored}

-- the score of row i, and the f32 nearest to it
abbrev pub score_at : List Float → List Float → ℕ → Float
score_at coefficients features i = scored coefficients (feature features i)

abbrev pub narrowed_at : List Float → List Float → ℕ → Float
narrowed_at coefficients features i = converted binary32 (score_at coefficients features i)

-- is_finite
abbrev pub is_finite : Float → Bool
is_finite nan = false
is_finite (inf s) = false
is_finite (fin s m e) = true

-- "are all twenty coefficients finite?"
unfoldable pub all_finite : List Float → Bool
all_finite coefficients = every (λ j. is_finite (get_or coefficients j nan)) 20

-- what a run answers, and its two result columns afterwards
pub record ScoringRun : Type 0 where
  pub answer : Asked
  pub scores : List Float
  pub narrowed : List Float

abbrev pub scoring_run : Asked → List Float → List Float → ScoringRun
scoring_run answer scores narrowed = record { answer = answer; scores = scores; narrowed = narrowed }

-- Question 1 is asked of the features: "a feature column is too long above 335,544,300 numbers. Result … columns are
-- judged by question 2". A run has no labels, so the scores' length says how many rows there are; question 2 asks
-- twenty features and one narrowed score for each, and question 8 whether the coefficients are finite.
abbrev pub score_rows_asked : List Float → ℕ → ℕ → ℕ → Asked
score_rows_asked coefficients features scores narrowed =
    if_not (leb features (20 * longest)) TooLong
    (if_not (eqb features (20 * scores) && eqb narrowed scores) WrongLength
    (if_not (all_finite coefficients) NotFinite
    (Ok tt)))

-- each row's score, as f64 and narrowed; a refusal "fills each lent result column, at its own length, with NaN"
unfoldable pub scored_rows : List Float → List Float → List Float → List Float → ScoringRun
scored_rows coefficients features scores narrowed =
    let rows = length scores in
    answered (score_rows_asked coefficients (length features) rows (length narrowed))
    (scoring_run (Ok tt)
    (tabulated (score_at coefficients features) 0 rows)
    (tabulated (narrowed_at coefficients features) 0 rows))
    (λ refusal. scoring_run (Err refusal) (filled nan scores) (filled nan narrowed))
