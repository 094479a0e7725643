-- Document 01's known points, those that it marks, as one table over the definitions that the calls are proved equal
-- to.
use Rattle.std.specs.Prelude.{◌≡◌, List, [], ◌∷◌, ◌++◌, true, false, ℕ, ◌<◌, ℤ, pos, negsuc, length, get_or, replicate, T, Float, Ok}
use Rattle.std.specs.Float.{nan, fin}
use Rattle.std.specs.Float.Ieee.{neg, eq}
use Rattle.columns.specs.Refusals.{ranked_run, answer_number, answer_count, ◌and◌}
use Rattle.floats.specs.Constants.{f64_zero}
use Rattle.qvalue.specs.Spectrum.{spectrum_q_value}
use Rattle.line_check.specs.Check.{line_answer}
use Rattle.line_check.specs.declared.Counts.{Counts}
use Rattle.line_check.specs.declared.Line.TheVariants.{Right, Wrong}
use Rattle.gauss.specs.Elimination.{Vector, Matrix, entry, small}
use Rattle.gauss.specs.Solutions.{solution, solved_values}
use Rattle.kde.specs.declared.Tolerance.TheVariants.{Ppm}
use Rattle.kde.specs.Bins.{estimator}
use Rattle.kde.specs.Estimate.{posterior_answer, posterior_value}
use Rattle.kde.specs.Tolerances.{bin_count_answer}
use Rattle.competition.specs.Tables.{Table, table_of, fresh_table}
use Rattle.competition.specs.Batches.{batch_of, add_rows}
use Rattle.competition.specs.Winners.{slot_seen, winners}
use Rattle.fdr.specs.declared.Names.{Names}
use Rattle.fdr.specs.declared.Settings.{Settings}
use Rattle.fdr.specs.NameQValues.{assign_q_value}

abbrev pub target : ℤ
target = pos 1

abbrev pub decoy : ℤ
decoy = negsuc 0

-- a whole number as a float
abbrev pub as_float : ℕ → Float
as_float n = fin false n (pos 0)

-- n targets, then one decoy
abbrev pub then_decoy : ℕ → List ℤ
then_decoy n = replicate n target ++ (decoy ∷ [])

abbrev pub counts : ℕ → ℕ → ℕ → Counts
counts row decoys targets = record { row = row; decoys_plus_one = decoys; targets = targets }

-- the bins 0.5 and 0.25
abbrev pub two_bins : List Float
two_bins = fin false 1 (negsuc 0) ∷ fin false 1 (negsuc 1) ∷ []

-- what the posterior error's call returns for a score with these bins, least 0 and step 1, and the error
abbrev pub posterior : Float → ℕ × Float
posterior score =
    let answer = posterior_answer (estimator (as_float 0) (as_float 1)) two_bins score in
    answer_number answer and posterior_value answer

-- two slots, after a target of each was added, with 2.0 and 1.0; what the columns held before it was made fresh does
-- not matter
abbrev pub two_slots : Table
two_slots =
    let initial = table_of (nan ∷ nan ∷ []) (nan ∷ nan ∷ []) (9 ∷ 9 ∷ []) (9 ∷ 9 ∷ []) in
    let batch = batch_of (0 ∷ 1 ∷ []) (target ∷ target ∷ []) (fin false 1 (pos 1) ∷ as_float 1 ∷ []) in
    (add_rows batch (fresh_table initial).table).table

pub record KnownPoints : Type 0 where
  -- "no rows: count 0, line 0 right"
  pub no_rows : (spectrum_q_value [] []).answer ≡ Ok 0
  pub no_rows_line : line_answer 100 [] 0 ≡ Ok (Right (counts 0 1 0))
  -- "one decoy: q 1.0"
  pub one_decoy : (spectrum_q_value (decoy ∷ []) (nan ∷ [])).q ≡ as_float 1 ∷ []
  -- "target, decoy, target: q 1, 1, 1. Labels 0 and 7 are targets."
  pub three_rows : (spectrum_q_value (target ∷ decoy ∷ target ∷ []) (replicate 3 nan)).q ≡ replicate 3 (as_float 1)
  pub zero_and_seven : line_answer 100 (pos 0 ∷ pos 7 ∷ []) 2 ≡ Ok (Wrong (counts 2 1 2))
  -- "20 targets, one decoy at one in 20: line 20, 20 targets"; "19 targets: line 0"; and, not marked, "40 targets, one
  -- decoy: line 41, 40 targets"
  pub twenty : line_answer 20 (then_decoy 20) 20 ≡ Ok (Right (counts 20 1 20))
  pub nineteen : line_answer 20 (then_decoy 19) 0 ≡ Ok (Right (counts 0 1 0))
  pub forty : line_answer 20 (then_decoy 40) 41 ≡ Ok (Right (counts 41 2 40))
  -- "system [−1E-8], right side 5: answer 5", whatever stands past the size; the call returns 0, and 0 past the size
  pub minus_small : (left : Matrix) (right : Vector) → entry left 0 0 ≡ neg small → get_or right 0 nan ≡ as_float 5
      → let run = solution left right 1 in
      answer_number run and solved_values run ≡ 0 and (as_float 5 ∷ replicate 19 f64_zero)
  -- "system [NaN]: 7", and the call's blanks
  pub not_a_number : (left : Matrix) (right : Vector) → entry left 0 0 ≡ nan
      → let run = solution left right 1 in
      answer_number run and solved_values run ≡ 7 and replicate 20 nan
  -- "bins 0.5, 0.25, least 0, step 1: score 0.5 gives 0.375; 2 gives 0.25; −3 gives 1.25": what the call returns, and
  -- the error that it writes
  pub between : posterior (fin false 1 (negsuc 0)) ≡ 0 and fin false 3 (negsuc 2)
  pub past : posterior (fin false 1 (pos 1)) ≡ 0 and fin false 1 (negsuc 1)
  pub under : posterior (fin true 3 (pos 0)) ≡ 0 and fin false 5 (negsuc 1)
  -- "ppm −10 to 10: 100 bins"
  pub ppm : let answer = bin_count_answer (Ppm (fin true 5 (pos 1)) (fin false 5 (pos 1))) in
      answer_number answer and answer_count answer ≡ 0 and 100
  -- "equal forward and reverse: decoy wins": 1 in the call's column, in every table that it accepts, for a slot that is
  -- seen
  pub equal_sides : (t : Table) (scores : List Float) (flags : List ℕ) (slot : ℕ)
      → let run = winners t scores flags in
      run.answer ≡ Ok tt → slot < length t.forward → slot_seen t slot ≡ true
      → T (eq (get_or t.forward slot nan) (get_or t.reverse slot nan)) → get_or run.flags slot 0 ≡ 1
  -- "two target slots scored 2.0 and 1.0, bins 0.5, 0.25, least 1, step 1: q 0.875 for both, count 0"
  pub two_slots_named : (names : Names)
      → let settings : Settings = record { names = names; estimator = estimator (as_float 1) (as_float 1) } in
      let labels = target ∷ target ∷ [] in
      assign_q_value settings two_bins two_slots (0 ∷ 1 ∷ []) labels (replicate 4 9) (replicate 4 9) (nan ∷ nan ∷ [])
      ≡ ranked_run (Ok 0) (replicate 4 0) (replicate 4 0) (replicate 2 (fin false 7 (negsuc 2)))
