-- The spectrum call. Document 01, module 6: "Spectrum rows arrive ranked; the count takes decoys too, at or under
-- 0.01".
use Rattle.std.specs.Prelude.{List, ℕ, ℤ, length, Float, Result, Ok, Err}
use Rattle.std.specs.Float.{nan}
use Rattle.folds.specs.Lists.{filled}
use Rattle.columns.specs.Refusals.{Asked, asked, answered}
use Rattle.columns.specs.declared.Refusal.{Refusal}
use Rattle.floats.specs.Ratio.{one_in}
use Rattle.counting.specs.QValues.{q_values, count_at_most}

-- what the call answers, and the column of q-values afterwards
pub record SpectrumRun : Type 0 where
  pub answer : Result ℕ Refusal
  pub q : List Float

abbrev pub spectrum_run : Result ℕ Refusal → List Float → SpectrumRun
spectrum_run answer q = record { answer = answer; q = q }

-- questions 1 and 2, of a list of labels and a column of q-values
abbrev pub spectrum_asked : ℕ → ℕ → Asked
spectrum_asked = asked

-- the q-values, and how many are at most 0.01; a refusal leaves NaN in every place
unfoldable pub spectrum_q_value : List ℤ → List Float → SpectrumRun
spectrum_q_value labels q =
    answered (spectrum_asked (length labels) (length q))
    (spectrum_run (Ok (count_at_most (one_in 100) (q_values labels))) (q_values labels))
    (λ r. spectrum_run (Err r) (filled nan q))
