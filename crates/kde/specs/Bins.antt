-- From scores to bins. Document 01, module 4: "The port gives least score, step, and the score of every bin; the host
-- returns two density columns taken at those scores; the port makes bins as decoy / (target + decoy), with pi as in the
-- Rust."
use Rattle.std.specs.Prelude.{Bool, true, cond, ◌&&◌, List, [], ◌∷◌, ℕ, ◌+◌, ◌-◌, ◌≤◌, leb, eqb, ℤ, pos, length, get_or}
use Rattle.std.specs.Prelude.{Float, Result, Ok, Err}
use Rattle.std.specs.Float.{nan, binary64}
use Rattle.std.specs.Float.Ieee.{of_int, add, sub, mul, div}
use Rattle.floats.specs.Constants.{f64_one, f64_max, f64_min}
use Rattle.floats.specs.MinMax.{min_number, max_number}
use Rattle.folds.specs.Lists.{filled, tabulated, folded, how_many}
use Rattle.columns.specs.Refusals.{longest, Asked, if_not, answered}
use Rattle.columns.specs.declared.Refusal.{Refusal}
use Rattle.columns.specs.declared.Refusal.TheVariants.{TooLong, WrongLength, OutOfRange}
use Rattle.counting.specs.Labels.{decoys}
use Rattle.kde.specs.declared.Estimator.{Estimator}
use Rattle.kde.specs.declared.Builder.{Builder}

-- "Builder settings are a flag and a bin count, starting at monotonic and 1000."
abbrev pub fresh_builder : Builder
fresh_builder = record { monotonic = true; bins = 1000 }

-- Question 3: "the bin count 1 to 65,536"
abbrev pub in_range : ℕ → Bool
in_range bins = leb 1 bins && leb bins 65536

-- the same, as the pair of its bounds
abbrev pub InRange : ℕ → Type 0
InRange bins = (1 ≤ bins) × (bins ≤ 65536)

-- questions 1, 2 and 3, of a list's length, of lengths that match or do not, and of a bin count
abbrev pub asked : ℕ → Bool → ℕ → Asked
asked listed lengths_match bins =
    if_not (leb listed longest) TooLong
    (if_not lengths_match WrongLength (if_not (in_range bins) OutOfRange (Ok tt)))

-- ---- step one: "least score, step, and the score of every bin"

-- "min and max that ignore a NaN", the accumulated one first, from f64::MAX and f64::MIN on
abbrev pub least_score : List Float → Float
least_score scores = folded min_number f64_max scores

abbrev pub greatest_score : List Float → Float
greatest_score scores = folded max_number f64_min scores

-- an estimator's two numbers
abbrev pub estimator : Float → Float → Estimator
estimator least step = record { min_score = least; score_step = step }

-- the least score, and the step from bin to bin
unfoldable pub estimator_of : ℕ → List Float → Estimator
unfolding folded
estimator_of bins scores =
    estimator (least_score scores)
    (div binary64 (sub binary64 (greatest_score scores) (least_score scores)) (of_int binary64 (pos (bins - 1))))

-- a bin's score: its number times the step, plus the least score
abbrev pub bin_score : Estimator → ℕ → Float
bin_score e bin = add binary64 (mul binary64 (of_int binary64 (pos bin)) e.score_step) e.min_score

-- "Floats returned by value are then NaN"
abbrev pub built_estimator : Result Estimator Refusal → Estimator
built_estimator (Ok e) = e
built_estimator (Err r) = estimator nan nan

-- what the call answers, and the column of bin scores afterwards
pub record BinScoresRun : Type 0 where
  pub answer : Result Estimator Refusal
  pub bin_scores : List Float

abbrev pub bin_scores_run : Result Estimator Refusal → List Float → BinScoresRun
bin_scores_run answer bin_scores = record { answer = answer; bin_scores = bin_scores }

-- questions 1, 2 and 3, of a bin count, a list of scores and a column of bin scores
abbrev pub bin_scores_asked : ℕ → ℕ → ℕ → Asked
bin_scores_asked bins scores column = asked scores (eqb column bins) bins

-- the estimator, and the score of every bin; a refusal leaves NaN in every place
unfoldable pub bin_scores_of : Builder → List Float → List Float → BinScoresRun
bin_scores_of builder scores column =
    let e = estimator_of builder.bins scores in
    answered (bin_scores_asked builder.bins (length scores) (length column))
    (bin_scores_run (Ok e) (tabulated (bin_score e) 0 builder.bins))
    (λ r. bin_scores_run (Err r) (filled nan column))

-- ---- step two: "bins as decoy / (target + decoy)"

-- the host's two densities, taken at the scores of the bins
pub record Densities : Type 0 where
  pub decoy : List Float
  pub target : List Float

abbrev pub densities_of : List Float → List Float → Densities
densities_of decoy target = record { decoy = decoy; target = target }

-- a bin, by its number, from both densities there
abbrev pub posterior_bin : Float → List Float → List Float → ℕ → Float
posterior_bin pi decoy_density target_density bin =
    let decoy = mul binary64 (get_or decoy_density bin nan) pi in
    let target = mul binary64 (get_or target_density bin nan) (sub binary64 f64_one pi) in
    div binary64 decoy (add binary64 target decoy)

-- the greatest of the bins and a value, the accumulated one first, from the last bin down
unfoldable pub maximum_from : Float → List Float → Float
maximum_from start [] = start
maximum_from start (b ∷ bins) = max_number (maximum_from start bins) b

-- "Monotonic bins take the running maximum from the last bin down"
unfoldable pub raised_from : Float → List Float → List Float
raised_from start [] = []
raised_from start (b ∷ bins) = maximum_from start (b ∷ bins) ∷ raised_from start bins

-- from the last bin's own value on
unfoldable pub raised : List Float → List Float
raised bins = raised_from (get_or bins (length bins - 1) nan) bins

-- the bins, raised where the builder is monotonic; pi is the decoys over all that take part
unfoldable pub bins_of : Builder → ℕ → ℕ → List Float → List Float → List Float
bins_of builder decoys total decoy_density target_density =
    let pi = div binary64 (of_int binary64 (pos decoys)) (of_int binary64 (pos total)) in
    let bins = tabulated (posterior_bin pi decoy_density target_density) 0 builder.bins in
    cond builder.monotonic (raised bins) bins

-- what a call answers, and its result column afterwards
pub record ColumnRun : Type 0 where
  pub answer : Asked
  pub column : List Float

abbrev pub column_run : Asked → List Float → ColumnRun
column_run answer column = record { answer = answer; column = column }

-- questions 1, 2 and 3, of a bin count, a list of rows or slots, two densities and a column of bins
abbrev pub bins_asked : ℕ → ℕ → ℕ → ℕ → ℕ → Asked
bins_asked bins listed decoy_density target_density column =
    asked listed (eqb decoy_density bins && eqb target_density bins && eqb column bins) bins

-- the bins, for a list's number of decoys and of all that take part; a refusal leaves NaN in every place
unfoldable pub built_bins : Builder → ℕ → ℕ → ℕ → List Float → List Float → List Float → ColumnRun
built_bins builder listed decoys total decoy_density target_density column =
    answered (bins_asked builder.bins listed (length decoy_density) (length target_density) (length column))
    (column_run (Ok tt) (bins_of builder decoys total decoy_density target_density))
    (λ r. column_run (Err r) (filled nan column))

-- Over labels every row takes part.
unfoldable pub label_bins : Builder → List ℤ → List Float → List Float → List Float → ColumnRun
label_bins builder labels = built_bins builder (length labels) (decoys labels) (length labels)

-- Over a competition's is_decoy, "1 or 0, a 32-bit number", a slot that holds neither, as an unseen one does, takes no
-- part.
unfoldable pub slot_bins : Builder → List ℕ → List Float → List Float → List Float → ColumnRun
slot_bins builder flags =
    let decoys = how_many (λ (n : ℕ). eqb n 1) flags in
    let targets = how_many (λ (n : ℕ). eqb n 0) flags in
    built_bins builder (length flags) decoys (decoys + targets)
