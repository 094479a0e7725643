-- The posterior error of a score, in the order of operations of the Rust's Estimator::posterior_error. Document 01,
-- module 4: "An estimator is the bin column with its least score and its step."
use Rattle.std.specs.Prelude.{List, map, cond, ℕ, ◌+◌, ◌-◌, min, eqb, length, get_or, Float, Result, Ok, Err}
use Rattle.std.specs.Float.{nan, binary64}
use Rattle.std.specs.Float.Ieee.{to_unsigned, add, sub, mul, div}
use Rattle.folds.specs.Lists.{filled}
use Rattle.floats.specs.Whole.{floored}
use Rattle.columns.specs.Refusals.{Asked, answered}
use Rattle.columns.specs.declared.Refusal.{Refusal}
use Rattle.columns.specs.declared.Refusal.TheVariants.{OutOfRange}
use Rattle.kde.specs.declared.Estimator.{Estimator}
use Rattle.kde.specs.Bins.{in_range, asked, bin_score, ColumnRun, column_run}

-- how many whole steps a score lies above the least, as Rust's floor() and `as usize` have it
unfoldable pub steps_up : Estimator → Float → ℕ
unfolding floored
steps_up e score =
    to_unsigned 64 (floored binary64 (div binary64 (sub binary64 score e.min_score) e.score_step))

-- how far the score lies from a bin's score towards the next, in steps
abbrev pub factor : Estimator → Float → ℕ → Float
factor e score bin = div binary64 (sub binary64 score (bin_score e bin)) e.score_step

-- between a bin and the one above
abbrev pub interpolated : Float → Float → Float → Float
interpolated lower upper linear = add binary64 lower (mul binary64 (sub binary64 upper lower) linear)

-- between the bin at or below the score, or the first, and the next one, both held to the last bin
unfoldable pub posterior_error : Estimator → List Float → Float → Float
unfolding steps_up
posterior_error e bins score =
    let last = length bins - 1 in
    let low = min last (steps_up e score) in
    let high = min last (low + 1) in
    interpolated (get_or bins low nan) (get_or bins high nan) (factor e score low)

-- the call for one score: "the bin count 1 to 65,536"
unfoldable pub posterior_answer : Estimator → List Float → Float → Result Float Refusal
posterior_answer e bins score =
    cond (in_range (length bins)) (Ok (posterior_error e bins score)) (Err OutOfRange)

-- "Floats returned by value are then NaN"
abbrev pub posterior_value : Result Float Refusal → Float
posterior_value (Ok x) = x
posterior_value (Err r) = nan

-- questions 1, 2 and 3, of a bin column, a list of scores and a column of errors
abbrev pub errors_asked : ℕ → ℕ → ℕ → Asked
errors_asked bins scores errors = asked scores (eqb errors scores) bins

-- the posterior error of every score; a refusal leaves NaN in every place
unfoldable pub posterior_errors : Estimator → List Float → List Float → List Float → ColumnRun
posterior_errors e bins scores column =
    answered (errors_asked (length bins) (length scores) (length column))
    (column_run (Ok tt) (map (posterior_error e bins) scores))
    (λ r. column_run (Err r) (filled nan column))
