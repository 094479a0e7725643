-- Points that a reader can check by hand, by computation: document 01's known points of this module, the inputs where a
-- sentence of it is not true to the bit, and what the Rust's formulas give for no scores and for one bin.
use mathlib.Core.Path.{◌≡◌, refl}
use mathlib.Core.List.{List, [], ◌∷◌}
use mathlib.Core.Bool.{true, false}
use lib.IntN.{pos, negsuc}
use lib.Ieee.{Float, nan, inf, fin, of_bits, of_int, to_unsigned, neg, add, sub, mul, div}
use Rattle.floats.specs.Constants.{f64_max}
use Rattle.floats.specs.MinMax.{min_number, max_number}
use Rattle.floats.specs.Convert.{converted}
use Rattle.columns.specs.declared.Refusal.TheVariants.{OutOfRange, NoTolerance}
use Rattle.kde.specs.declared.Estimator.{Estimator}
use Rattle.kde.specs.declared.Tolerance.TheVariants.{Ppm, Da, Pct}
use Rattle.std.specs.Prelude.{Ok, Err}
use Rattle.kde.specs.Bins.{estimator, estimator_of}
use Rattle.kde.specs.Estimate.{posterior_error}
use Rattle.kde.specs.Tolerances.{bin_count_answer}
use Rattle.kde.specs.LogErrors.{log_error}

-- ---- "bins 0.5, 0.25, least 0, step 1: score 0.5 gives 0.375; 2 gives 0.25; −3 gives 1.25"

abbrev pub unit : Estimator
unit = estimator (fin false 0 (pos 0)) (fin false 1 (pos 0))

abbrev pub halves : List Float
halves = fin false 1 (negsuc 0) ∷ fin false 1 (negsuc 1) ∷ []

pub between : posterior_error unit halves (fin false 1 (negsuc 0)) ≡ fin false 3 (negsuc 2)
unfolding posterior_error to_unsigned of_int add sub mul div
between = refl

pub past : posterior_error unit halves (fin false 1 (pos 1)) ≡ fin false 1 (negsuc 1)
unfolding posterior_error to_unsigned of_int add sub mul div
past = refl

pub under : posterior_error unit halves (fin true 3 (pos 0)) ≡ fin false 5 (negsuc 1)
unfolding posterior_error to_unsigned of_int add sub mul div
under = refl

-- ---- past the last bin the last value stands, but for one of −0: the score at the bin gives +0

pub minus_zero_lost : posterior_error unit (fin true 0 (pos 0) ∷ []) (fin false 0 (pos 0)) ≡ fin false 0 (pos 0)
unfolding posterior_error to_unsigned of_int add sub mul div
minus_zero_lost = refl

-- ---- no scores: the least is f64::MAX and the step −infinity; one bin: an infinity, or a NaN for equal scores

pub no_scores : estimator_of 1000 [] ≡ estimator f64_max (inf true)
unfolding estimator_of of_bits neg sub div of_int
no_scores = refl

pub one_bin : estimator_of 1 (fin false 0 (pos 0) ∷ fin false 1 (pos 0) ∷ [])
    ≡ estimator (fin false 0 (pos 0)) (inf false)
unfolding estimator_of min_number max_number of_bits neg sub div of_int
one_bin = refl

pub one_bin_one_score : estimator_of 1 (fin false 1 (pos 0) ∷ []) ≡ estimator (fin false 1 (pos 0)) nan
unfolding estimator_of min_number max_number of_bits neg sub div of_int
one_bin_one_score = refl

-- ---- "ppm −10 to 10: 100 bins. ppm −75.5 to 75: 151. Da −600 to 600: 1200. Da 0 to 65,537: 3. Pct: 4."

pub ppm_10 : bin_count_answer (Ppm (fin true 5 (pos 1)) (fin false 5 (pos 1))) ≡ Ok 100
unfolding bin_count_answer to_unsigned sub
ppm_10 = refl

pub ppm_75 : bin_count_answer (Ppm (fin true 151 (negsuc 0)) (fin false 75 (pos 0))) ≡ Ok 151
unfolding bin_count_answer to_unsigned sub
ppm_75 = refl

pub da_600 : bin_count_answer (Da (fin true 75 (pos 3)) (fin false 75 (pos 3))) ≡ Ok 1200
unfolding bin_count_answer to_unsigned sub
da_600 = refl

pub da_65537 : bin_count_answer (Da (fin false 0 (pos 0)) (fin false 65537 (pos 0))) ≡ Err OutOfRange
unfolding bin_count_answer to_unsigned sub
da_65537 = refl

pub pct : (lo hi : Float) → bin_count_answer (Pct lo hi) ≡ Err NoTolerance
unfolding bin_count_answer
pct lo hi = refl

-- ---- the −324.0 rule: an f64 past the range of f32 narrows to an infinity too

pub log_of_nothing : log_error (inf true) ≡ fin true 81 (pos 2)
unfolding converted
log_of_nothing = refl

pub log_too_large : log_error (fin false 1 (pos 128)) ≡ fin true 81 (pos 2)
unfolding converted
log_too_large = refl
