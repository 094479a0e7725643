-- Logarithms of posterior errors. Document 01, module 4: "The −324.0 rule of score_psms is done here: the host's f64
-- log10 is narrowed, and an infinity of either sign becomes −324.0. NaN stays."
use Rattle.std.specs.Prelude.{List, map, true, ℕ, pos, length, Float, Ok, Err}
use Rattle.std.specs.Float.{nan, inf, fin, binary32}
use Rattle.folds.specs.Lists.{filled}
use Rattle.floats.specs.Convert.{converted}
use Rattle.columns.specs.Refusals.{Asked, asked, answered}
use Rattle.kde.specs.Bins.{ColumnRun, column_run}

-- "an infinity of either sign becomes −324.0", which is −81 · 2^2
abbrev pub finite_log : Float → Float
finite_log nan = nan
finite_log (inf s) = fin true 81 (pos 2)
finite_log (fin s m e) = fin s m e

-- "is narrowed" first
abbrev pub log_error : Float → Float
log_error log = finite_log (converted binary32 log)

-- questions 1 and 2, of a list of logarithms and a column of errors
abbrev pub log_errors_asked : ℕ → ℕ → Asked
log_errors_asked = asked

-- every logarithm narrowed; a refusal leaves NaN in every place
unfoldable pub log_errors : List Float → List Float → ColumnRun
log_errors logs column =
    answered (log_errors_asked (length logs) (length column))
    (column_run (Ok tt) (map log_error logs))
    (λ r. column_run (Err r) (filled nan column))
