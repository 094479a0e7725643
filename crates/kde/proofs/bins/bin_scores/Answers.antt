-- `kde::bins::bin_scores` meets its contract: the questions' answer picks what the call leaves.
use mathlib.Core.Path.{sym, ◌∙◌}
use lib.ListN.{length}
use Rattle.kde.specs.Bins.{estimator_of, bin_scores_run, bin_scores_of}
use Rattle.columns.proofs.Questions.{kept, refused_run}
use Rattle.kde.proofs.Questions.{bin_scores_passed}
use Rattle.kde.proofs.bins.bin_scores.Goals as goal

pub returns-in_err-or_blank : goal.returns-in_err-or_blank
unfolding bin_scores_of
returns-in_err-or_blank c =
    refused_run bin_scores_run _ _ _ c.ask-asked.ensures c.or_blank.ensures.answer c.in_err-or_blank.was c.from_residual.ensures.1 c.or_blank.ensures.column

pub returns : goal.returns
unfolding bin_scores_of estimator_of
returns c =
    let a = c.args in
    let e = sym c.ask-asked.ensures ∙ sym c.or_blank.ensures.answer ∙ c.in_ok-or_blank.was in
    let full = (bin_scores_passed a.builder.bins (length a.scores.now) (length a.bin_scores.now) e).1 in
    rw (e, c.write_bin_scores.ensures, kept _ _ c.or_blank.ensures.column (c.ask-asked.ensures ∙ e), full, c.score_range-range.ensures)
