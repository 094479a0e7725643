-- `kde::logs::log_errors` meets its contract: the questions' answer picks what the call leaves.
use mathlib.Core.Path.{sym, ◌∙◌}
use Rattle.columns.proofs.Questions.{if_accepted, refused_run}
use Rattle.kde.specs.Bins.{column_run}
use Rattle.kde.specs.LogErrors.{log_error, log_errors}
use Rattle.kde.proofs.logs.log_errors.Goals as goal

pub returns-in_err-or_blank : goal.returns-in_err-or_blank
unfolding log_errors
returns-in_err-or_blank c =
    refused_run column_run _ _ _ c.ask-asked.ensures c.or_blank.ensures.answer c.in_err-or_blank.was c.from_residual.ensures.1 c.or_blank.ensures.column

pub returns : goal.returns
unfolding log_errors
returns c =
    let e = sym c.ask-asked.ensures ∙ sym c.or_blank.ensures.answer ∙ c.in_ok-or_blank.was in
    rw (c.write_each.ensures log_error (λ x y p. p)) (sym (if_accepted _ _ e))
