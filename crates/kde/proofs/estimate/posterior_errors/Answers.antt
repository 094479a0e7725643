-- `kde::estimate::posterior_errors` meets its contract: the questions' answer picks what the call leaves.
use mathlib.Core.Path.{sym, ◌∙◌}
use borrow.Author.Rules.{rules}
use Rattle.columns.proofs.Questions.{if_accepted, refused_run}
use Rattle.kde.specs.Bins.{column_run}
use Rattle.kde.specs.Estimate.{posterior_error, posterior_errors}
use Rattle.kde.proofs.estimate.posterior_errors.Goals as goal

pub returns-in_err-or_blank : goal.returns-in_err-or_blank
unfolding posterior_errors
returns-in_err-or_blank c =
    refused_run column_run _ _ _ c.ask-asked.ensures c.or_blank.ensures.answer c.in_err-or_blank.was c.from_residual.ensures.1 c.or_blank.ensures.column

pub returns : goal.returns
unfolding posterior_errors
returns c =
    let a = c.args in
    let e = sym c.ask-asked.ensures ∙ sym c.or_blank.ensures.answer ∙ c.in_ok-or_blank.was in
    rw (c.write_each.ensures (posterior_error a.estimator a.bins.now) (λ x y p. search rules)) (sym (if_accepted _ _ e))
