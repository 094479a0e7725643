-- `linear_discriminant::fit::train` meets its contract: the questions' answer picks the refusal, or the fit.
use mathlib.Core.Path.{◌≡◌, sym, ◌∙◌}
use lib.ListN.{length}
use borrow.Author.Rules.{rules}
use Rattle.std.specs.Prelude.{Err}
use Rattle.columns.proofs.Questions.{if_accepted, if_refused}
use Rattle.linear_discriminant.specs.Fit.{trained}
use Rattle.linear_discriminant.proofs.Classes.{decoys_at_most}
use Rattle.linear_discriminant.proofs.Questions.{train_asked_lem, counts_fit}
use Rattle.linear_discriminant.proofs.fit.train.Goals as goal

pub overflow_sub-targets : goal.overflow_sub-targets
overflow_sub-targets c = decoys_at_most c.args.labels.now c.count_decoys-decoys.ensures

pub fit-requires-clause-counts : goal.fit-requires-clause-counts
fit-requires-clause-counts c =
    (counts_fit (length c.args.features.now) c.args.labels.now c.count_decoys-decoys.ensures (sym c.ask.ensures ∙ c.in_ok-ask.was)).1

pub returns-in_err-ask : goal.returns-in_err-ask
unfolding trained
returns-in_err-ask c =
    let a = c.args in
    let e : c.from_residual.result ≡ Err c.in_err-ask.field-0.0 = search rules in
    e
    ∙ sym (if_refused _ Err (train_asked_lem (length a.features.now) a.labels.now c.count_decoys-decoys.ensures c.ask.ensures ∙ c.in_err-ask.was))

pub returns : goal.returns
unfolding trained
returns c =
    let a = c.args in
    c.fit.ensures
    ∙ sym (if_accepted _ Err (train_asked_lem (length a.features.now) a.labels.now c.count_decoys-decoys.ensures c.ask.ensures ∙ c.in_ok-ask.was))
