-- `line_check::check_line` meets its contract: the questions' answer picks the refusal, or the judgement at the rate's
-- number.
use mathlib.Core.Path.{sym, ◌∙◌}
use Rattle.std.proofs.lemmas.Result.{err_from_is_err_and}
use Rattle.columns.proofs.Questions.{if_accepted, if_refused}
use Rattle.line_check.specs.Check.{line_answer}
use Rattle.line_check.proofs.check_line.Goals as goal

pub returns : goal.returns
unfolding line_answer
returns c = rw c.judge.ensures (sym (if_accepted _ _ (sym c.ask.ensures ∙ c.in_ok-ask.was)))

pub returns-in_err-ask : goal.returns-in_err-ask
unfolding line_answer
returns-in_err-ask c =
    let p = err_from_is_err_and c.from_residual.result c.from_residual.ensures.1 in
    rw (p.1, p.2) (sym (if_refused _ _ (sym c.ask.ensures ∙ c.in_err-ask.was)))
