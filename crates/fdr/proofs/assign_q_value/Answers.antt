-- `fdr::assign_q_value` meets its contract: the questions' answer picks what is answered and left.
use mathlib.Core.Path.{sym, ◌∙◌}
use Rattle.fdr.specs.NameQValues.{assign_q_value}
use Rattle.fdr.proofs.Questions.{assign_ready}
use Rattle.fdr.proofs.assign_q_value.Goals as goal

pub assigned-requires : goal.assigned-requires
assigned-requires c = assign_ready _ _ _ _ _ _ _ (sym c.ask.ensures ∙ c.in_default.is)

pub returns-in-Err : goal.returns-in-Err
unfolding assign_q_value
returns-in-Err c =
    let w = c.clear.ensures in
    rw (w.keys, w.spare, c.blank.ensures, ← c.ask.ensures, c.in-Err.is)

pub returns : goal.returns
unfolding assign_q_value
returns c =
    let w = c.assigned.ensures in
    rw (w.count, w.column, w.keys, w.spare, ← c.ask.ensures, c.in_default.is)
