-- `competition::add_rows` meets its contract: the questions' answer picks what is answered and left, and a turn is a
-- row's step on the table (`Adding`).
use mathlib.Core.Path.{sym, ◌∙◌}
use mathlib.Core.Logic.{inl, inr}
use borrow.Author.Rules.{rules}
use Rattle.std.proofs.lemmas.Result.{err_from_is_err_and}
use Rattle.competition.specs.Batches.{add_rows}
use Rattle.competition.proofs.Questions.{batch_ready}
use Rattle.competition.proofs.RowSteps.{adding_row, adding_step, adding_done}
use Rattle.competition.proofs.batch.add_rows.Goals as goal

pub returns-in_err-ask_batch : goal.returns-in_err-ask_batch
unfolding add_rows
returns-in_err-ask_batch c =
    let p = err_from_is_err_and c.from_residual.result c.from_residual.ensures.1 in
    let asked = rw c.read.ensures at c.ask_batch.ensures in
    rw (p.1, p.2, ← asked, c.in_err-ask_batch.was)

pub add_row-requires : goal.add_row-requires
add_row-requires c =
    let asked = rw c.read.ensures at c.ask_batch.ensures in
    adding_row (batch_ready _ _ (sym asked ∙ c.in_ok-ask_batch.was)) c.loop-slot.invariant c.in-Some.ensures.steps.0.0

pub loop-slot-preserved : goal.loop-slot-preserved
loop-slot-preserved c =
    let asked = rw c.read.ensures at c.ask_batch.ensures in
    let steps = c.in-Some.ensures.steps in
    adding_step (batch_ready _ _ (sym asked ∙ c.in_ok-ask_batch.was)) c.loop-slot.invariant steps.0.0 steps.0.1 steps.1
    (search rules) c.add_row.ensures

pub returns : goal.returns
unfolding add_rows
returns c =
    let asked = rw c.read.ensures at c.ask_batch.ensures in
    let done = adding_done c.loop-slot.invariant (elim c.in-None.ensures.steps [
      | inl p ↦ elim p.1 [ inl q ↦ inl (inl q.1.0) | inr q ↦ inl (inr q.1.0) ]
      | inr p ↦ inr p.1.0
    ]) in
    rw (done, ← asked, c.in_ok-ask_batch.was)
