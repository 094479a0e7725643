-- `linear_discriminant::fit::sum_rows` meets its contract: a walk over the rows.
use mathlib.Core.Path.{◌∙◌}
use borrow.Author.Rules.{rules}
use Rattle.folds.proofs.Walks.{step_by, done}
use Rattle.linear_discriminant.specs.Inner.Passes.{summed_rows}
use Rattle.linear_discriminant.proofs.Classes.{sum_turn}
use Rattle.linear_discriminant.proofs.LabelledRows.{reading_step, reading_below, reading_class, reading_added, reading_done}
use Rattle.linear_discriminant.proofs.Products.{one_ended}
use Rattle.linear_discriminant.proofs.fit.sum_rows.Goals as goal

pub loop-row-preserved : goal.loop-row-preserved
loop-row-preserved c =
    let a = c.args in
    let w = c.loop-row.invariant in
    let steps = c.in-Some.ensures.steps in
    reading_step w steps.0 steps.1 (step_by w.is (reading_below w steps.0 steps.1)
    (sum_turn a.rows.now.features.now a.rows.now.labels.now w.place c.loop-row.sums
    (reading_class w steps.0 steps.1 (search rules) c.class_of-c.ensures)
    (c.add_row.ensures ∙ reading_added w steps.0 steps.1 _)))

pub returns : goal.returns
unfolding summed_rows
returns c =
    let w = c.loop-row.invariant in
    done w.is (reading_done w (search rules) (one_ended c.in-None.ensures.steps))
