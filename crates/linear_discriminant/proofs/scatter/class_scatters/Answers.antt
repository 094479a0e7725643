-- `linear_discriminant::scatter::class_scatters` meets its contract. The invariant: of each class, the table and the
-- kept rows together hold the rows passed (`Gathered`).
use mathlib.Core.Path.{refl, ◌∙◌}
use borrow.Author.Rules.{rules}
use Rattle.gauss.specs.Elimination.{row}
use Rattle.linear_discriminant.specs.Inner.Passes.{half_tables}
use Rattle.linear_discriminant.proofs.KeptRows.{gathered_start, gathered_keep, gathered_add, gathered_end}
use Rattle.linear_discriminant.proofs.LabelledRows.{reading_step, reading_below, reading_class, reading_centred, reading_done}
use Rattle.linear_discriminant.proofs.Products.{one_ended}
use Rattle.linear_discriminant.proofs.Scatters.{adds, empty}
use Rattle.linear_discriminant.proofs.scatter.class_scatters.Goals as goal

pub loop-row-init : goal.loop-row-init
loop-row-init c =
    let a = c.args in
    record {
      place = 0;
      left = search rules;
      right = search rules;
      is = gathered_start (empty a.rows.now.features.now a.rows.now.labels.now (row a.means.now 0) 0) (empty a.rows.now.features.now a.rows.now.labels.now (row a.means.now 1) 1) refl refl;
    }

pub loop-row-preserved-then-m-lt15 : goal.loop-row-preserved-then-m-lt15
loop-row-preserved-then-m-lt15 c =
    let w = c.loop-row.invariant in
    let steps = c.in-Some.ensures.steps in
    reading_step w steps.0 steps.1
    (gathered_keep w.is (reading_below w steps.0 steps.1) (search rules)
    (reading_class w steps.0 steps.1 (search rules) c.class_of-c.ensures)
    (c.centred.ensures ∙ reading_centred w steps.0 steps.1 _) (search rules))

pub loop-row-preserved : goal.loop-row-preserved
loop-row-preserved c =
    let a = c.args in
    let w = c.loop-row.invariant in
    let steps = c.in-Some.ensures.steps in
    let k = c.class_of-c.result in
    reading_step w steps.0 steps.1
    (gathered_add w.is (reading_below w steps.0 steps.1) (search rules)
    (reading_class w steps.0 steps.1 (search rules) c.class_of-c.ensures)
    (c.centred.ensures ∙ reading_centred w steps.0 steps.1 _)
    (adds a.rows.now.features.now a.rows.now.labels.now (row a.means.now k) k) (search rules) c.add_kept.ensures)

pub returns : goal.returns
unfolding half_tables
returns c =
    let a = c.args in
    let w = c.loop-row.invariant in
    gathered_end w.is (reading_done w (search rules) (one_ended c.in-None.ensures.steps)) (λ k. adds a.rows.now.features.now a.rows.now.labels.now (row a.means.now k) k)
    c.add_kept-2.ensures c.add_kept-3.ensures
