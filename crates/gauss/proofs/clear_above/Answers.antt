-- `gauss::clear_above` meets its contract. The loop is the walk of `cleared_above` over the rows above i.
use mathlib.Core.List.{[]}
use Rattle.gauss.specs.Elimination.{row, cleared_above}
use Rattle.gauss.proofs.PartWalks.{part_start, part_step, part_done}
use Rattle.gauss.proofs.WithinRow.{above, clear_row_above_within}
use borrow.Author.Rules.{rules}
use Rattle.gauss.proofs.clear_above.Goals as goal

pub loop-row-init : goal.loop-row-init
loop-row-init c = part_start (search rules) (search rules)

pub loop-row-preserved : goal.loop-row-preserved
loop-row-preserved c =
    let p = row c.args.m.now c.args.i in
    let size = c.args.size.rows in
    let j = c.args.j in
    part_step (λ i. above p size j) [] c.loop-row.row-index (clear_row_above_within p size j) c.loop-row.invariant
    (search rules) (search rules) (search rules) c.subtract.ensures

pub returns : goal.returns
unfolding cleared_above
returns c = part_done c.loop-row.invariant (search rules)
