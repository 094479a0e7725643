-- `gauss::clear_below` meets its contract. The loop is the walk of `cleared_below` over the rows below h.
use mathlib.Core.List.{[]}
use Prim.Native.Nat.{◌+◌}
use mathlib.Core.Path.{refl}
use Rattle.gauss.specs.Elimination.{row, cleared_below}
use Rattle.gauss.proofs.PartWalks.{part_start, part_step, part_done}
use Rattle.gauss.proofs.WithinRow.{below, clear_row_within}
use borrow.Author.Rules.{rules}
use Rattle.gauss.proofs.clear_below.Goals as goal

pub loop-row-init : goal.loop-row-init
loop-row-init c = part_start (search rules) (search rules)

pub loop-row-preserved : goal.loop-row-preserved
loop-row-preserved c =
    let p = row c.args.m.now c.args.h in
    let size = c.args.size.rows in
    part_step (λ i. below p size c.args.k) [] (c.args.h + 1 + c.loop-row.row-index) (clear_row_within p size c.args.k)
    c.loop-row.invariant refl (search rules) (search rules) c.subtract.ensures

pub returns : goal.returns
unfolding cleared_below
returns c = part_done c.loop-row.invariant (search rules)
