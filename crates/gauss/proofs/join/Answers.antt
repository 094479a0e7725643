-- `gauss::join` meets its contract. The loop is the walk of `joined` over the rows of the system.
use mathlib.Core.List.{[]}
use lib.ListN.{get_or}
use lib.Ieee.{nan}
use Rattle.gauss.specs.Elimination.{row}
use Rattle.gauss.specs.Inner.Rows.{row_joined}
use Rattle.gauss.specs.Solutions.{joined}
use Rattle.gauss.proofs.PartWalks.{part_start, part_step, part_done}
use Rattle.gauss.proofs.WithinRow.{join_row_within}
use borrow.Author.Rules.{rules}
use Rattle.gauss.proofs.join.Goals as goal

pub loop-i-init : goal.loop-i-init
loop-i-init c = part_start (search rules) (search rules)

pub loop-i-preserved : goal.loop-i-preserved
loop-i-preserved c =
    let left = c.args.left.now in
    let right = c.args.right.now in
    let size = c.args.size.rows in
    part_step (λ i. row_joined (row left i) (get_or right i nan) size) [] c.loop-i.i (join_row_within left right size)
    c.loop-i.invariant (search rules) (search rules) (search rules) c.join_row.ensures

pub returns : goal.returns
unfolding joined
returns c = part_done c.loop-i.invariant (search rules)
