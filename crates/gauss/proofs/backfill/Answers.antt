-- `gauss::backfill` meets its contract. The rows are walked from the last up (`WalkDown`), each along its columns
-- (`RowWalk`) until the first nonzero entry.
use Rattle.folds.proofs.Walks.{walk_down_done}
use Rattle.gauss.proofs.RowWalks.{row_walk_step, none_found, found}
use Rattle.gauss.specs.Elimination.{cleared_above, backfilled}
use borrow.Author.Rules.{rules}
use Rattle.gauss.proofs.backfill.Goals as goal

pub rows-preserved : goal.rows-preserved
rows-preserved c =
    none_found (cleared_above c.args.size.rows) c.loop-j.invariant c.rows.invariant (search rules) (search rules)

pub loop-j-preserved : goal.loop-j-preserved
loop-j-preserved c = row_walk_step c.loop-j.invariant (search rules) c.if-m-i.true

pub rows-preserved-in-loop-j : goal.rows-preserved-in-loop-j
rows-preserved-in-loop-j c =
    found (cleared_above c.args.size.rows) c.loop-j.invariant c.rows.invariant (search rules) (search rules) c.if-m-i.false
    c.clear_above.ensures

pub returns : goal.returns
unfolding backfilled
returns c = walk_down_done c.rows.invariant (search rules)
