-- `gauss::reduce` meets its contract. The rows are walked from the last up (`WalkDown`), each along its columns
-- (`RowWalk`) until the first nonzero entry.
use Rattle.folds.proofs.Walks.{walk_down_done}
use Rattle.gauss.proofs.RowWalks.{row_walk_step, none_found, found}
use Rattle.gauss.specs.Elimination.{divide_row, reduced}
use Rattle.gauss.proofs.WithinRow.{divided_back}
use borrow.Author.Rules.{rules}
use Rattle.gauss.proofs.reduce.Goals as goal

pub rows-preserved : goal.rows-preserved
rows-preserved c =
    none_found (divide_row c.args.size.rows) c.loop-j.invariant c.rows.invariant (search rules) (search rules)

pub loop-j-preserved : goal.loop-j-preserved
loop-j-preserved c = row_walk_step c.loop-j.invariant (search rules) c.if-x.true

pub rows-preserved-in-loop-j : goal.rows-preserved-in-loop-j
rows-preserved-in-loop-j c =
    found (divide_row c.args.size.rows) c.loop-j.invariant c.rows.invariant (search rules) (search rules) c.if-x.false
    (divided_back _ _ _ _ _ c.divide.ensures)

pub returns : goal.returns
unfolding reduced
returns c = walk_down_done c.rows.invariant (search rules)
