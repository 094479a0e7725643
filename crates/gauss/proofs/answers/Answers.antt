-- `gauss::answers` meets its contract. The loop is the walk of `values`, from the row of zeros.
use mathlib.Core.Path.{ap}
use lib.ListN.{set}
use Rattle.folds.proofs.Walks.{step_by, done}
use Rattle.gauss.specs.Solutions.{values}
use Rattle.gauss.proofs.Tables.{in_rows}
use borrow.Author.Rules.{rules}
use Rattle.gauss.proofs.answers.Goals as goal

pub loop-i-preserved : goal.loop-i-preserved
loop-i-preserved c =
    let w = c.loop-i in
    step_by w.invariant (search rules) (ap (set w.out w.i) (in_rows c.args.m.now c.args.size.rows w.i 20 (search rules)))

pub returns : goal.returns
unfolding values
returns c = done c.loop-i.invariant (search rules)
