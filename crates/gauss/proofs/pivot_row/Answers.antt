-- `gauss::pivot_row` meets its contract. The loop is the walk of `pivot_row` from row h, and the row picked is below
-- the size; the measure is what is left of the size.
use mathlib.Core.Path.{ap}
use Rattle.gauss.specs.declared.Pivot.{Pivot}
use Rattle.folds.proofs.Walks.{step_by, done}
use Rattle.gauss.specs.Elimination.{pivot_row}
use lib.Ieee.{neg, of_bits}
use borrow.Author.Rules.{rules}
use Rattle.gauss.proofs.pivot_row.Goals as goal

pub loop-i-preserved-then-x-max : goal.loop-i-preserved-then-x-max
loop-i-preserved-then-x-max c = (step_by c.loop-i.invariant.0 (search rules) (rw c.if-x-max.true), search rules)

pub loop-i-preserved : goal.loop-i-preserved
loop-i-preserved c = (step_by c.loop-i.invariant.0 (search rules) (rw c.if-x-max.false), search rules)

pub returns : goal.returns
unfolding pivot_row neg of_bits
returns c = (ap (λ (p : Pivot). p.row) (done c.loop-i.invariant.0 (search rules)), search rules)
