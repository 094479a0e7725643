-- `gauss::echelon` meets its contract. The loop is the walk of `echeloned` over the columns, with h and the table for
-- its state, and h is at most k.
use Prim.Native.Nat.{ℕ}
use mathlib.Core.Path.{ap}
use Rattle.folds.proofs.Walks.{step_by, done}
use Rattle.gauss.specs.Elimination.{Matrix, echeloned}
use Rattle.gauss.proofs.Tables.{skipped, pivoted}
use borrow.Author.Rules.{rules}
use Rattle.gauss.proofs.echelon.Goals as goal

pub loop-k-preserved-then-m-i : goal.loop-k-preserved-then-m-i
loop-k-preserved-then-m-i c =
    let w = c.loop-k in
    let size = c.args.size.rows in
    (step_by w.invariant.0 (search rules) (skipped size w.k w.h w.m c.pivot_row-i.ensures.0 c.if-m-i.true), search rules)

pub loop-k-preserved : goal.loop-k-preserved
loop-k-preserved c =
    let w = c.loop-k in
    let size = c.args.size.rows in
    let turn = pivoted size w.k w.h w.m c.pivot_row-i.ensures.0 c.if-m-i.false c.swap_rows.ensures c.clear_below.ensures in
    (step_by w.invariant.0 (search rules) turn, search rules)

pub returns : goal.returns
unfolding echeloned
returns c = ap (λ (s : ℕ × Matrix). s.1) (done c.loop-k.invariant.0 (search rules))
