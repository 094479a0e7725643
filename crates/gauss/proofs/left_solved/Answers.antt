-- `gauss::left_solved` meets its contract. The invariants (`Passing`): every row, and every entry of the row, before
-- this one passes.
use mathlib.Core.Path.{sym, ap, ◌∙◌}
use Rattle.gauss.specs.Elimination.{entry, solved_at, solved_row, left_solved}
use lib.Dec.{eqb}
use Rattle.folds.proofs.Walks.{passing_start, passing_step, passing_done, failing}
use Rattle.gauss.proofs.Tables.{in_part}
use borrow.Author.Rules.{rules}
use Rattle.gauss.proofs.left_solved.Goals as goal

pub loop-i-init : goal.loop-i-init
loop-i-init c = passing_start

pub loop-j-init : goal.loop-j-init
loop-j-init c = passing_start

pub returns-then-not-entry_solved : goal.returns-then-not-entry_solved
unfolding left_solved
returns-then-not-entry_solved c =
    let size = c.args.size.rows in
    let m = c.args.m.now in
    let i = c.loop-i.i in
    let j = c.loop-j.j in
    let read = ap (solved_at (eqb i j)) (sym (in_part m size i j (search rules) (search rules))) in
    let unsolved = read ∙ sym c.entry_solved.ensures ∙ c.if-not-entry_solved.true in
    sym (failing (solved_row size m) (search rules) (failing (λ j. solved_at (eqb i j) (entry m i j)) (search rules) unsolved))

pub loop-j-preserved : goal.loop-j-preserved
loop-j-preserved c =
    let i = c.loop-i.i in
    let j = c.loop-j.j in
    let read = ap (solved_at (eqb i j)) (sym (in_part c.args.m.now c.args.size.rows i j (search rules) (search rules))) in
    passing_step c.loop-j.invariant (search rules) (read ∙ sym c.entry_solved.ensures ∙ c.if-not-entry_solved.false)

pub loop-i-preserved : goal.loop-i-preserved
loop-i-preserved c = passing_step c.loop-i.invariant (search rules) (passing_done c.loop-j.invariant (search rules))

pub returns : goal.returns
unfolding left_solved
returns c = sym (passing_done c.loop-i.invariant (search rules))
