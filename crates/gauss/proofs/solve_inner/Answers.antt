-- `gauss::solve_inner` meets its contract: the stages' contracts in a row (`stages`), and the two returns of a try.
use mathlib.Core.Path.{refl}
use Rattle.gauss.proofs.Solving.{stages, attempt_answers, attempt_refuses}
use Rattle.gauss.specs.Solutions.{joined}
use Rattle.gauss.proofs.solve_inner.Goals as goal

pub returns-then-left_solved : goal.returns-then-left_solved
returns-then-left_solved c =
    let a = c.args in
    let system = joined a.left.now a.right.now a.size.rows in
    let done = stages a.size.rows a.eps system c.upper_form-upper.ensures c.reduce-ones.ensures c.backfill-done.ensures in
    attempt_answers a.size.rows a.eps system done c.left_solved.ensures c.if-left_solved.true c.answers.ensures

pub returns : goal.returns
returns c =
    let a = c.args in
    let system = joined a.left.now a.right.now a.size.rows in
    let done = stages a.size.rows a.eps system c.upper_form-upper.ensures c.reduce-ones.ensures c.backfill-done.ensures in
    attempt_refuses a.size.rows a.eps system done c.left_solved.ensures c.if-left_solved.false refl
