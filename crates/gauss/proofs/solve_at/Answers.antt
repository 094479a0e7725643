-- `gauss::solve_at` meets its contract. The invariant (`Trying`): eps is that of some try, and no try before it solves
-- the system; the measure is how many tries are left.
use mathlib.Core.Path.{refl, sym, ◌∙◌}
use native.Mathlib.Omega.{arith}
use Rattle.gauss.proofs.Solving.{trying_start, trying_step, trying_less, trying_found, trying_none, in_range_lem}
use Rattle.gauss.proofs.solve_at.Goals as goal

pub loop-eps-init : goal.loop-eps-init
loop-eps-init c = trying_start

pub returns-then-is_ok : goal.returns-then-is_ok
returns-then-is_ok c =
    in_range_lem c.args.left.now c.args.right.now c.args.size (omega arith, omega arith)
    (trying_found c.loop-eps.invariant c.loop-eps-test.true c.solve_inner-attempt.ensures (sym c.is_ok.ensures.value ∙ c.if-is_ok.true))

pub loop-eps-smaller : goal.loop-eps-smaller
loop-eps-smaller c = trying_less c.loop-eps.invariant c.loop-eps-test.true

pub loop-eps-preserved : goal.loop-eps-preserved
loop-eps-preserved c =
    trying_step c.loop-eps.invariant c.loop-eps-test.true c.solve_inner-attempt.ensures (sym c.is_ok.ensures.value ∙ c.if-is_ok.false)

pub returns : goal.returns
returns c =
    in_range_lem c.args.left.now c.args.right.now c.args.size (omega arith, omega arith)
    (trying_none c.loop-eps.invariant c.loop-eps-test.false refl)
