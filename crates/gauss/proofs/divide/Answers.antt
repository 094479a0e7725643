-- `gauss::divide` meets its contract. The loop is the walk of `divided` along the row.
use mathlib.Core.Path.{refl, ap}
use Prim.Native.Nat.{◌+◌}
use lib.Ieee.{nan, binary64, div}
use Rattle.gauss.specs.Inner.Rows.{divide_at, divided}
use Rattle.gauss.proofs.PartWalks.{part_start, part_step, part_done}
use borrow.Author.Rules.{rules}
use Rattle.gauss.proofs.divide.Goals as goal

pub loop-y-init : goal.loop-y-init
loop-y-init c = part_start (search rules) (search rules)

pub loop-y-preserved : goal.loop-y-preserved
loop-y-preserved c =
    let x = c.args.x in
    part_step (λ i y. div binary64 y x) nan (c.args.j + c.loop-y.y-index) (λ i l. refl) c.loop-y.invariant refl
    (search rules) (search rules) refl

pub returns : goal.returns
unfolding divided
returns c = ap (divide_at c.args.x 20) (part_done c.loop-y.invariant (search rules))
