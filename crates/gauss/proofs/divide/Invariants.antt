-- `gauss::divide` meets its contract. The loop is the walk of `divided` along the row.
use Prim.Native.Nat.{◌-◌}
use Rattle.gauss.specs.Inner.Rows.{divide_at}
use Rattle.gauss.proofs.PartWalks.{PartWalk}
use Rattle.gauss.proofs.divide.Given as goal

abbrev pub invariant-loop-y : goal.invariant-loop-y
invariant-loop-y l =
    let n = l.fn.size.rows in
    PartWalk (divide_at l.x) l.j (n - l.j) n l.fn.row l.y-items l.y-index
