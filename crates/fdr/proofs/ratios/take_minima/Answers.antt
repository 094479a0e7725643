-- `fdr::ratios::take_minima` meets its contract: the rows from i on have their least ratio (`Minima`).
use mathlib.Core.Path.{sym}
use Prim.Native.Nat.{◌-◌}
use Rattle.floats.proofs.Ratio.{one_in_100}
use Rattle.fdr.proofs.Minima.{minima_start, minima_number, minima_step}
use borrow.Author.Rules.{rules}
use Rattle.fdr.proofs.ratios.take_minima.Goals as goal

pub loop-i-init : goal.loop-i-init
loop-i-init c = minima_start _

pub with_number-requires : goal.with_number-requires
with_number-requires c = minima_number _ c.loop-i.invariant _ _ c.min-q_min.ensures

pub loop-i-preserved : goal.loop-i-preserved
loop-i-preserved c =
    let l = c.loop-i in
    rw c.from-passing.ensures
    (minima_step _ l.invariant (l.i - 1) (search rules) _ _ _ _ _ c.key_number.ensures c.min-q_min.ensures (sym one_in_100) c.decoy_bit.ensures c.with_number.ensures)
