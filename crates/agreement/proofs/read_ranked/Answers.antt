-- `agreement::read_ranked` meets its contract: the invariant is `Reading`, and each row of the order is in the list.
use mathlib.Core.Path.{ap, sym}
use lib.ListN.{get_or}
use lib.Ieee.{nan, le}
use Rattle.floats.specs.Ratio.{one_in}
use Rattle.floats.proofs.Ratio.{one_in_20}
use Rattle.agreement.proofs.Reading.{reading_step, reading_labels, reading_count}
use Rattle.agreement.proofs.read_ranked.Goals as goal

pub loop-i-preserved : goal.loop-i-preserved
loop-i-preserved c =
    let a = c.args in
    reading_step (one_in 20) _ _ _ _ c.loop-i.invariant c.loop-i-test.true c.ranked-1.given
    (ap (le (get_or a.q.now (get_or a.order.now c.loop-i.i 0) nan)) (sym one_in_20))

pub returns : goal.returns
returns c = record {
  count = reading_count (one_in 20) _ _ _ c.loop-i.invariant c.loop-i-test.false;
  column = reading_labels (one_in 20) _ _ _ c.loop-i.invariant c.loop-i-test.false;
}
