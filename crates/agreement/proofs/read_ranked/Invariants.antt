-- `agreement::read_ranked` meets its contract: the invariant is `Reading`, and each row of the order is in the list.
use Rattle.floats.specs.Ratio.{one_in}
use Rattle.agreement.proofs.Reading.{Reading}
use Rattle.agreement.proofs.read_ranked.Given as goal

abbrev pub invariant-loop-i : goal.invariant-loop-i
invariant-loop-i l = Reading (one_in 20) l.labels l.q l.order l.ranked l.passing l.i
