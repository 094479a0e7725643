-- `precursor::packing::pack` meets its contract: each place of the column gets the key of its row (`Keyed`).
use Rattle.precursor.specs.Inner.Keyed.{Keyed}
use Rattle.precursor.proofs.packing.pack.Given as goal

abbrev pub invariant-loop-i : goal.invariant-loop-i
invariant-loop-i g l = Keyed (goal.F-post g l.decoy_at) l.scores l.keys l.i
