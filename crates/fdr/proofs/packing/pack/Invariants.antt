-- `fdr::packing::pack` meets its contract: the keys so far are those of the slots passed (`Packing`).
use Rattle.fdr.proofs.SidesPacked.{Packing}
use Rattle.fdr.proofs.packing.pack.Given as goal

abbrev pub invariant-loop-slot : goal.invariant-loop-slot
invariant-loop-slot l = Packing l.table l.slot l.rows l.keys
