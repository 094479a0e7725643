-- `precursor::passes::count_decoys` meets its contract: the last bits up to a row sum to its decoys (`DecoysCounted`).
use Rattle.precursor.proofs.Assigned.{DecoysCounted}
use Rattle.precursor.proofs.passes.count_decoys.Given as goal

abbrev pub invariant-loop-key : goal.invariant-loop-key
invariant-loop-key l = DecoysCounted l.keys l.key-index l.decoy
