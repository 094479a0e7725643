-- `precursor::passes::count_decoys` meets its contract: the last bits up to a row sum to its decoys (`DecoysCounted`).
use borrow.Author.Rules.{rules}
use Rattle.precursor.proofs.Assigned.{decoys_counted_start, decoys_counted_step}
use Rattle.precursor.proofs.passes.count_decoys.Goals as goal

pub loop-key-init : goal.loop-key-init
loop-key-init c = decoys_counted_start _

pub loop-key-preserved : goal.loop-key-preserved
loop-key-preserved c = decoys_counted_step _ c.loop-key.invariant (search rules) c.decoy_bit-decoy.ensures
