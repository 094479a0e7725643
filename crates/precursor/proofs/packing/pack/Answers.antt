-- `precursor::packing::pack` meets its contract: each place of the column gets the key of its row (`Keyed`).
use borrow.Author.Rules.{rules}
use Rattle.precursor.proofs.Keyed.{keyed_step}
use Rattle.precursor.proofs.packing.pack.Goals as goal

pub loop-i-preserved : goal.loop-i-preserved
loop-i-preserved g c =
    keyed_step _ c.loop-i.invariant (search rules) c.decoy_at.ensures
    (rw (c.key.ensures, c.narrow.ensures, c.payload-payload.ensures))
