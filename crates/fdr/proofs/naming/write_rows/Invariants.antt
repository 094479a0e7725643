-- `fdr::naming::write_rows` meets its contract: the column is written from the front (`Writing`).
use lib.IntN.{pos}
use lib.ListN.{length, get_or}
use lib.Ieee.{nan}
use Rattle.folds.proofs.Writing.{Writing}
use Rattle.fdr.specs.Inner.Passes.{read_at_name}
use Rattle.fdr.proofs.naming.write_rows.Given as goal

abbrev pub invariant-loop-i : goal.invariant-loop-i
invariant-loop-i l = Writing (λ k. read_at_name l.names l.column (get_or l.slots k 0) (get_or l.labels k (pos 0))) nan
    (length l.slots) l.q l.i
