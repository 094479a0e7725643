-- `fdr::naming::name_q_values` meets its contract: what is left of the rows is to be written over the column
-- (`Naming`).
use Rattle.fdr.proofs.NameColumn.{Naming}
use Rattle.fdr.proofs.naming.name_q_values.Given as goal

abbrev pub invariant-loop-key : goal.invariant-loop-key
invariant-loop-key l = Naming l.names l.keys l.initial.column l.key-index l.column
