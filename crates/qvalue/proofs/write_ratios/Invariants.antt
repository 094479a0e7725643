-- `qvalue::write_ratios` meets its contract: the counts of a row are those of the row before and the label's test
-- (`Tally`), and the column is that of the ratios up to the row (`Rated`).
use Rattle.counting.proofs.ColumnPasses.{Rated}
use Rattle.qvalue.proofs.write_ratios.Given as goal

abbrev pub invariant-loop-i : goal.invariant-loop-i
invariant-loop-i l = Rated l.labels l.q l.decoy l.target l.i
