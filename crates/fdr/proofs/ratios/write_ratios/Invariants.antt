-- `fdr::ratios::write_ratios` meets its contract: the rows up to i have their ratios (`Summing`).
use Rattle.fdr.proofs.Sums.{Summing}
use Rattle.fdr.proofs.ratios.write_ratios.Given as goal

abbrev pub invariant-loop-key : goal.invariant-loop-key
invariant-loop-key l = Summing l.settings l.bins l.table l.initial.keys l.key-index l.decoy l.target l.keys
