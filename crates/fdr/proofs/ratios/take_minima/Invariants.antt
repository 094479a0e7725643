-- `fdr::ratios::take_minima` meets its contract: the rows from i on have their least ratio (`Minima`).
use Rattle.fdr.proofs.Minima.{Minima}
use Rattle.fdr.proofs.ratios.take_minima.Given as goal

abbrev pub invariant-loop-i : goal.invariant-loop-i
invariant-loop-i l = Minima l.initial.keys l.i l.q_min l.passing l.keys
