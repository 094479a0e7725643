-- `qvalue::take_minima` meets its contract: from the place down, the column holds the least of 1.0 and what stood there
-- and after it, and those at most 0.01 are counted (`MinimumWalk`).
use Rattle.floats.specs.Ratio.{one_in}
use Rattle.counting.proofs.ColumnPasses.{MinimumWalk}
use Rattle.qvalue.proofs.take_minima.Given as goal

abbrev pub invariant-loop-i : goal.invariant-loop-i
invariant-loop-i l = MinimumWalk (one_in 100) l.initial.q l.q l.q_min l.passing l.i
