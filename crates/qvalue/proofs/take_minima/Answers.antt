-- `qvalue::take_minima` meets its contract: from the place down, the column holds the least of 1.0 and what stood there
-- and after it, and those at most 0.01 are counted (`MinimumWalk`).
use native.Mathlib.Omega.{arith}
use lib.Ieee.{binary32, of_bits, le}
use Rattle.folds.proofs.Tests.{byte_most}
use Rattle.floats.proofs.Ratio.{one_in_100}
use Rattle.counting.proofs.ColumnPasses.{minimum_walk_start, minimum_walk_next, minimum_walk_number, minimum_walk_bound}
use Rattle.qvalue.proofs.take_minima.Goals as goal

pub loop-i-init : goal.loop-i-init
loop-i-init c = minimum_walk_start

pub lower-q_min-requires : goal.lower-q_min-requires
lower-q_min-requires c = minimum_walk_number c.loop-i.invariant

pub overflow_add-passing : goal.overflow_add-passing
overflow_add-passing c =
    omega (arith, minimum_walk_bound c.loop-i.invariant, byte_most (le c.lower-q_min.result (of_bits binary32 1008981770)))

pub loop-i-preserved : goal.loop-i-preserved
loop-i-preserved c = rw (← one_in_100) (minimum_walk_next _ (omega arith) c.loop-i.invariant c.lower-q_min.ensures)
