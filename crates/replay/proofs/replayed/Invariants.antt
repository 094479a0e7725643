-- At most the cases so far differ.
use Rattle.std.proofs.Common.{◌≤◌}
use Rattle.replay.proofs.replayed.Given as goal

abbrev pub invariant-loop-case : goal.invariant-loop-case
invariant-loop-case g l = l.differing ≤ l.case
