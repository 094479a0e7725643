-- `line_check::last_later` meets its contract: the pass of `Later`, row by row from the line on.
use Prim.Native.Nat.{◌-◌}
use lib.ListN.{length}
use Rattle.line_check.proofs.Later.{Later}
use Rattle.line_check.proofs.last_later.Given as goal

abbrev pub invariant-loop-so_far : goal.invariant-loop-so_far
invariant-loop-so_far l = Later l.per l.labels l.fn.own.row l.last l.so_far l.so_far.row

abbrev pub decreases-loop-so_far : goal.decreases-loop-so_far
decreases-loop-so_far l = length l.labels - l.so_far.row
