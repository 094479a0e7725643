-- `linear_discriminant::scatter::add_kept` meets its contract: a walk over the wide pairs of rows, and one over the
-- others.
use Prim.Native.Nat.{◌-◌}
use lib.ListN.{length}
use Rattle.linear_discriminant.specs.Inner.Passes.{pair_added}
use Rattle.linear_discriminant.proofs.Accumulated.{Evens}
use Rattle.linear_discriminant.proofs.scatter.add_kept.Given as goal

abbrev pub invariant-loop-j : goal.invariant-loop-j
invariant-loop-j l = Evens (pair_added 12 l.kept (length l.kept)) 0 l.j 5 l.initial.table l.table

abbrev pub decreases-loop-j : goal.decreases-loop-j
decreases-loop-j l = 10 - l.j

abbrev pub invariant-loop-j-2 : goal.invariant-loop-j-2
invariant-loop-j-2 l = Evens (pair_added 10 l.kept (length l.kept)) 5 l.j 10 l.initial.table l.table

abbrev pub decreases-loop-j-2 : goal.decreases-loop-j-2
decreases-loop-j-2 l = 20 - l.j
