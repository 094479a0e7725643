-- `linear_discriminant::scatter::add_pair` meets its contract: two rows are read, the kept rows are added to them one
-- by one, entry by entry, and the two are written back.
use mathlib.Core.Path.{◌≡◌}
use Prim.Native.Nat.{◌+◌, ◌≤◌}
use lib.ListN.{length, get_or}
use lib.Ieee.{nan, binary64, add, mul}
use Rattle.folds.proofs.Writing.{Rewriting}
use Rattle.gauss.specs.Elimination.{entry}
use Rattle.linear_discriminant.specs.Inner.Passes.{accumulated}
use Rattle.linear_discriminant.proofs.scatter.add_pair.Given as goal

abbrev pub invariant-loop-d : goal.invariant-loop-d
invariant-loop-d l =
    Rewriting (λ k. get_or l.initial.a k nan)
    (λ k. add binary64 (get_or l.initial.a k nan) (mul binary64 l.x (entry l.kept l.row-index (l.j + k)))) nan
    12 l.a l.d
    × Rewriting (λ k. get_or l.initial.b k nan)
    (λ k. add binary64 (get_or l.initial.b k nan) (mul binary64 l.y (entry l.kept l.row-index (l.j + k)))) nan
    12 l.b l.d
    × (l.d ≤ l.width)

abbrev pub invariant-loop-row : goal.invariant-loop-row
invariant-loop-row l = (l.row-index ≤ length l.kept)
    × (l.a ≡ accumulated l.width l.kept l.row-index l.j l.j l.table)
    × (l.b ≡ accumulated l.width l.kept l.row-index (l.j + 1) l.j l.table)
