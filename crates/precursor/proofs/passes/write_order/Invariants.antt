-- `precursor::passes::write_order` meets its contract: each place of the column gets the place of its key (`Writing`).
use mathlib.Core.List.{map}
use lib.ListN.{length, get_or}
use Rattle.folds.proofs.Writing.{Writing}
use Rattle.ranking.specs.Inner.Layout.{place_of}
use Rattle.precursor.proofs.passes.write_order.Given as goal

abbrev pub invariant-loop-i : goal.invariant-loop-i
invariant-loop-i l = Writing (λ k. get_or (map place_of l.keys) k 0) 0 (length l.keys) l.order l.i
