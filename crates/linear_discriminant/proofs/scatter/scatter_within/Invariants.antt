-- `linear_discriminant::scatter::scatter_within` meets its contract: a column of rows written from the front.
use mathlib.Core.List.{[]}
use lib.ListN.{get_or}
use Rattle.folds.proofs.Writing.{Writing}
use Rattle.linear_discriminant.specs.Inner.Passes.{within_row}
use Rattle.linear_discriminant.proofs.scatter.scatter_within.Given as goal

abbrev pub invariant-loop-j : goal.invariant-loop-j
invariant-loop-j l = Writing (within_row (get_or l.tables 0 []) (get_or l.tables 1 []) l.d l.t) [] 20 l.row-items l.j
