-- `counting::how_many` meets its contract: the places are counted from the front (`Counting`).
use Rattle.folds.proofs.Folds.{Counting}
use Rattle.counting.proofs.how_many.Given as goal

abbrev pub invariant-loop-x : goal.invariant-loop-x
invariant-loop-x g l = Counting (λ x. g.T.PartialEq.eq x l.wanted) l.column l.x-index l.count
