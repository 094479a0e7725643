-- `counting::how_many` meets its contract: the places are counted from the front (`Counting`).
use mathlib.Core.Path.{ap, ◌∙◌}
use Rattle.folds.proofs.Folds.{counting_step, counting_done}
use Rattle.counting.proofs.how_many.Goals as goal

pub loop-x-preserved : goal.loop-x-preserved
loop-x-preserved g c =
    let same = c.eq.ensures ∙ ap (λ x. g.T.PartialEq.eq x c.args.wanted) c.x-item.is in
    rw c.from-count.ensures (counting_step c.x-item.result c.eq.result c.loop-x.invariant c.loop-x-test.true same)

pub returns : goal.returns
returns g c = counting_done c.loop-x.invariant c.loop-x-test.false
