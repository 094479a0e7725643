-- `linear_discriminant::fit::sum_rows` meets its contract: a walk over the rows.
use lib.ListN.{length}
use Rattle.folds.proofs.Walks.{Walk}
use Rattle.linear_discriminant.specs.Inner.Passes.{sum_row}
use Rattle.linear_discriminant.proofs.LabelledRows.{Reading}
use Rattle.linear_discriminant.proofs.fit.sum_rows.Given as goal

abbrev pub invariant-loop-row : goal.invariant-loop-row
invariant-loop-row l =
    let rows = l.rows in
    let sum = sum_row rows.features.now rows.labels.now in
    Reading rows.features.now rows.labels.now
    (λ i. Walk sum 0 i (length rows.labels.now) l.initial.sums l.sums)
    l.row-iterator.a.rest.now l.row-iterator.b.rest.now
