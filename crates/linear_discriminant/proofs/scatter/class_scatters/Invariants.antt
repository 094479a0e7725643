-- `linear_discriminant::scatter::class_scatters` meets its contract. The invariant: of each class, the table and the
-- kept rows together hold the rows passed (`Gathered`).
use Rattle.gauss.specs.Elimination.{row}
use Rattle.linear_discriminant.specs.Inner.Passes.{centred_row, half_table, half_entry}
use Rattle.linear_discriminant.proofs.KeptRows.{Gathered}
use Rattle.linear_discriminant.proofs.LabelledRows.{Reading}
use Rattle.linear_discriminant.proofs.scatter.class_scatters.Given as goal

abbrev pub invariant-loop-row : goal.invariant-loop-row
invariant-loop-row l =
    Reading l.rows.features.now l.rows.labels.now
    (Gathered l.rows.labels.now (λ c i. centred_row l.rows.features.now i (row l.means c))
    (λ c n. half_table (half_entry l.rows.features.now l.rows.labels.now (row l.means c) c n))
    l.tables l.kept l.filled)
    l.row-iterator.a.rest.now l.row-iterator.b.rest.now
