-- `competition::add_rows` meets its contract: a turn is a row's step on the table (`Adding`).
use Rattle.std.specs.Slice.Iter.{iter_rest}
use Rattle.std.specs.Iterator.Adapters.{zip_first, zip_second}
use Rattle.competition.specs.Tables.{table_of}
use Rattle.competition.proofs.RowSteps.{Adding}
use Rattle.competition.proofs.batch.add_rows.Given as goal

abbrev pub invariant-loop-slot : goal.invariant-loop-slot
invariant-loop-slot l =
    let rows = l.slot-iterator in
    Adding l.batch
    (table_of l.initial.forward l.initial.reverse l.initial.forward_seen l.initial.reverse_seen)
    (table_of l.forward l.reverse l.forward_seen l.reverse_seen)
    (iter_rest (zip_first (zip_first rows))) (iter_rest (zip_second (zip_first rows))) (iter_rest (zip_second rows))
