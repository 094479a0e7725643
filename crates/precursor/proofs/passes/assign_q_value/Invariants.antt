-- `precursor::passes::assign_q_value` meets its contract: `Assigned` is its loop's invariant, at the number of the keys
-- that the iterator has left.
use lib.ListN.{length}
use Rattle.std.specs.Slice.Iter.{iter_rest}
use Rattle.std.specs.Iterator.Adapters.{rev_source}
use Rattle.precursor.proofs.Assigned.{Left, Assigned}
use Rattle.precursor.proofs.passes.assign_q_value.Given as goal

abbrev pub invariant-loop-key : goal.invariant-loop-key
invariant-loop-key l =
    let rest = iter_rest (rev_source l.key-iterator) in
    Left l.keys rest × Assigned l.keys l.initial.q (length rest) l.decoy l.target l.q_min l.passing l.q
