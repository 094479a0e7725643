-- A table that a call may write: its columns before the call, and what they hold afterwards.
use Rattle.std.specs.Prelude.{List, ℕ, Float}
use Rattle.std.specs.Borrow.{MutBor}
use Rattle.competition.specs.declared.table.TableMut.{TableMut}
use Rattle.competition.specs.Tables.{Table, table_of}

abbrev pub table_before : TableMut → Table
table_before t = table_of t.forward.now t.reverse.now t.forward_seen.now t.reverse_seen.now

-- the four columns once the call is over, in the order of the struct's fields
abbrev pub Returned : Type 0
Returned = MutBor (List Float) × (MutBor (List Float) × (MutBor (List ℕ) × (MutBor (List ℕ) × Unit {0})))

abbrev pub table_after : Returned → Table
table_after t = table_of t.0.now t.1.0.now t.1.1.0.now t.1.1.1.0.now
