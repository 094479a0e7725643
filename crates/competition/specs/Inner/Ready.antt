-- What the questions let pass, as the loops over rows and slots ask it.
use Rattle.std.specs.Prelude.{◌≡◌, true, ℕ, ◌≤◌, ◌<◌, length}
use Rattle.columns.specs.Refusals.{longest}
use Rattle.competition.specs.Tables.{Table, table_short}
use Rattle.competition.specs.Batches.{Batch, no_part, all_allowed}

-- a table's columns have one entry per slot
pub record LengthsMatch (t : Table) : Type 0 where
  pub reverse_length : length t.reverse ≡ length t.forward
  pub forward_seen_length : length t.forward_seen ≡ length t.forward
  pub reverse_seen_length : length t.reverse_seen ≡ length t.forward

pub record RowReady (slot : ℕ) (t : Table) : Type 0 where
  pub in_table : (slot ≡ no_part → ⊥) → slot < length t.forward
  pub lengths : LengthsMatch t

pub record BatchReady (b : Batch) (t : Table) : Type 0 where
  pub short : length b.slots ≤ longest
  pub short_table : table_short t ≡ true
  pub labels_length : length b.labels ≡ length b.slots
  pub scores_length : length b.scores ≡ length b.slots
  pub lengths : LengthsMatch t
  pub slots_allowed : all_allowed (length t.forward) b.slots ≡ true

pub record WinnersReady (t : Table) (scores flags : ℕ) : Type 0 where
  pub lengths : LengthsMatch t
  pub scores_length : scores ≡ length t.forward
  pub flags_length : flags ≡ length t.forward
