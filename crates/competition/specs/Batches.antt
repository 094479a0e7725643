-- Rows added to a table, a batch at a time. Document 01, module 5: "A row raises its side by max and marks it seen
-- (mark 1 …), even if its score is NaN."
use Rattle.std.specs.Prelude.{List, [], ◌∷◌, ◌++◌, Bool, true, cond, ◌&&◌, ◌||◌, ℕ, leb, ltb, eqb, ℤ, length, get_or, set, Float, Ok, Err}
use Rattle.std.specs.Float.{nan}
use Rattle.floats.specs.MinMax.{max_number}
use Rattle.columns.specs.Refusals.{longest, Asked, if_not, answered}
use Rattle.columns.specs.declared.Refusal.TheVariants.{TooLong, WrongLength, NoSuchSlot}
use Rattle.counting.specs.Labels.{is_decoy}
use Rattle.competition.specs.Tables.{Table, table_of, table_short, table_fits, TableRun, table_run}

-- one entry per row in each column
pub record Batch : Type 0 where
  pub slots : List ℕ
  pub labels : List ℤ
  pub scores : List Float

abbrev pub batch_of : List ℕ → List ℤ → List Float → Batch
batch_of slots labels scores = record { slots = slots; labels = labels; scores = scores }

-- one batch behind another
abbrev pub appended : Batch → Batch → Batch
appended a b = batch_of (a.slots ++ b.slots) (a.labels ++ b.labels) (a.scores ++ b.scores)

-- "Slot 4,294,967,295 marks a row that takes no part (shared peptide)."
abbrev pub no_part : ℕ
no_part = 4294967295

-- "A row raises its side by max and marks it seen"
abbrev pub raise_forward : ℕ → Float → Table → Table
raise_forward slot score t =
    let raised = max_number (get_or t.forward slot nan) score in
    table_of (set t.forward slot raised) t.reverse (set t.forward_seen slot 1) t.reverse_seen

abbrev pub raise_reverse : ℕ → Float → Table → Table
raise_reverse slot score t =
    let raised = max_number (get_or t.reverse slot nan) score in
    table_of t.forward (set t.reverse slot raised) t.forward_seen (set t.reverse_seen slot 1)

-- a decoy's side is the reverse one; a row that takes no part changes nothing
abbrev pub with_row : ℕ → ℤ → Float → Table → Table
with_row slot label score t =
    cond (eqb slot no_part) t (cond (is_decoy label) (raise_reverse slot score t) (raise_forward slot score t))

-- the rows of a batch in their order
unfoldable pub added : List ℕ → List ℤ → List Float → Table → Table
added [] labels scores t = t
added (s ∷ ss) [] scores t = t
added (s ∷ ss) (l ∷ ls) [] t = t
added (s ∷ ss) (l ∷ ls) (x ∷ xs) t = added ss ls xs (with_row s l x t)

-- "Is every list at most 16,777,215 long?" and "Do all lent columns have the stated length …?", of a batch
abbrev pub batch_short : Batch → Bool
batch_short b =
    leb (length b.slots) longest && (leb (length b.labels) longest && leb (length b.scores) longest)

abbrev pub batch_fits : Batch → Bool
batch_fits b = eqb (length b.labels) (length b.slots) && eqb (length b.scores) (length b.slots)

-- "Is each slot below the slot count, or the no-part mark?"
abbrev pub allowed : ℕ → ℕ → Bool
allowed count slot = ltb slot count || eqb slot no_part

unfoldable pub all_allowed : ℕ → List ℕ → Bool
all_allowed count [] = true
all_allowed count (s ∷ ss) = allowed count s && all_allowed count ss

-- questions 1, 2 and 5
abbrev pub batch_asked : Batch → Table → Asked
batch_asked b t =
    if_not (batch_short b && table_short t) TooLong
    (if_not (batch_fits b && table_fits t) WrongLength
    (if_not (all_allowed (length t.forward) b.slots) NoSuchSlot (Ok tt)))

-- the rows added; after a refusal "Competition tables … are unchanged"
unfoldable pub add_rows : Batch → Table → TableRun
unfolding all_allowed added
add_rows b t =
    answered (batch_asked b t)
    (table_run (Ok tt) (added b.slots b.labels b.scores t))
    (λ r. table_run (Err r) t)
