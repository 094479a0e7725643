-- Competition tables. Document 01, module 5: "Each side starts at f32::MIN and unseen. A row raises its side by max and
-- marks it seen (mark 1; any lent mark but 0 reads as seen), even if its score is NaN."
use Rattle.std.specs.Prelude.{List, Bool, not, ◌&&◌, ℕ, leb, eqb, length, Float, Ok, Err}
use Rattle.floats.specs.Constants.{f32_min}
use Rattle.folds.specs.Lists.{filled}
use Rattle.columns.specs.Refusals.{longest, Asked, if_not, answered}
use Rattle.columns.specs.declared.Refusal.TheVariants.{TooLong, WrongLength}

-- one entry per slot in each column
pub record Table : Type 0 where
  pub forward : List Float
  pub reverse : List Float
  pub forward_seen : List ℕ
  pub reverse_seen : List ℕ

abbrev pub table_of : List Float → List Float → List ℕ → List ℕ → Table
table_of forward reverse forward_seen reverse_seen =
    record { forward = forward; reverse = reverse; forward_seen = forward_seen; reverse_seen = reverse_seen }

-- "any lent mark but 0 reads as seen"
abbrev pub is_seen : ℕ → Bool
is_seen mark = not (eqb mark 0)

-- "Is every list at most 16,777,215 long?", of a table
abbrev pub table_short : Table → Bool
table_short t =
    leb (length t.forward) longest && (leb (length t.reverse) longest
    && (leb (length t.forward_seen) longest && leb (length t.reverse_seen) longest))

-- "Do all lent columns have the stated length (… one per entry …)?", of a table
abbrev pub table_fits : Table → Bool
table_fits t =
    let slots = length t.forward in
    eqb (length t.reverse) slots && (eqb (length t.forward_seen) slots && eqb (length t.reverse_seen) slots)

-- what a call answers, and the table afterwards
pub record TableRun : Type 0 where
  pub answer : Asked
  pub table : Table

abbrev pub table_run : Asked → Table → TableRun
table_run answer table = record { answer = answer; table = table }

-- questions 1 and 2
abbrev pub fresh_asked : Table → Asked
fresh_asked t = if_not (table_short t) TooLong (if_not (table_fits t) WrongLength (Ok tt))

-- "Each side starts at f32::MIN and unseen"; after a refusal "Competition tables … are unchanged"
unfoldable pub fresh_table : Table → TableRun
fresh_table t =
    let forward = filled f32_min t.forward in
    let reverse = filled f32_min t.reverse in
    answered (fresh_asked t)
    (table_run (Ok tt) (table_of forward reverse (filled 0 t.forward_seen) (filled 0 t.reverse_seen)))
    (λ r. table_run (Err r) t)
