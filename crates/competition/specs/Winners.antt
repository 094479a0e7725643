-- Who wins each slot. Document 01, module 5: "The winner is decoy if reverse ≥ forward. The port also gives every seen
-- slot's score() and is_decoy() (1 or 0, a 32-bit number), which the host needs for its densities; an unseen slot has
-- the blanks named below."
use Rattle.std.specs.Prelude.{List, Bool, cond, ◌&&◌, ◌||◌, ℕ, eqb, length, get_or, Float, Ok, Err}
use Rattle.std.specs.Float.{nan}
use Rattle.std.specs.Float.Ieee.{le}
use Rattle.folds.specs.Lists.{filled, tabulated}
use Rattle.floats.specs.MinMax.{max_number}
use Rattle.columns.specs.Refusals.{Asked, if_not, answered}
use Rattle.columns.specs.declared.Refusal.TheVariants.{TooLong, WrongLength}
use Rattle.competition.specs.Tables.{Table, is_seen, table_short, table_fits}

-- a slot is seen where one of its sides is
abbrev pub slot_seen : Table → ℕ → Bool
slot_seen t slot = is_seen (get_or t.forward_seen slot 0) || is_seen (get_or t.reverse_seen slot 0)

-- score(): the greater of both sides' scores, an unseen side's too, as in the Rust; of two zeros the forward one. An
-- unseen slot has NaN.
abbrev pub winner : Table → ℕ → Float
winner t slot = cond (slot_seen t slot) (max_number (get_or t.forward slot nan) (get_or t.reverse slot nan)) nan

-- is_decoy(): 1 or 0, and 4,294,967,295 for an unseen slot
abbrev pub decoy_flag : Table → ℕ → ℕ
decoy_flag t slot =
    cond (slot_seen t slot) (cond (le (get_or t.forward slot nan) (get_or t.reverse slot nan)) 1 0) 4294967295

-- what the call answers, and both result columns afterwards
pub record WinnersRun : Type 0 where
  pub answer : Asked
  pub scores : List Float
  pub flags : List ℕ

abbrev pub winners_run : Asked → List Float → List ℕ → WinnersRun
winners_run answer scores flags = record { answer = answer; scores = scores; flags = flags }

-- questions 1 and 2, of the table and the lengths of both result columns
abbrev pub winners_asked : Table → ℕ → ℕ → Asked
winners_asked t scores flags =
    let slots = length t.forward in
    if_not (table_short t) TooLong (if_not (table_fits t && (eqb scores slots && eqb flags slots)) WrongLength (Ok tt))

-- every slot's score and flag; a refusal leaves the blanks
unfoldable pub winners : Table → List Float → List ℕ → WinnersRun
unfolding tabulated
winners t scores flags =
    let slots = length t.forward in
    answered (winners_asked t (length scores) (length flags))
    (winners_run (Ok tt) (tabulated (winner t) 0 slots) (tabulated (decoy_flag t) 0 slots))
    (λ r. winners_run (Err r) (filled nan scores) (filled 4294967295 flags))
