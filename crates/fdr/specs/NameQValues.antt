-- The q-values of feature rows, by name. Document 01, module 5: "Each feature row gets the q of its slot's side; 1.0 if
-- its name was never ranked."
use Rattle.std.specs.Prelude.{List, [], ◌∷◌, Bool, cond, ◌&&◌, ℕ, ◌+◌, ◌*◌, leb, eqb, ℤ, pos, length, get_or, Float, Ok, Err}
use Rattle.std.specs.Float.{nan}
use Rattle.folds.specs.Lists.{filled, tabulated}
use Rattle.floats.specs.Constants.{f32_one}
use Rattle.columns.specs.Refusals.{longest, Asked, if_not, answered, RankedRun, ranked_run}
use Rattle.columns.specs.declared.Refusal.TheVariants.{TooLong, WrongLength, OutOfRange, NoSuchSlot}
use Rattle.counting.specs.Labels.{is_decoy}
use Rattle.kde.specs.Bins.{in_range}
use Rattle.competition.specs.Tables.{Table, table_short, table_fits}
use Rattle.competition.specs.Batches.{no_part, all_allowed}
use Rattle.fdr.specs.declared.Names.{Names}
use Rattle.fdr.specs.declared.Names.TheVariants.{Two, One}
use Rattle.fdr.specs.declared.Settings.{Settings}
use Rattle.fdr.specs.Sides.{Side, ranked_sides}
use Rattle.fdr.specs.SideQValues.{side_q, passing}

-- the number of a side's name: "under "two names" each side gets its own row's q"; "Under "one name" both sides get the
-- q of the later ranked row"
abbrev pub name_of : Names → ℕ → Bool → ℕ
name_of Two slot decoy = slot * 2 + cond decoy 1 0
name_of One slot decoy = slot

-- "because the Rust's map overwrites": the q of the last ranked row that has the name, and otherwise the one given
unfoldable pub q_of : Names → List Side → List Float → ℕ → Float → Float
q_of names [] qs name q = q
q_of names (s ∷ ss) [] name q = q
q_of names (s ∷ ss) (x ∷ xs) name q = q_of names ss xs name (cond (eqb (name_of names s.slot s.decoy) name) x q)

-- "Each feature row gets the q of its slot's side; 1.0 if its name was never ranked. Rows that take no part get 1.0"
abbrev pub row_q : Names → List Side → List Float → ℕ → ℤ → Float
row_q names sides qs slot label =
    cond (eqb slot no_part) f32_one (q_of names sides qs (name_of names slot (is_decoy label)) f32_one)

-- every feature row's q-value
unfoldable pub rows_q : Settings → List Float → Table → List ℕ → List ℤ → List Float
unfolding q_of side_q ranked_sides tabulated
rows_q settings bins t slots labels =
    let sides = ranked_sides t in
    let qs = side_q settings bins sides in
    tabulated (λ i. row_q settings.names sides qs (get_or slots i 0) (get_or labels i (pos 0))) 0 (length slots)

-- questions 1, 2, 3 and 5, of a table, rows of these slots, and the lengths of bins, labels, working columns ("two
-- entries per slot") and result
abbrev pub assign_asked : Table → ℕ → List ℕ → ℕ → ℕ → ℕ → ℕ → Asked
assign_asked t bins slots labels keys spare q =
    let rows = length slots in
    let sides = 2 * length t.forward in
    if_not (table_short t && (leb rows longest && leb labels longest)) TooLong
    (if_not (table_fits t && ((eqb labels rows && eqb q rows) && (eqb keys sides && eqb spare sides))) WrongLength
    (if_not (in_range bins) OutOfRange
    (if_not (all_allowed (length t.forward) slots) NoSuchSlot (Ok tt))))

-- every row's q-value, and how many targets pass; a refusal leaves NaN. Working columns "hold 0 in every place
-- afterwards, accepted or refused"
unfoldable pub assign_q_value : Settings → List Float → Table → List ℕ → List ℤ → List ℕ → List ℕ → List Float
    → RankedRun
unfolding all_allowed passing rows_q
assign_q_value settings bins t slots labels keys spare q =
    answered (assign_asked t (length bins) slots (length labels) (length keys) (length spare) (length q))
    (ranked_run (Ok (passing settings bins t)) (filled 0 keys) (filled 0 spare)
    (rows_q settings bins t slots labels))
    (λ r. ranked_run (Err r) (filled 0 keys) (filled 0 spare) (filled nan q))
