-- Precursors. Document 01, module 6: "Precursors are ranked by the narrowed peak score (module 5's ranking), and the
-- q-values go back to the original places; the count takes targets at or under 0.05".
use Rattle.std.specs.Prelude.{List, ◌&&◌, ℕ, leb, eqb, ℤ, length, get_or, Float, Ok, Err}
use Rattle.std.specs.Float.{nan}
use Rattle.folds.specs.Lists.{filled, tabulated}
use Rattle.columns.specs.Refusals.{longest, Asked, if_not, answered, RankedRun, ranked_run}
use Rattle.columns.specs.declared.Refusal.TheVariants.{TooLong, WrongLength}
use Rattle.floats.specs.Ratio.{one_in}
use Rattle.counting.specs.QValues.{q_values, targets_at_most}
use Rattle.ranking.specs.Ranking.{ranked_rows, ranked_order, as_ranked, rank_of}

-- ---- the q-values

-- of the list as ranked, each at its row's original place
unfoldable pub precursor_q : List ℤ → List Float → List Float
precursor_q labels scores =
    let q = q_values (as_ranked labels scores) in
    tabulated (λ place. get_or q (rank_of (ranked_rows scores) place) nan) 0 (length labels)

-- questions 1 and 2: short lists, and one entry per precursor in each column
abbrev pub precursor_asked : ℕ → ℕ → ℕ → ℕ → ℕ → Asked
precursor_asked labels scores keys spare q =
    if_not (leb labels longest && leb scores longest) TooLong
    (if_not (eqb scores labels && (eqb keys labels && (eqb spare labels && eqb q labels))) WrongLength (Ok tt))

-- the q-values, and how many targets have one of at most 0.05; a refusal leaves NaN in every place
unfoldable pub picked_precursor : List ℤ → List Float → List ℕ → List ℕ → List Float → RankedRun
picked_precursor labels scores keys spare q =
    let rows = as_ranked labels scores in
    let passing = targets_at_most (one_in 20) rows (q_values rows) in
    answered (precursor_asked (length labels) (length scores) (length keys) (length spare) (length q))
    (ranked_run (Ok passing) (filled 0 keys) (filled 0 spare) (precursor_q labels scores))
    (λ r. ranked_run (Err r) (filled 0 keys) (filled 0 spare) (filled nan q))

-- ---- the order. Module 7: "a line of a precursor list counts its rows as ranked".

-- what the call answers, and its columns afterwards
pub record OrderRun : Type 0 where
  pub answer : Asked
  pub keys : List ℕ
  pub spare : List ℕ
  pub order : List ℕ

abbrev pub order_run : Asked → List ℕ → List ℕ → List ℕ → OrderRun
order_run answer keys spare order = record { answer = answer; keys = keys; spare = spare; order = order }

-- questions 1 and 2, without labels
abbrev pub order_asked : ℕ → ℕ → ℕ → ℕ → Asked
order_asked scores keys spare order =
    if_not (leb scores longest) TooLong
    (if_not (eqb keys scores && (eqb spare scores && eqb order scores)) WrongLength (Ok tt))

-- the place of the row at each rank; a refusal leaves 4,294,967,295 in every place
unfoldable pub precursor_order : List Float → List ℕ → List ℕ → List ℕ → OrderRun
precursor_order scores keys spare order =
    answered (order_asked (length scores) (length keys) (length spare) (length order))
    (order_run (Ok tt) (filled 0 keys) (filled 0 spare) (ranked_order scores))
    (λ r. order_run (Err r) (filled 0 keys) (filled 0 spare) (filled 4294967295 order))
