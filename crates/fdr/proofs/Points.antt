-- What users ask of a competition's q-values, and points that a reader can check by hand: the q-values of ranked rows
-- never fall; document 01's known point; and what one name and two names make of a slot whose two sides are seen.
use mathlib.Core.Path.{◌≡◌, refl}
use mathlib.Core.List.{List, [], ◌∷◌}
use mathlib.Core.Bool.{false}
use Prim.Native.Nat.{ℕ, ◌+◌, ◌<◌}
use native.Mathlib.Numerals.{add-one}
use native.Mathlib.Omega.{arith}
use lib.Dec.{T}
use lib.IntN.{ℤ, pos, negsuc}
use lib.ListN.{length, get_or}
use lib.Ieee.{Float, nan, fin, of_bits, of_int, to_unsigned, add, sub, mul, div, le}
use Rattle.floats.specs.Constants.{f32_one, f32_min}
use Rattle.floats.specs.MinMax.{min_number}
use Rattle.floats.specs.TotalOrder.{before}
use Rattle.columns.specs.Refusals.{ranked_run}
use Rattle.ranking.specs.Ranking.{inserted, ranked_from}
use Rattle.std.specs.Prelude.{Ok}
use Rattle.counting.specs.QValues.{minimum}
use Rattle.counting.proofs.RunningMinimum.{running_minimum_rise}
use Rattle.kde.specs.Bins.{estimator}
use Rattle.kde.proofs.Points.{halves}
use Rattle.competition.specs.Tables.{Table, table_of}
use Rattle.competition.specs.Batches.{no_part}
use Rattle.fdr.specs.declared.Names.{Names}
use Rattle.fdr.specs.declared.Names.TheVariants.{Two, One}
use Rattle.fdr.specs.declared.Settings.{Settings}
use Rattle.fdr.specs.Sides.{Side, ranked_sides}
use Rattle.fdr.specs.SideQValues.{ratios_from, side_q}
use Rattle.fdr.specs.NameQValues.{row_q, rows_q, assign_q_value}
use Rattle.fdr.proofs.Numbers.{length_ratios}

-- ---- the q-values of ranked rows never fall down their list

pub q_rises : (settings : Settings) (bins : List Float) (t : Table) (i : ℕ) → i + 1 < length (ranked_sides t)
    → T (le (get_or (side_q settings bins (ranked_sides t)) i nan)
    (get_or (side_q settings bins (ranked_sides t)) (i + 1) nan))
unfolding side_q
q_rises settings bins t i h =
    rw add-one (running_minimum_rise (ratios_from settings bins f32_one 0 (ranked_sides t)) i (omega (arith, length_ratios settings bins f32_one 0 (ranked_sides t))))

-- ---- under one name a slot's two sides have one q-value

pub one_name_same : (sides : List Side) (qs : List Float) (slot : ℕ) (label label' : ℤ)
    → row_q One sides qs slot label ≡ row_q One sides qs slot label'
one_name_same sides qs slot label label' = refl

-- ---- "two target slots scored 2.0 and 1.0, bins 0.5, 0.25, least 1, step 1: q 0.875 for both, count 0", whatever the
-- columns hold

abbrev pub from_one : Names → Settings
from_one names = record { names = names; estimator = estimator (fin false 1 (pos 0)) (fin false 1 (pos 0)) }

abbrev pub two_targets : Table
two_targets = table_of (fin false 1 (pos 1) ∷ fin false 1 (pos 0) ∷ []) (f32_min ∷ f32_min ∷ []) (1 ∷ 1 ∷ [])
    (0 ∷ 0 ∷ [])

pub two_targets_lem : (names : Names) (a b c d e f g h : ℕ) (x y : Float)
    → assign_q_value (from_one names) halves two_targets (0 ∷ 1 ∷ []) (pos 1 ∷ pos 1 ∷ []) (a ∷ b ∷ c ∷ d ∷ [])
    (e ∷ f ∷ g ∷ h ∷ []) (x ∷ y ∷ [])
    ≡ ranked_run (Ok 0) (0 ∷ 0 ∷ 0 ∷ 0 ∷ []) (0 ∷ 0 ∷ 0 ∷ 0 ∷ [])
    (fin false 7 (negsuc 2) ∷ fin false 7 (negsuc 2) ∷ [])
unfolding assign_q_value ranked_from inserted before le minimum min_number of_bits div add to_unsigned sub mul of_int
two_targets_lem Two a b c d e f g h x y = refl
two_targets_lem One a b c d e f g h x y = refl

-- ---- two sides of a slot: under two names each has its own row's q-value, and under one name both have the later
-- row's. Slot 0 scored 2.0 and, as a decoy, 1.0; slot 1 scored 2.0. A name that no row has, and a row that takes no
-- part, give 1.0.

abbrev pub two_sides : Table
two_sides =
    table_of (fin false 1 (pos 1) ∷ fin false 1 (pos 1) ∷ []) (fin false 1 (pos 0) ∷ f32_min ∷ []) (1 ∷ 1 ∷ [])
    (1 ∷ 0 ∷ [])

abbrev pub bins : List Float
bins = fin false 1 (negsuc 0) ∷ fin false 0 (pos 0) ∷ []

pub two_names : rows_q (from_one Two) bins two_sides (0 ∷ 0 ∷ 1 ∷ 1 ∷ no_part ∷ [])
    (pos 1 ∷ negsuc 0 ∷ pos 1 ∷ negsuc 0 ∷ pos 1 ∷ [])
    ≡ fin false 1 (negsuc 0) ∷ fin false 3 (negsuc 1) ∷ fin false 1 (negsuc 0) ∷ fin false 1 (pos 0) ∷ fin false 1
    (pos 0) ∷ []
unfolding rows_q ranked_from inserted before le minimum min_number of_bits div add to_unsigned sub mul of_int
two_names = refl

pub one_name : rows_q (from_one One) bins two_sides (0 ∷ 0 ∷ 1 ∷ 1 ∷ no_part ∷ [])
    (pos 1 ∷ negsuc 0 ∷ pos 1 ∷ negsuc 0 ∷ pos 1 ∷ [])
    ≡ fin false 3 (negsuc 1) ∷ fin false 3 (negsuc 1) ∷ fin false 1 (negsuc 0) ∷ fin false 1 (negsuc 0) ∷ fin false 1
    (pos 0) ∷ []
unfolding rows_q ranked_from inserted before le minimum min_number of_bits div add to_unsigned sub mul of_int
one_name = refl
