-- Q-values and lines. A row's own ratio is at most one in k exactly where the row qualifies; the running minimum
-- carries that to "this row or a later one qualifies", which is "this row is not past the right line".
use mathlib.Core.Path.{◌≡◌, sym, ap, fun_ext, ◌∙◌}
use mathlib.Core.Logic.{inl, inr}
use mathlib.Core.List.{List, map}
use mathlib.Core.Bool.{true, false}
use Prim.Native.Nat.{ℕ, zero, suc, ◌+◌, ◌-◌, ◌^◌, ◌≤◌, ◌<◌}
use native.Mathlib.Nat.{zero-lt-suc, add_comm}
use native.Mathlib.Numerals.{add-one}
use native.Mathlib.Omega.{arith}
use denote.Floats.{passes}
use lib.Dec.{T, leb, leb→le, le→leb}
use lib.IntN.{ℤ}
use lib.ListN.{length, take, drop, get_or, length-drop}
use lib.Seq.{get_or-drop}
use lib.Ieee.{Float, nan, binary32, of_bits, round, lt, le}
use lib.Ieee.Bits.{is_true}
use Rattle.folds.proofs.Tests.{same_test}
use Rattle.floats.specs.Ratio.{one_in}
use Rattle.floats.proofs.Order.{lt_of_le_of_lt, lt_of_lt_of_le}
use Rattle.floats.proofs.Ratio.{Sharp, one_rounding, ratio_at_most, ratio_none, ratio_mono}
use Rattle.counting.specs.Labels.{is_decoy, decoys, targets}
use Rattle.counting.specs.Lines.{qualifies, right_line}
use Rattle.counting.specs.QValues.{ratio, ratio_at, ratios, minimum, q_values, count_at_most}
use Rattle.counting.proofs.Labels.{row_counts, same_decoys, same_targets, same_length}
use Rattle.counting.proofs.Lines.{last_in_list, last_own, last_upper}
use Rattle.folds.proofs.Writing.{length_tabulated, get_d_tabulated}
use Rattle.counting.proofs.RunningMinimum.{minimum_most, minimum_above, minimum_of, minimum_from, length_running_minimum, running_minimum_at, running_minimum_rise, count_up}

-- ---- the columns

pub length_ratios : (labels : List ℤ) → length (ratios labels) ≡ length labels
unfolding ratios
length_ratios labels = length_tabulated (ratio_at labels) 1 (length labels)

pub ratios_at : (labels : List ℤ) (i : ℕ) (d : Float) → i < length labels
    → get_or (ratios labels) i d ≡ ratio_at labels (i + 1)
unfolding ratios
ratios_at labels i d h = get_d_tabulated (ratio_at labels) 1 (length labels) i d h ∙ ap (ratio_at labels) (add_comm 1 i)

pub q_length : (labels : List ℤ) → length (q_values labels) ≡ length labels
unfolding q_values
q_length labels = length_running_minimum (ratios labels) ∙ length_ratios labels

q_at : (labels : List ℤ) (i : ℕ) → i < length labels → get_or (q_values labels) i nan ≡ minimum (drop i (ratios labels))
unfolding q_values
q_at labels i h = running_minimum_at (ratios labels) i nan (rw length_ratios h)

-- the ratios from a place on
from_at : (labels : List ℤ) (i j : ℕ) → j < length (drop i (ratios labels)) → i + j < length labels
from_at labels i j h = omega (arith, rw (length-drop, length_ratios) at h)

-- ---- what users ask

-- a q column never falls down the list
pub q_rises : (labels : List ℤ) (i : ℕ) → i + 1 < length labels
    → T (le (get_or (q_values labels) i nan) (get_or (q_values labels) (i + 1) nan))
unfolding q_values
q_rises labels i h = rw add-one (running_minimum_rise (ratios labels) i (omega (arith, length_ratios labels)))

-- a q-value is at most 1
pub q_at_most_one : (labels : List ℤ) (i : ℕ) → i < length labels
    → T (le (get_or (q_values labels) i nan) (of_bits binary32 0x3F800000))
q_at_most_one labels i h = rw (q_at labels i h) (minimum_most (drop i (ratios labels)))

-- above +0.0
abbrev above_none : Float → Type 0
above_none x = T (lt (of_bits binary32 0) x)

ratio_above : (d t : ℕ) → 0 < d → d ≤ 2 ^ 24 → t ≤ 2 ^ 24 → above_none (ratio d t)
ratio_above d zero p h k = rw (ratio_none d p h) (unfold lt of_bits in tt)
ratio_above d (suc t) p h k =
    rw (one_rounding d (suc t) h (zero-lt-suc t) k)
    (lt_of_lt_of_le (of_bits binary32 0) (round binary32 false 1 (2 ^ 24)) (round binary32 false d (suc t)) (unfold lt of_bits round in tt)
    (ratio_mono 1 (2 ^ 24) d (suc t) (omega arith) (omega arith) (omega arith)))

module _ (labels : List ℤ) (short : length labels ≤ 16777215) where
  -- and above 0
  pub q_above_none : (i : ℕ) → i < length labels → T (lt (of_bits binary32 0) (get_or (q_values labels) i nan))
  unfolding ratio_at
  q_above_none i h =
      rw (q_at labels i h)
      (minimum_above (of_bits binary32 0) (unfold lt of_bits in tt) (drop i (ratios labels)) (λ (j : ℕ) (l : j < length (drop i (ratios labels))).
      let r = row_counts (i + j + 1) labels in
      rw (get_or-drop, ratios_at labels (i + j) nan (from_at labels i j l))
      (ratio_above (decoys (take (i + j + 1) labels) + 1) (targets (take (i + j + 1) labels)) (omega arith) (omega arith) (omega arith))))

  -- ---- rows and lines

  module _ (k : ℕ) (K : 1 < k) (sharp : Sharp k) where
    below_one : T (lt (one_in k) (of_bits binary32 0x3F800000))
    unfolding one_in
    below_one =
        lt_of_le_of_lt (round binary32 false 1 k) (round binary32 false 1 2) (of_bits binary32 0x3F800000)
        (ratio_mono 1 k 1 2 (omega arith) (omega arith) (omega arith)) (unfold lt round of_bits in tt)

    ratio_qualifies : (row : ℕ) → le (ratio_at labels row) (one_in k) ≡ qualifies k labels row
    unfolding ratio_at
    ratio_qualifies row =
        let r = row_counts row labels in
        ratio_at_most k (omega arith) sharp (decoys (take row labels) + 1) (targets (take row labels)) (omega arith) (omega arith) (omega arith)

    -- one of the ratios from a place on
    from_qualifies : (i j : ℕ) → j < length (drop i (ratios labels))
        → le (get_or (drop i (ratios labels)) j nan) (one_in k) ≡ qualifies k labels (i + j + 1)
    from_qualifies i j h = rw (get_or-drop, ratios_at labels (i + j) nan (from_at labels i j h)) (ratio_qualifies (i + j + 1))

    -- this row or a later one qualifies
    low_qualifies : (i : ℕ) → T (le (minimum (drop i (ratios labels))) (one_in k)) → i + 1 ≤ right_line k labels
    low_qualifies i t =
        let w = minimum_from (one_in k) below_one (drop i (ratios labels)) t in
        let row = i + w.0 + 1 in
        let q : qualifies k labels row ≡ true = sym (from_qualifies i w.0 w.1) ∙ is_true _ w.2 in
        let h : row ≤ length labels = omega (arith, from_at labels i w.0 w.1) in
        omega (arith, last_upper (qualifies k labels) (length labels) row q h)

    qualifies_low : (i : ℕ) → i + 1 ≤ right_line k labels → T (le (minimum (drop i (ratios labels))) (one_in k))
    qualifies_low i h =
        let line = right_line k labels in
        let j = line - (i + 1) in
        let l : j < length (drop i (ratios labels)) =
        rw (length-drop, length_ratios) (omega (arith, last_in_list (qualifies k labels) (length labels))) in
        let row : i + j + 1 ≡ line = omega arith in
        elim (last_own (qualifies k labels) (length labels)) [
          | inl e ↦ absurd (omega (arith, e))
          | inr e ↦ minimum_of (one_in k) (drop i (ratios labels)) j l (passes _ (from_qualifies i j l ∙ ap (qualifies k labels) row ∙ e))
        ]

    -- the rows with a q-value of at most one in k are those up to the right line
    pub q_at_most : (i : ℕ) → i < length labels
        → le (get_or (q_values labels) i nan) (one_in k) ≡ leb (i + 1) (right_line k labels)
    q_at_most i h =
        rw (q_at labels i h)
        (same_test (le (minimum (drop i (ratios labels))) (one_in k)) (leb (i + 1) (right_line k labels))
        (λ t. le→leb (i + 1) (right_line k labels) (low_qualifies i t)) (λ t. qualifies_low i (leb→le (i + 1) (right_line k labels) t)))

    -- and they are as many
    pub count_is_line : count_at_most (one_in k) (q_values labels) ≡ right_line k labels
    count_is_line =
        count_up (one_in k) (q_values labels) (right_line k labels) (rw q_length (last_in_list (qualifies k labels) (length labels)))
        (λ (i : ℕ) (h : i < length (q_values labels)). q_at_most i (rw q_length at h) ∙ rw add-one)

-- targets may have any other target numbers
pub same_q : (ls ls' : List ℤ) → map is_decoy ls ≡ map is_decoy ls' → q_values ls ≡ q_values ls'
unfolding q_values ratios ratio_at
same_q ls ls' e =
    let r : ratio_at ls ≡ ratio_at ls' = fun_ext (λ row. rw (same_decoys ls ls' e row, same_targets ls ls' e row)) in
    rw (same_length ls ls' e, r)
