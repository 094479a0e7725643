-- The pivot is the largest signed entry of its column, the last among equals: that is what each turn of the search
-- keeps. And what the definitions leave out of the Rust's loops: a test that always passes, and a row that is read
-- again at each entry though no turn changes it.
use mathlib.Core.Path.{◌≡◌, refl, ap, ◌∙◌, subst}
use mathlib.Core.Logic.{◌⊎◌, inl, inr, ◌≢◌}
use mathlib.Core.List.{[]}
use mathlib.Core.Bool.{Bool, true, false, cond}
use Prim.Native.Nat.{ℕ, suc, ◌+◌, ◌-◌, ◌≤◌, ◌<◌, zero-le}
use native.Mathlib.Omega.{arith}
use borrow.Author.Tests.{lt-ltb}
use denote.Floats.{passes}
use lib.Dec.{T, ltb}
use lib.Ieee.{Float, nan, is_nan, binary64, of_bits, neg, div, eq, le, lt}
use lib.Ieee.Bits.{is_true}
use lib.ListN.{get_or, set}
use lib.Seq.{get_or-set_other}
use Rattle.folds.specs.Walks.{for_range}
use Rattle.folds.proofs.Tests.{lt_or_ge}
use Rattle.folds.proofs.Walks.{steps_keep, for_range_keeps, for_range_alike}
use Rattle.floats.specs.Constants.{f64_min, f64_zero}
use Rattle.floats.proofs.Order.{le_right, le_refl, le_trans, lt→le, lt→not_le, not_le→lt}
use Rattle.gauss.specs.declared.Pivot.{Pivot}
use Rattle.gauss.specs.Elimination.{Vector, Matrix, row, entry, set_entry, swapped, larger, pivot_row, subtract_entry, row_subtracted}
use Rattle.gauss.specs.Elimination.{clear_row, cleared_below, echelon_column, clear_row_above, cleared_above}

-- ---- "The pivot is the largest signed entry, not the largest size; among equals the last row wins."

-- p is the pivot's row in column k, of the rows from h on; entries below f64::MIN and NaN do not count
pub record Largest (size h k : ℕ) (m : Matrix) (p : ℕ) : Type 0 where
  pub in_rows : (h ≤ p) × (p < size)
  pub at_least : (i : ℕ) → h ≤ i → i < size → le f64_min (entry m i k) ≡ true → le (entry m i k) (entry m p k) ≡ true
  pub above_later : (i : ℕ) → p < i → i < size → le f64_min (entry m i k) ≡ true → lt (entry m i k) (entry m p k) ≡ true

module _ (h k : ℕ) (m : Matrix) where
  -- the pair after the rows before j: row 0 and f64::MIN where no entry counts, else the pivot of those rows
  record Best (j : ℕ) (max : Pivot) : Type 0 where
    low : T (le f64_min max.value)
    picked : ((max.value ≡ f64_min) × ((i : ℕ) → h ≤ i → i < j → T (le f64_min (entry m i k)) → ⊥))
        ⊎ ((max.value ≡ entry m max.row k) × (h ≤ max.row) × (max.row < j))
    most : (i : ℕ) → h ≤ i → i < j → T (le f64_min (entry m i k)) → T (le (entry m i k) max.value)
    later : (i : ℕ) → h ≤ i → max.row < i → i < j → T (le f64_min (entry m i k)) → T (lt (entry m i k) max.value)

  -- what is so before j, and at j, is so before j + 1
  up_to : (Q : ℕ → Type 0) (j : ℕ) → ((i : ℕ) → i < j → Q i) → Q j → (i : ℕ) → i < suc j → Q i
  up_to Q j before at i u = elim (lt_or_ge i j) [
    | inl l ↦ before i l
    | inr l ↦ (let e : j ≡ i = omega arith in subst Q e at)
  ]

  best_start : Best h (record { row = 0; value = f64_min })
  unfolding is_nan neg of_bits
  best_start =
      record {
        low = le_refl f64_min tt;
        picked = inl (refl, λ i l u. absurd (none i l u));
        most = λ i l u. absurd (none i l u);
        later = λ i l g u. absurd (none i l u);
      }
    where
      none : (i : ℕ) → h ≤ i → i < h → ⊥
      none i l u = omega arith

  best_turn : (j : ℕ) → h ≤ j → (max : Pivot) → Best j max → Best (suc j) (larger m k j max)
  best_turn j at max w = go (le max.value (entry m j k)) refl
    where
      x : Float
      x = entry m j k

      counts : ℕ → Type 0
      counts i = T (le f64_min (entry m i k))

      taken : T (le max.value x) → Best (suc j) (record { row = j; value = x })
      taken t =
          record {
            low = le_trans f64_min max.value x w.low t;
            picked = inr (refl, at, omega arith);
            most = λ i l u. up_to (λ i. h ≤ i → counts i → T (le (entry m i k) x)) j
                (λ i u l c. le_trans (entry m i k) max.value x (w.most i l u c) t)
                (λ l c. le_refl x (le_right max.value x t))
                i u l;
            later = λ i l g u. absurd (none i g u);
          }
        where
          none : (i : ℕ) → j < i → i < suc j → ⊥
          none i g u = omega arith

      left : (T (le max.value x) → ⊥) → Best (suc j) max
      left f =
          record {
            low = w.low;
            picked = elim w.picked [
              | inl p ↦ inl (p.0, λ i l u. up_to (λ i. h ≤ i → counts i → ⊥) j (λ i u l. p.1 i l u) (λ l c. f (rw p.0 c)) i u l)
              | inr p ↦ inr (p.0, p.1, omega arith)
            ];
            most = λ i l u. up_to (λ i. h ≤ i → counts i → T (le (entry m i k) max.value)) j
                (λ i u l. w.most i l u)
                (λ l c. lt→le x max.value (under c))
                i u l;
            later = λ i l g u. up_to (λ i. h ≤ i → max.row < i → counts i → T (lt (entry m i k) max.value)) j
                (λ i u l g. w.later i l g u)
                (λ l g c. under c)
                i u l g;
          }
        where
          under : T (le f64_min x) → T (lt x max.value)
          under c = not_le→lt x max.value (le_right f64_min x c) (le_right f64_min max.value w.low) f

      go : (b : Bool) → le max.value x ≡ b → Best (suc j) (cond b (record { row = j; value = x }) max)
      go true e = taken (passes (le max.value x) e)
      go false e = left (λ t. subst T e t)

pub pivot_is_largest : (size h k : ℕ) (m : Matrix) (i : ℕ) → h ≤ i → i < size → le f64_min (entry m i k) ≡ true
    → Largest size h k m (pivot_row size h k m)
unfolding pivot_row
pivot_is_largest size h k m i l u c = elim best.picked [
  | inl p ↦ absurd (p.1 i l u (passes _ c))
  | inr p ↦ record {
    in_rows = (p.1, p.2);
    at_least = λ i l u c. is_true _ (rw (← p.0) (best.most i l u (passes _ c)));
    above_later = λ i g u c. is_true _ (rw (← p.0) (best.later i (omega arith) g u (passes _ c)));
  }
]
  where
    pair : Pivot
    pair = for_range (larger m k) h size (record { row = 0; value = f64_min })

    best : Best h k m size pair
    best =
        for_range_keeps (Best h k m) (larger m k) h size (record { row = 0; value = f64_min }) (omega arith) (best_start h k m)
        (λ j l u. best_turn h k m j l)

-- no other row is that
pub pivot_only : (size h k : ℕ) (m : Matrix) (i : ℕ) → h ≤ i → i < size → le f64_min (entry m i k) ≡ true
    → (p : ℕ) → Largest size h k m p
    → p ≡ pivot_row size h k m
pivot_only size h k m i l u c p w = elim (lt_or_ge p q) [
  | inl g ↦ absurd (clash p q w v g)
  | inr g ↦ elim (lt_or_ge q p) [ inl g ↦ absurd (clash q p v w g) | inr f ↦ omega arith ]
]
  where
    q : ℕ
    q = pivot_row size h k m

    v : Largest size h k m q
    v = pivot_is_largest size h k m i l u c

    counts : (p : ℕ) → Largest size h k m p → T (le f64_min (entry m p k))
    counts p w = le_trans f64_min (entry m i k) (entry m p k) (passes _ c) (passes _ (w.at_least i l u c))

    clash : (p q : ℕ) → Largest size h k m p → Largest size h k m q → p < q → ⊥
    clash p q w v g =
        lt→not_le (entry m q k) (entry m p k)
        (passes _ (w.above_later q g v.in_rows.1 (is_true _ (counts q v))))
        (passes _ (v.at_least p w.in_rows.0 w.in_rows.1 (is_true _ (counts p w))))

-- ---- echelon: while h < m && k < n

-- a turn of the Rust's loop with both tests: past the last row, nothing more is done
abbrev pub echelon_column_tested : ℕ → ℕ → ℕ × Matrix → ℕ × Matrix
echelon_column_tested size k s = cond (ltb s.0 size) (echelon_column size k s) s

-- h goes up with k or stays
column_turn : (size k : ℕ) (s : ℕ × Matrix) → s.0 ≤ k → (echelon_column size k s).0 ≤ suc k
column_turn size k s h = go (eq (entry s.1 i k) f64_zero) (cleared_below size s.0 k (swapped s.0 i s.1))
  where
    i : ℕ
    i = pivot_row size s.0 k s.1

    go : (skip : Bool) (t : Matrix) → (cond skip s (s.0 + 1, t)).0 ≤ suc k
    go true t = omega arith
    go false t = omega arith

-- there are no more pivots than columns
pub pivots_at_most_columns : (size k : ℕ) (m : Matrix) → (for_range (echelon_column size) 0 k (0, m)).0 ≤ k
pivots_at_most_columns size k m =
    for_range_keeps (λ k s. s.0 ≤ k) (echelon_column size) 0 k (0, m) zero-le zero-le
    (λ k l u. column_turn size k)

-- so the columns end the loop
pub rows_never_end_first : (size : ℕ) (m : Matrix)
    → for_range (echelon_column_tested size) 0 size (0, m) ≡ for_range (echelon_column size) 0 size (0, m)
rows_never_end_first size m =
    for_range_alike (λ k s. s.0 ≤ k) (echelon_column size) (echelon_column_tested size) 0 size (0, m) zero-le
    (λ k l u s h. (ap (λ (b : Bool). cond b (echelon_column size k s) s) (lt-ltb s.0 size (omega arith)), column_turn size k s h))

-- ---- clearing rows, with the pivot row read from the table at each entry, as the Rust reads it

-- left[(i, j)] -= left[(h, j)] * factor, for each column from `start` on, and for the right-hand number
abbrev pub subtract_entry_anew : ℕ → ℕ → Float → ℕ → Matrix → Matrix
subtract_entry_anew h i factor j m = subtract_entry (row m h) i factor j m

abbrev pub row_subtracted_anew : ℕ → ℕ → ℕ → ℕ → Float → Matrix → Matrix
row_subtracted_anew h size i start factor m =
    subtract_entry_anew h i factor 20 (for_range (subtract_entry_anew h i factor) start size m)

-- the turn of echelon, below row h, and that of backfill, above it
abbrev pub clear_row_anew : ℕ → ℕ → ℕ → ℕ → Matrix → Matrix
clear_row_anew h size k i m =
    row_subtracted_anew h size i (k + 1) (div binary64 (entry m i k) (entry m h k)) (set_entry i k f64_zero m)

abbrev pub clear_row_above_anew : ℕ → ℕ → ℕ → ℕ → Matrix → Matrix
clear_row_above_anew h size j k m = row_subtracted_anew h size k 0 (div binary64 (entry m k j) (entry m h j)) m

-- a row i that is not row h: the table's row h stays p
module _ (p : Vector) (h i : ℕ) (other : h ≢ i) where
  elsewhere : (j : ℕ) (x : Float) (m : Matrix) → row m h ≡ p → row (set_entry i j x m) h ≡ p
  elsewhere j x m e = get_or-set_other m i h (set (row m i) j x) [] other ∙ e

  entry_alike : (factor : Float) (j : ℕ) (m : Matrix) → row m h ≡ p
      → (subtract_entry_anew h i factor j m ≡ subtract_entry p i factor j m)
      × (row (subtract_entry p i factor j m) h ≡ p)
  entry_alike factor j m e = (ap (λ (p : Vector). subtract_entry p i factor j m) e, elsewhere j _ m e)

  row_alike : (size start : ℕ) (factor : Float) (m : Matrix) → row m h ≡ p
      → (row_subtracted_anew h size i start factor m ≡ row_subtracted p size i start factor m)
      × (row (row_subtracted p size i start factor m) h ≡ p)
  unfolding row_subtracted
  row_alike size start factor m e =
      let same = for_range_alike (λ j t. row t h ≡ p) (subtract_entry p i factor) (subtract_entry_anew h i factor) start size m e (λ j l u. entry_alike factor j) in
      let kept = steps_keep (λ j t. row t h ≡ p) (subtract_entry p i factor) start (size - start) m e (λ j l u t e. (entry_alike factor j t e).1) in
      let last = entry_alike factor 20 (for_range (subtract_entry p i factor) start size m) kept in
      (ap (subtract_entry_anew h i factor 20) same ∙ last.0, last.1)

-- read anew at each row, the pivot row gives the same
pub pivot_row_stays : (size h k : ℕ) (m : Matrix)
    → for_range (clear_row_anew h size k) (h + 1) size m ≡ cleared_below size h k m
unfolding cleared_below
pivot_row_stays size h k m = for_range_alike (λ i t. row t h ≡ p) (clear_row p size k) (clear_row_anew h size k) (h + 1) size m refl turn
  where
    p : Vector
    p = row m h

    turn : (i : ℕ) → h + 1 ≤ i → i < size → (t : Matrix) → row t h ≡ p
        → (clear_row_anew h size k i t ≡ clear_row p size k i t) × (row (clear_row p size k i t) h ≡ p)
    turn i l u t e =
        let other : h ≢ i = λ (e : h ≡ i). omega arith in
        let factor : Vector → Float = λ p. div binary64 (entry t i k) (get_or p k nan) in
        let cleared = set_entry i k f64_zero t in
        let alike = row_alike p h i other size (k + 1) (factor p) cleared (elsewhere p h i other k f64_zero t e) in
        (ap (λ (p : Vector). row_subtracted_anew h size i (k + 1) (factor p) cleared) e ∙ alike.0, alike.1)

-- and so does the row found, above it
pub found_row_stays : (size i j : ℕ) (m : Matrix)
    → for_range (clear_row_above_anew i size j) 0 i m ≡ cleared_above size i j m
unfolding cleared_above
found_row_stays size i j m = for_range_alike (λ k t. row t i ≡ p) (clear_row_above p size j) (clear_row_above_anew i size j) 0 i m refl turn
  where
    p : Vector
    p = row m i

    turn : (k : ℕ) → 0 ≤ k → k < i → (t : Matrix) → row t i ≡ p
        → (clear_row_above_anew i size j k t ≡ clear_row_above p size j k t)
        × (row (clear_row_above p size j k t) i ≡ p)
    turn k l u t e =
        let other : i ≢ k = λ (e : i ≡ k). omega arith in
        let factor : Vector → Float = λ p. div binary64 (entry t k j) (get_or p j nan) in
        let alike = row_alike p i k other size 0 (factor p) t e in
        (ap (λ (p : Vector). row_subtracted_anew i size k 0 (factor p) t) e ∙ alike.0, alike.1)
