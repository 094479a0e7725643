-- Demand 3 is proved from two laws of `counting`: exactly one line is right, and a row's q-value is at most one in k
-- exactly up to that line. What the line check answers is `line_check`'s; the rest takes the calls' definitions apart
-- where they accept.
use mathlib.Core.Path.{◌≡◌, refl, sym, ap, ap₂, ◌∙◌, subst}
use mathlib.Core.Logic.{inl, inr}
use mathlib.Core.List.{List, [], ◌∷◌}
use mathlib.Core.Bool.{Bool, true, false, cond, true≢false}
use Prim.Native.Nat.{ℕ, zero, suc, ◌≤◌, ◌<◌, max}
use native.Mathlib.Nat.{zero-lt-suc, eq-or-lt_of_le}
use native.Mathlib.Numerals.{add-one}
use native.Mathlib.Omega.{arith}
use lib.Dec.{leb, leb-zero, leb-suc-suc, leb-suc-zero}
use lib.IntN.{ℤ, pos}
use lib.ListN.{length, get_or, take}
use lib.Ieee.{Float, nan, le}
use Rattle.folds.specs.Lists.{filled}
use Rattle.folds.proofs.Tests.{lt_or_ge}
use Rattle.folds.proofs.Writing.{tabulated_at, map_at, all_at}
use Rattle.std.specs.Prelude.{Result, Ok, Err}
use Rattle.columns.specs.declared.Refusal.{Refusal}
use Rattle.columns.specs.Refusals.{Asked, longest, RankedRun, ranked_run}
use Rattle.columns.proofs.Questions.{refused_not_accepted, if_accepted, was_accepted}
use Rattle.floats.specs.Ratio.{one_in}
use Rattle.floats.proofs.Ratio.{sharp_100, sharp_20}
use Rattle.counting.specs.Labels.{is_decoy, targets}
use Rattle.counting.specs.Lines.{qualifies, RightLine, right_line}
use Rattle.counting.specs.QValues.{q_values, count_at_most, targets_at_most}
use Rattle.counting.proofs.Lines.{last_in_list, right_line_lem, right_line_only}
use Rattle.counting.proofs.QValues.{q_length, q_at_most, count_is_line}
use Rattle.qvalue.specs.Spectrum.{SpectrumRun, spectrum_run, spectrum_asked, spectrum_q_value}
use Rattle.qvalue.proofs.Questions.{spectrum_lengths}
use Rattle.line_check.specs.Check.{per_of}
use Rattle.line_check.proofs.Check.{wrong_row, right_answered, wrong_answered}
use Rattle.ranking.specs.Ranking.{ranked_rows, ranked_order, as_ranked, rank_of}
use Rattle.ranking.proofs.Places.{length_as_ranked, length_order, order_in_bounds, rank_below}
use Rattle.ranking.proofs.Places.{place_at_rank, rank_of_place, labels_in_order}
use Rattle.precursor.specs.Precursors.{precursor_asked, precursor_q, picked_precursor}
use Rattle.precursor.specs.Precursors.{order_asked, OrderRun, order_run, precursor_order}
use Rattle.precursor.specs.Inner.Ready.{PrecursorReady}
use Rattle.precursor.proofs.Questions.{precursor_lengths}
use Rattle.agreement.specs.Demand3.{OneRight, LastQualifying, OneLast, LineCheck, Spectra, Precursors, Order, Demand3}

-- ---- lines

exactly_one_right : (rate : ℕ) (labels : List ℤ) → OneRight rate labels
exactly_one_right rate labels = record {
  line = right_line rate labels;
  listed = last_in_list (qualifies rate labels) (length labels);
  right = right_line_lem rate labels;
  only = λ other h r. right_line_only rate labels other r h;
}

last_qualifying : (rate : ℕ) (labels : List ℤ) (line : ℕ)
    → LastQualifying rate labels line (max line (right_line rate labels))
last_qualifying rate labels line = record {
  none_after = λ later h l. (right_line_lem rate labels).none_later later (omega arith) l;
  which = elim (wrong_row rate labels line) [
    | inl w ↦ inr (w.0, omega (arith, w.0, last_in_list (qualifies rate labels) (length labels)), w.1)
    | inr w ↦ inl w.0
  ];
}

-- of two such rows neither is the later one: no row after the other qualifies, and the line is not after it
none_later : (rate : ℕ) (labels : List ℤ) (line a b : ℕ) → LastQualifying rate labels line a
    → LastQualifying rate labels line b → a < b → ⊥
none_later rate labels line a b p q h = elim q.which [
  | inl e ↦ elim p.which [ inl f ↦ omega (arith, e, f, h) | inr f ↦ omega (arith, e, f.0, h) ]
  | inr g ↦ true≢false (sym g.2 ∙ p.none_after b h g.1)
]

last_only : (rate : ℕ) (labels : List ℤ) (line other : ℕ) → LastQualifying rate labels line other
    → other ≡ max line (right_line rate labels)
last_only rate labels line other w =
    let row = max line (right_line rate labels) in
    let is = last_qualifying rate labels line in
    elim (lt_or_ge other row) [
      | inl h ↦ absurd (none_later rate labels line other row w is h)
      | inr h ↦ elim (eq-or-lt_of_le h) [
        | inl e ↦ sym e
        | inr g ↦ absurd (none_later rate labels line row other is w g)
      ]
    ]

abbrev one_last : (rate : ℕ) (labels : List ℤ) (line : ℕ) → OneLast rate labels line
one_last rate labels line = record {
  row = max line (right_line rate labels);
  last = last_qualifying rate labels line;
  only = last_only rate labels line;
}

check : (rate : ℕ) (labels : List ℤ) (line : ℕ) → length labels ≤ longest → line ≤ length labels
    → LineCheck rate labels line
check rate labels line s l = record {
  if_right = right_answered rate labels line s l;
  if_wrong = λ n. (one_last rate labels line, wrong_answered rate labels line s l n);
}

-- ---- spectra

module _ (labels : List ℤ) (q : List Float) (count line : ℕ) (a : (spectrum_q_value labels q).answer ≡ Ok count)
    (l : line ≤ length labels) (r : RightLine 100 labels line) where
  took : (spectrum_asked (length labels) (length q) ≡ Ok tt) × (count ≡ count_at_most (one_in 100) (q_values labels))
  unfolding spectrum_q_value
  took =
      let passing = count_at_most (one_in 100) (q_values labels) in
      let w = was_accepted (λ (w : SpectrumRun). w.answer) (spectrum_asked (length labels) (length q))
      (spectrum_run (Ok passing) (q_values labels)) (λ r. spectrum_run (Err r) (filled nan q)) refused_not_accepted a in
      (w.0, cc)

  pub short : length labels ≤ longest
  short = (spectrum_lengths (length labels) (length q) took.0).1

  line_is : right_line 100 labels ≡ line
  line_is = sym (right_line_only 100 labels line r l)

  spectra : Spectra labels q count line
  unfolding spectrum_q_value
  spectra = record {
    count_is_line = took.1 ∙ count_is_line labels short 100 (omega arith) sharp_100 ∙ line_is;
    rows = λ i h.
        ap (λ (w : SpectrumRun). le (get_or w.q i nan) (one_in 100)) (if_accepted _ _ took.0)
        ∙ q_at_most labels short 100 (omega arith) sharp_100 i h
        ∙ ap₂ leb (add-one i) line_is;
  }

-- ---- precursors

-- where the q-values up to a line are at most c, and no others, the targets counted are those up to the line
targets_up : (c : Float) (ls : List ℤ) (qs : List Float) (line : ℕ) → length qs ≡ length ls
    → ((i : ℕ) → i < length ls → le (get_or qs i nan) c ≡ leb (suc i) line)
    → targets_at_most c ls qs ≡ targets (take line ls)
unfolding targets_at_most targets
targets_up c [] qs line e g = none line
  where
    none : (line : ℕ) → 0 ≡ targets (take line [])
    none zero = refl
    none (suc line) = refl
targets_up c (l ∷ ls) [] line e g = let z : 0 ≡ suc (length ls) = e in absurd (omega arith)
targets_up c (l ∷ ls) (q ∷ qs) zero e g =
    rw (g 0 (zero-lt-suc (length ls)), targets_up c ls qs zero (omega (arith, e)) (λ (i : ℕ) (h : i < length ls). g (suc i) (omega arith) ∙ leb-suc-zero (suc i) ∙ sym (leb-suc-zero i)))
    (same (is_decoy l))
  where
    same : (b : Bool) → ◌≡◌ {A = ℕ} (cond b 0 0) 0
    same true = refl
    same false = refl
targets_up c (l ∷ ls) (q ∷ qs) (suc line) e g =
    rw (g 0 (zero-lt-suc (length ls)), leb-suc-suc, leb-zero, targets_up c ls qs line (omega (arith, e)) (λ (i : ℕ) (h : i < length ls). g (suc i) (omega arith) ∙ leb-suc-suc (suc i) line))

module _ (labels : List ℤ) (scores : List Float) (keys spare : List ℕ) (q : List Float) (count line : ℕ)
    (a : (picked_precursor labels scores keys spare q).answer ≡ Ok count)
    (l : line ≤ length (as_ranked labels scores))
    (r : RightLine 20 (as_ranked labels scores) line) where
  let_in : (precursor_asked (length labels) (length scores) (length keys) (length spare) (length q) ≡ Ok tt)
      × (count ≡ targets_at_most (one_in 20) (as_ranked labels scores) (q_values (as_ranked labels scores)))
  unfolding picked_precursor
  let_in =
      let rows = as_ranked labels scores in
      let after : Result ℕ Refusal → List Float → RankedRun = λ answer. ranked_run answer (filled 0 keys) (filled 0 spare) in
      let w = was_accepted (λ (w : RankedRun). w.answer)
      (precursor_asked (length labels) (length scores) (length keys) (length spare) (length q))
      (after (Ok (targets_at_most (one_in 20) rows (q_values rows))) (precursor_q labels scores))
      (λ r. after (Err r) (filled nan q)) refused_not_accepted a in
      (w.0, cc)

  lengths : (length labels ≡ length scores) × PrecursorReady (length scores) (length keys) (length spare) (length q)
  lengths = precursor_lengths _ _ _ _ _ let_in.0

  few : length (as_ranked labels scores) ≤ longest
  few = subst (λ (n : ℕ). n ≤ longest) (sym (length_as_ranked labels scores)) lengths.1.short

  right_is : right_line 20 (as_ranked labels scores) ≡ line
  right_is = sym (right_line_only 20 (as_ranked labels scores) line r l)

  ranked_rows_lem : (i : ℕ) → i < length (as_ranked labels scores)
      → le (get_or (q_values (as_ranked labels scores)) i nan) (one_in 20) ≡ leb (suc i) line
  ranked_rows_lem i h = q_at_most (as_ranked labels scores) few 20 (omega arith) sharp_20 i h ∙ ap₂ leb (add-one i) right_is

  precursors : Precursors labels scores (picked_precursor labels scores keys spare q).q count line
  unfolding picked_precursor precursor_q
  precursors = record {
    count_is_targets = let_in.1
        ∙ targets_up (one_in 20) (as_ranked labels scores) (q_values (as_ranked labels scores)) line (q_length (as_ranked labels scores)) ranked_rows_lem;
    rows = λ place h.
        let f : ℕ → Float = λ p. get_or (q_values (as_ranked labels scores)) (rank_of (ranked_rows scores) p) nan in
        let i : rank_of (ranked_rows scores) place < length (as_ranked labels scores) =
        subst (λ (m : ℕ). rank_of (ranked_rows scores) place < m) (sym (length_as_ranked labels scores))
        (rank_below scores place (subst (λ (m : ℕ). place < m) lengths.0 h)) in
        ap (λ (w : RankedRun). le (get_or w.q place nan) (one_in 20)) (if_accepted _ _ let_in.0)
        ∙ ap (λ (x : Float). le x (one_in 20)) (tabulated_at f (length labels) place nan h)
        ∙ ranked_rows_lem (rank_of (ranked_rows scores) place) i;
  }

-- ---- the order of precursors

-- the order of a list, whatever the columns held
in_order : (labels : List ℤ) (scores : List Float) → Order labels scores (ranked_order scores)
in_order labels scores = record {
  as_long = length_order scores;
  ranked = rank_below scores;
  distinct = λ place other h g e.
      sym (place_at_rank scores place 0 h) ∙ ap (λ (rank : ℕ). get_or (ranked_order scores) rank 0) e ∙ place_at_rank scores other 0 g;
  place_there = λ place h. place_at_rank scores place 0 h;
  label_there = λ place h.
      let rank = rank_of (ranked_rows scores) place in
      ap (λ (rows : List ℤ). get_or rows rank (pos 0)) (sym (labels_in_order labels scores))
      ∙ map_at (λ p. get_or labels p (pos 0)) (ranked_order scores) rank 0 (pos 0) (omega (arith, rank_below scores place h, length_order scores))
      ∙ ap (λ (p : ℕ). get_or labels p (pos 0)) (place_at_rank scores place 0 h);
  placed = λ rank h. (
    all_at (λ p. p < length scores) 0 (ranked_order scores) (order_in_bounds scores) rank (omega (arith, length_order scores)),
    rank_of_place scores rank 0 h,
  );
  labels_in_order = labels_in_order labels scores;
}

precursor_order_lem : (labels : List ℤ) (scores : List Float) (keys spare order : List ℕ)
    → (precursor_order scores keys spare order).answer ≡ Ok tt
    → Order labels scores (precursor_order scores keys spare order).order
unfolding precursor_order
precursor_order_lem labels scores keys spare order a =
    let after : Asked → List ℕ → OrderRun = λ answer. order_run answer (filled 0 keys) (filled 0 spare) in
    let e = was_accepted (λ (w : OrderRun). w.answer)
    (order_asked (length scores) (length keys) (length spare) (length order))
    (after (Ok tt) (ranked_order scores)) (λ r. after (Err r) (filled 4294967295 order)) refused_not_accepted a in
    subst (λ (w : OrderRun). Order labels scores w.order) (sym (if_accepted _ _ e.0)) (in_order labels scores)

-- ---- the theorem

pub demand_3 : Demand3
demand_3 = record {
  one_right = λ rate labels. exactly_one_right (per_of rate) labels;
  line_check = λ rate. check (per_of rate);
  spectra = spectra;
  precursors = precursors;
  order = precursor_order_lem;
}
