-- The q-values of precursors read in their order are the counting rule's of the list as ranked, so that those of at
-- most 0.05 are as many as the right line says; what the calls give one after the other is then the definition's.
use mathlib.Core.Path.{◌≡◌, refl, sym, ap, ◌∙◌, subst}
use mathlib.Core.List.{List, map}
use mathlib.Core.Bool.{◌&&◌}
use Prim.Native.Nat.{ℕ, ◌≤◌, ◌<◌}
use native.Mathlib.Omega.{arith}
use borrow.Author.Tests.{leb-true, eqb-true, le-leb, eq-eqb}
use lib.Dec.{leb, eqb}
use lib.IntN.{ℤ, pos}
use lib.ListN.{length, get_or, take, length-map, length-replicate}
use lib.Seq.{ext_get_or}
use lib.Ieee.{Float, nan}
use Rattle.folds.specs.Lists.{filled}
use Rattle.folds.specs.Inner.Each.{Each}
use Rattle.folds.proofs.Tests.{both_true}
use Rattle.folds.proofs.Writing.{tabulated_at, map_at, all_at, same_blank}
use Rattle.std.specs.Prelude.{Result, Ok, Err, IsOk}
use Rattle.columns.specs.Refusals.{Asked, longest, RankedRun, ranked_run}
use Rattle.columns.specs.declared.Refusal.{Refusal}
use Rattle.columns.specs.declared.Refusal.TheVariants.{TooLong, WrongLength}
use Rattle.columns.proofs.Questions.{refused_not_accepted, met, if_accepted, was_accepted}
use Rattle.floats.specs.Ratio.{one_in}
use Rattle.floats.proofs.Ratio.{sharp_20}
use Rattle.counting.specs.Labels.{targets}
use Rattle.counting.specs.QValues.{q_values, count_at_most, targets_at_most}
use Rattle.counting.specs.Lines.{qualifies, RightLine, right_line}
use Rattle.counting.proofs.Lines.{last_in_list, right_line_lem}
use Rattle.counting.proofs.QValues.{q_length, count_is_line}
use Rattle.line_check.specs.Check.{counts_at, line_answer}
use Rattle.line_check.specs.declared.Rate.TheVariants.{OneIn20}
use Rattle.line_check.specs.declared.Counts.{Counts}
use Rattle.line_check.specs.declared.Line.{Line}
use Rattle.line_check.specs.declared.Line.TheVariants.{Right}
use Rattle.ranking.specs.Ranking.{ranked_rows, ranked_order, as_ranked, rank_of}
use Rattle.ranking.proofs.Places.{length_as_ranked, length_order, order_in_bounds, rank_of_place, labels_in_order}
use Rattle.precursor.specs.Precursors.{precursor_q, precursor_asked, picked_precursor}
use Rattle.precursor.specs.Precursors.{order_asked, OrderRun, order_run, precursor_order}
use Rattle.agreement.specs.Checked.{AsCalled, checked_asked, CheckedRun, checked_run, checked_precursors}
use Rattle.agreement.specs.Inner.Ready.{CheckedReady}
use Rattle.agreement.proofs.Demand3.{demand_3}
use Rattle.agreement.proofs.Checked.{right_answer}

-- ---- the questions, and that both calls then accept

pub checked_lengths : (labels scores keys spare ranked order q : ℕ)
    → checked_asked labels scores keys spare ranked order q ≡ Ok tt
    → CheckedReady labels scores keys spare ranked order q
checked_lengths labels scores keys spare ranked order q e =
    let a = met _ TooLong _ e in
    let b = both_true (eqb scores labels) _ (met _ WrongLength _ a.1).0 in
    let c = both_true (eqb keys labels && (eqb spare labels && eqb ranked labels)) _ b.1 in
    let k = both_true (eqb keys labels) _ c.0 in
    let s = both_true (eqb spare labels) _ k.1 in
    let o = both_true (eqb order labels) _ c.1 in
    record {
      short = leb-true labels longest (both_true (leb labels longest) _ a.0).0;
      scores_match = eqb-true scores labels b.0;
      keys_match = eqb-true keys labels k.0;
      spare_match = eqb-true spare labels s.0;
      ranked_match = eqb-true ranked labels s.1;
      order_match = eqb-true order labels o.0;
      q_match = eqb-true q labels o.1;
    }

asks_precursors : (labels scores keys spare q : ℕ) → labels ≤ longest → scores ≡ labels → keys ≡ labels → spare ≡ labels
    → q ≡ labels
    → precursor_asked labels scores keys spare q ≡ Ok tt
asks_precursors labels scores keys spare q s a b c d =
    rw (a, b, c, d, le-leb labels longest s, eq-eqb labels labels refl)

asks_order : (scores keys spare order : ℕ) → scores ≤ longest → keys ≡ scores → spare ≡ scores → order ≡ scores
    → order_asked scores keys spare order ≡ Ok tt
asks_order scores keys spare order s a b c = rw (a, b, c, le-leb scores longest s, eq-eqb scores scores refl)

asks_checked : (labels scores keys spare ranked order q : ℕ) → CheckedReady labels scores keys spare ranked order q
    → checked_asked labels scores keys spare ranked order q ≡ Ok tt
asks_checked labels scores keys spare ranked order q w =
    rw (w.scores_match, w.keys_match, w.spare_match, w.ranked_match, w.order_match, w.q_match, le-leb labels longest w.short, eq-eqb labels labels refl)

-- ---- the q-values in ranked order

q_in_order : (labels : List ℤ) (scores : List Float) → length scores ≡ length labels
    → map (λ row. get_or (precursor_q labels scores) row nan) (ranked_order scores) ≡ q_values (as_ranked labels scores)
unfolding precursor_q
q_in_order labels scores e =
    ext_get_or nan (map read order) Q (length-map order read ∙ length_order scores ∙ sym q_long)
    (λ (i : ℕ) (h : i < length (map read order)).
    let low : i < length scores = omega (arith, length-map order read, length_order scores) in
    let inside = all_at (λ p. p < length scores) 0 order (order_in_bounds scores) i (omega (arith, length_order scores)) in
    map_at read order i 0 nan (omega (arith, length_order scores))
    ∙ tabulated_at (λ p. get_or Q (rank_of (ranked_rows scores) p) nan) (length labels) (get_or order i 0) nan (omega (arith, inside, e))
    ∙ ap (λ (rank : ℕ). get_or Q rank nan) (rank_of_place scores i 0 low))
  where
    order : List ℕ
    order = ranked_order scores

    Q : List Float
    Q = q_values (as_ranked labels scores)

    read : ℕ → Float
    read row = get_or (precursor_q labels scores) row nan

    q_long : length Q ≡ length scores
    q_long = q_length (as_ranked labels scores) ∙ length_as_ranked labels scores

-- the line that they give is answered Right
pub right_at_precursors : (labels : List ℤ) (scores : List Float) → length scores ≤ longest
    → let rows = as_ranked labels scores in
    let line = count_at_most (one_in 20) (q_values rows) in
    line_answer 20 rows line ≡ Ok (Right (counts_at rows line))
right_at_precursors labels scores s =
    let rows = as_ranked labels scores in
    let few : length rows ≤ longest = subst (λ (n : ℕ). n ≤ longest) (sym (length_as_ranked labels scores)) s in
    right_answer OneIn20 rows (count_at_most (one_in 20) (q_values rows)) (right_line 20 rows) few
    (last_in_list (qualifies 20 rows) (length rows)) (right_line_lem 20 rows) (count_is_line rows few 20 (omega arith) sharp_20)

-- ---- what the calls give, one after the other

module _ (labels : List ℤ) (scores : List Float) (keys spare : List ℕ) (ranked : List ℤ) (order : List ℕ)
    (q : List Float)
    (w : CheckedReady (length labels) (length scores) (length keys) (length spare) (length ranked) (length order)
    (length q)) where
  -- the q-values
  module _ (answer : Result ℕ Refusal) (keys₁ spare₁ : List ℕ) (q₁ : List Float)
      (e : ranked_run answer keys₁ spare₁ q₁ ≡ picked_precursor labels scores keys spare q) where
    picked_answer : precursor_asked (length labels) (length scores) (length keys) (length spare) (length q) ≡ Ok tt
        → (picked_precursor labels scores keys spare q).answer
        ≡ Ok (targets_at_most (one_in 20) (as_ranked labels scores) (q_values (as_ranked labels scores)))
    unfolding picked_precursor
    picked_answer a = ap (λ (run : RankedRun). run.answer) (if_accepted _ _ a)

    accepted : picked_precursor labels scores keys spare q
        ≡ ranked_run (picked_precursor labels scores keys spare q).answer (filled 0 keys) (filled 0 spare)
        (precursor_q labels scores)
    unfolding picked_precursor
    accepted =
        let a = asks_precursors _ _ _ _ _ w.short w.scores_match w.keys_match w.spare_match w.q_match in
        rw (if_accepted _ _ a)

    pub picked_ok : IsOk answer
    picked_ok =
        let a = asks_precursors _ _ _ _ _ w.short w.scores_match w.keys_match w.spare_match w.q_match in
        subst (λ (r : Result ℕ Refusal). IsOk r) (sym (ap (λ (run : RankedRun). run.answer) e ∙ picked_answer a)) refl

    pub picked_is : (q₁ ≡ precursor_q labels scores) × (keys₁ ≡ filled 0 keys) × (spare₁ ≡ filled 0 spare)
    picked_is = (
      ap (λ (run : RankedRun). run.q) (e ∙ accepted),
      ap (λ (run : RankedRun). run.keys) (e ∙ accepted),
      ap (λ (run : RankedRun). run.spare) (e ∙ accepted),
    )

  -- and their order
  module _ (answer : Asked) (keys₁ spare₁ keys₂ spare₂ order₂ : List ℕ) (f : keys₁ ≡ filled 0 keys)
      (g : spare₁ ≡ filled 0 spare)
      (e : order_run answer keys₂ spare₂ order₂ ≡ precursor_order scores keys₁ spare₁ order) where
    ordered : precursor_order scores keys₁ spare₁ order
        ≡ order_run (Ok tt) (filled 0 keys₁) (filled 0 spare₁) (ranked_order scores)
    unfolding precursor_order
    ordered =
        let m = sym w.scores_match in
        let k : length keys₁ ≡ length scores = ap length f ∙ length-replicate (length keys) 0 ∙ w.keys_match ∙ m in
        let s : length spare₁ ≡ length scores = ap length g ∙ length-replicate (length spare) 0 ∙ w.spare_match ∙ m in
        rw (if_accepted _ _ (asks_order (length scores) _ _ _ (rw w.scores_match w.short) k s (w.order_match ∙ m)))

    pub order_ok : IsOk answer
    order_ok = subst (λ (r : Asked). IsOk r) (sym (ap (λ (run : OrderRun). run.answer) (e ∙ ordered))) refl

    pub order_is : (order₂ ≡ ranked_order scores) × (keys₂ ≡ filled 0 keys) × (spare₂ ≡ filled 0 spare)
    order_is = (
      ap (λ (run : OrderRun). run.order) (e ∙ ordered),
      ap (λ (run : OrderRun). run.keys) (e ∙ ordered) ∙ same_blank 0 keys₁ keys (ap length f ∙ length-replicate (length keys) 0),
      ap (λ (run : OrderRun). run.spare) (e ∙ ordered) ∙ same_blank 0 spare₁ spare (ap length g ∙ length-replicate (length spare) 0),
    )

  -- the labels and the q-values are read at rows of the list
  pub reads : (order₂ : List ℕ) → order₂ ≡ ranked_order scores → Each (λ row. row < length labels) order₂
  reads order₂ f = rw f (subst (λ (n : ℕ). Each (λ row. row < n) (ranked_order scores)) w.scores_match (order_in_bounds scores))

  -- what is left of each column, and the answer
  pub checked_is : (q₁ : List Float) (keys₂ spare₂ order₂ : List ℕ) (ranked₁ ranked₂ : List ℤ) (line : ℕ)
      (answer : Result Line Refusal)
      → q₁ ≡ precursor_q labels scores → keys₂ ≡ filled 0 keys → spare₂ ≡ filled 0 spare → order₂ ≡ ranked_order scores
      → line ≡ count_at_most (one_in 20) (map (λ row. get_or q₁ row nan) order₂)
      → ranked₁ ≡ map (λ row. get_or labels row (pos 0)) order₂
      → answer ≡ line_answer 20 ranked₁ line → ranked₂ ≡ filled (pos 0) ranked₁
      → checked_run answer keys₂ spare₂ ranked₂ order₂ q₁
      ≡ checked_precursors labels scores keys spare ranked order q
  unfolding checked_precursors
  checked_is q₁ keys₂ spare₂ order₂ ranked₁ ranked₂ line answer q_e keys_e spare_e order_e line_e ranked_e answer_e left_e =
      rw (answer_is, keys_e, spare_e, left_is, order_e, q_e) (sym (if_accepted _ _ (asks_checked _ _ _ _ _ _ _ w)))
    where
      rows_are : ranked₁ ≡ as_ranked labels scores
      rows_are = ranked_e ∙ ap (map (λ row. get_or labels row (pos 0))) order_e ∙ labels_in_order labels scores

      line_is : line ≡ count_at_most (one_in 20) (q_values (as_ranked labels scores))
      line_is = line_e ∙ rw (q_e, order_e) (ap (count_at_most (one_in 20)) (q_in_order labels scores w.scores_match))

      answer_is : answer
          ≡ Ok (Right (counts_at (as_ranked labels scores)
          (count_at_most (one_in 20) (q_values (as_ranked labels scores)))))
      answer_is = answer_e ∙ rw (rows_are, line_is) (right_at_precursors labels scores (rw w.scores_match w.short))

      left_is : ranked₂ ≡ filled (pos 0) ranked
      left_is =
          left_e
          ∙ same_blank (pos 0) ranked₁ ranked
          (ap length rows_are ∙ length_as_ranked labels scores ∙ w.scores_match ∙ sym w.ranked_match)

-- ---- what an accepted call says of the two calls that it makes

pub as_called : (labels : List ℤ) (scores : List Float) (keys spare : List ℕ) (ranked : List ℤ) (order : List ℕ)
    (q : List Float) (counts : Counts)
    → let run = checked_precursors labels scores keys spare ranked order q in
    run.answer ≡ Ok (Right counts)
    → AsCalled labels scores (picked_precursor labels scores keys spare q) (precursor_order scores keys spare order) run
    counts
unfolding checked_precursors picked_precursor precursor_order
as_called labels scores keys spare ranked order q counts e = record {
  counts_are = a.1 ∙ ap (counts_at rows) (sym row_is);
  right = subst (RightLine 20 rows) (sym (row_is ∙ line_is)) (right_line_lem 20 rows);
  count_is_targets = picked_answer ∙ ap Ok (targets_are ∙ sym (ap (λ (c : Counts). c.targets) a.1));
  same_q =
      ap (λ (run : CheckedRun). run.q) (if_accepted _ _ a.0)
      ∙ sym (ap (λ (run : RankedRun). run.q) (if_accepted _ _ picks));
  same_order =
      ap (λ (run : CheckedRun). run.order) (if_accepted _ _ a.0)
      ∙ sym (ap (λ (run : OrderRun). run.order) (if_accepted _ _ orders));
}
  where
    rows : List ℤ
    rows = as_ranked labels scores

    line : ℕ
    line = count_at_most (one_in 20) (q_values rows)

    a : (checked_asked (length labels) (length scores) (length keys) (length spare) (length ranked) (length order)
        (length q) ≡ Ok tt) × (counts ≡ counts_at rows line)
    a =
        let after : Result Line Refusal → List ℕ → List Float → CheckedRun =
        λ answer. checked_run answer (filled 0 keys) (filled 0 spare) (filled (pos 0) ranked) in
        let b = was_accepted (λ (run : CheckedRun). run.answer)
        (checked_asked (length labels) (length scores) (length keys) (length spare) (length ranked) (length order) (length q))
        (after (Ok (Right (counts_at rows line))) (ranked_order scores) (precursor_q labels scores))
        (λ r. after (Err r) (filled 4294967295 order) (filled nan q)) refused_not_accepted e in
        (b.0, cc)

    w : CheckedReady (length labels) (length scores) (length keys) (length spare) (length ranked) (length order)
        (length q)
    w = checked_lengths _ _ _ _ _ _ _ a.0

    few : length rows ≤ longest
    few = subst (λ (n : ℕ). n ≤ longest) (sym (length_as_ranked labels scores)) (rw w.scores_match w.short)

    row_is : counts.row ≡ line
    row_is = ap (λ (c : Counts). c.row) a.1

    line_is : line ≡ right_line 20 rows
    line_is = count_is_line rows few 20 (omega arith) sharp_20

    picks : precursor_asked (length labels) (length scores) (length keys) (length spare) (length q) ≡ Ok tt
    picks = asks_precursors _ _ _ _ _ w.short w.scores_match w.keys_match w.spare_match w.q_match

    orders : order_asked (length scores) (length keys) (length spare) (length order) ≡ Ok tt
    orders =
        let m = sym w.scores_match in
        asks_order (length scores) _ _ _ (rw w.scores_match w.short) (w.keys_match ∙ m) (w.spare_match ∙ m) (w.order_match ∙ m)

    picked_answer : (picked_precursor labels scores keys spare q).answer
        ≡ Ok (targets_at_most (one_in 20) rows (q_values rows))
    picked_answer = ap (λ (run : RankedRun). run.answer) (if_accepted _ _ picks)

    targets_are : targets_at_most (one_in 20) rows (q_values rows) ≡ targets (take line rows)
    targets_are =
        (demand_3.precursors labels scores keys spare q _ (right_line 20 rows) picked_answer
        (last_in_list (qualifies 20 rows) (length rows)) (right_line_lem 20 rows)).count_is_targets
        ∙ ap (λ (n : ℕ). targets (take n rows)) (sym line_is)
