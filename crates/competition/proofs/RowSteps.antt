-- One row's step on a table, and the rows of a batch one after the other.
use mathlib.Core.Path.{◌≡◌, refl, sym, ap, ◌∙◌}
use mathlib.Core.List.{List, ◌∷◌}
use mathlib.Core.Logic.{◌⊎◌, inl, inr}
use mathlib.Core.Bool.{Bool, true, false, cond}
use Prim.Native.Nat.{ℕ, ◌<◌, ◌^◌}
use native.Mathlib.Omega.{arith}
use borrow.Author.Tests.{eq-eqb, ne_eqb}
use lib.Dec.{eqb}
use lib.IntN.{ℤ}
use lib.Signed.{mag}
use lib.ListN.{length, get_or, set, length-set}
use lib.Ieee.{Float, nan}
use mir.Syntax.{w32}
use mir.Val.{SFits, of_z, to_z}
use mir.ValLaws.{to_z-of_z}
use Rattle.std.proofs.lemmas.List.{nil_from_length}
use Rattle.folds.proofs.Tests.{both_true}
use Rattle.floats.specs.MinMax.{max_number}
use Rattle.counting.specs.Labels.{is_decoy}
use Rattle.counting.proofs.Tally.{label_test}
use Rattle.competition.specs.declared.Competition.{Competition}
use Rattle.competition.specs.Tables.{Table, table_of}
use Rattle.competition.specs.Batches.{Batch, no_part, raise_forward, raise_reverse, with_row, added, allowed, all_allowed}
use Rattle.competition.specs.Inner.Ready.{RowReady, BatchReady}
use Rattle.competition.proofs.Questions.{slot_in_bounds}

-- ---- a decoy's row raises the reverse side, and a target's the forward one

module _ (slot : ℕ) (label : ℤ) (score : Float) (t : Table) (e : slot ≡ no_part → ⊥) (fits : SFits w32 label) where
  pub decoy_row : of_z w32 label ≡ 4294967295 → {entry : Competition}
      → entry
      ≡ record { forward = get_or t.forward slot nan; reverse = max_number (get_or t.reverse slot nan) score }
      → table_of t.forward (set t.reverse slot entry.reverse) t.forward_seen (set t.reverse_seen slot 1)
      ≡ with_row slot label score t
  decoy_row d r = rw (ne_eqb slot no_part e, sym (label_test label fits.sfits) ∙ eq-eqb (of_z w32 label) 4294967295 d, r)

  pub target_row : (of_z w32 label ≡ 4294967295 → ⊥) → {entry : Competition}
      → entry
      ≡ record { forward = max_number (get_or t.forward slot nan) score; reverse = get_or t.reverse slot nan }
      → table_of (set t.forward slot entry.forward) t.reverse (set t.forward_seen slot 1) t.reverse_seen
      ≡ with_row slot label score t
  target_row d r = rw (ne_eqb slot no_part e, sym (label_test label fits.sfits) ∙ ne_eqb (of_z w32 label) 4294967295 d, r)

-- ---- no column gets longer or shorter

pub record SameLengths (t u : Table) : Type 0 where
  pub forward : length t.forward ≡ length u.forward
  pub reverse : length t.reverse ≡ length u.reverse
  pub forward_seen : length t.forward_seen ≡ length u.forward_seen
  pub reverse_seen : length t.reverse_seen ≡ length u.reverse_seen

pub same_lengths_refl : {t : Table} → SameLengths t t
same_lengths_refl = record { forward = refl; reverse = refl; forward_seen = refl; reverse_seen = refl }

pub same_lengths_trans : {t u v : Table} → SameLengths t u → SameLengths u v → SameLengths t v
same_lengths_trans p q = record {
  forward = p.forward ∙ q.forward;
  reverse = p.reverse ∙ q.reverse;
  forward_seen = p.forward_seen ∙ q.forward_seen;
  reverse_seen = p.reverse_seen ∙ q.reverse_seen;
}

pub row_lengths : (slot : ℕ) (label : ℤ) (score : Float) (t : Table) → SameLengths (with_row slot label score t) t
row_lengths slot label score t = go (eqb slot no_part) (is_decoy label)
  where
    go : (n d : Bool) → SameLengths (cond n t (cond d (raise_reverse slot score t) (raise_forward slot score t))) t
    go true d = same_lengths_refl
    go false true = record {
      forward = refl;
      reverse = length-set t.reverse slot _;
      forward_seen = refl;
      reverse_seen = length-set t.reverse_seen slot 1;
    }
    go false false = record {
      forward = length-set t.forward slot _;
      reverse = refl;
      forward_seen = length-set t.forward_seen slot 1;
      reverse_seen = refl;
    }

-- ---- the loop over a batch: the rows to come make of the present table what all rows make of the first one

pub record Adding (b : Batch) (t₀ t : Table) (slots : List ℕ) (labels : List ℤ) (scores : List Float) : Type 0 where
  pub same : SameLengths t t₀
  pub labels_length : length labels ≡ length slots
  pub scores_length : length scores ≡ length slots
  pub left : all_allowed (length t₀.forward) slots ≡ true
  pub is : added slots labels scores t ≡ added b.slots b.labels b.scores t₀

-- one of the columns has come to its end, and so have the others
pub adding_done : {b : Batch} {t₀ t : Table} {slots : List ℕ} {labels : List ℤ} {scores : List Float}
    → Adding b t₀ t slots labels scores → ((length slots ≡ 0) ⊎ (length labels ≡ 0)) ⊎ (length scores ≡ 0)
    → t ≡ added b.slots b.labels b.scores t₀
unfolding added
adding_done {b} {t₀} {t} {slots} {labels} {scores} w h =
    let n = w.labels_length in
    let m = w.scores_length in
    let none : length slots ≡ 0 = elim h [ inl k ↦ elim k [ inl l ↦ l | inr l ↦ omega arith ] | inr k ↦ omega arith ] in
    ap (λ (l : List ℕ). added l labels scores t) (sym (nil_from_length slots none)) ∙ w.is

module _ {b : Batch} {t₀ t : Table} {slots slots' : List ℕ} {labels : List ℤ} {scores : List Float} {slot : ℕ}
    (ready : BatchReady b t₀) (w : Adding b t₀ t slots labels scores) (slots_are : slots ≡ slot ∷ slots')
  where
    next : (allowed (length t₀.forward) slot ≡ true) × (all_allowed (length t₀.forward) slots' ≡ true)
    unfolding all_allowed
    next =
        both_true (allowed (length t₀.forward) slot) (all_allowed (length t₀.forward) slots')
        (ap (all_allowed (length t₀.forward)) (sym slots_are) ∙ w.left)

    -- what `add_row` asks
    pub adding_row : RowReady slot t
    adding_row =
        let s = w.same in
        let l = ready.lengths in
        record {
          in_table = λ n. omega (arith, slot_in_bounds (length t₀.forward) slot next.0 n, s.forward);
          lengths = record {
            reverse_length = s.reverse ∙ l.reverse_length ∙ sym s.forward;
            forward_seen_length = s.forward_seen ∙ l.forward_seen_length ∙ sym s.forward;
            reverse_seen_length = s.reverse_seen ∙ l.reverse_seen_length ∙ sym s.forward;
          };
        }

    -- a label comes from its 32 bits
    pub adding_step : {labels' : List ℤ} {scores' : List Float} {label : ℤ} {score : Float}
        → labels ≡ label ∷ labels' → scores ≡ score ∷ scores' → mag label < 2 ^ 31
        → {forward reverse : List Float} {forward_seen reverse_seen : List ℕ}
        → table_of forward reverse forward_seen reverse_seen ≡ with_row slot (to_z w32 (of_z w32 label)) score t
        → Adding b t₀ (table_of forward reverse forward_seen reverse_seen) slots' labels' scores'
    unfolding added
    adding_step {labels'} {scores'} {label} {score} labels_are scores_are fits e =
        rw (e, to_z-of_z w32 label (record { sfits = fits }))
        (record {
          same = same_lengths_trans (row_lengths slot label score t) w.same;
          labels_length = let n = w.labels_length in omega (arith, ap length slots_are, ap length labels_are);
          scores_length = let n = w.scores_length in omega (arith, ap length slots_are, ap length scores_are);
          left = next.1;
          is = rw (slots_are, labels_are, scores_are) at w.is;
        })
