-- What the questions let pass: lengths that match and slots in bounds; and that this is all they ask of a batch.
use mathlib.Core.Path.{◌≡◌, refl, ap, ◌∙◌, sym}
use mathlib.Core.Bool.{Bool, true, false, ◌&&◌, ◌||◌}
use Prim.Native.Nat.{ℕ, ◌<◌}
use borrow.Author.Tests.{leb-true, ltb-true, eqb-true, le-leb, eq-eqb}
use lib.Dec.{leb, ltb, eqb}
use lib.ListN.{length}
use Rattle.std.specs.Prelude.{Ok}
use Rattle.folds.proofs.Tests.{both_true}
use Rattle.columns.specs.Refusals.{longest}
use Rattle.columns.specs.declared.Refusal.TheVariants.{TooLong, WrongLength, NoSuchSlot}
use Rattle.columns.proofs.Questions.{met}
use Rattle.competition.specs.Tables.{Table, table_short, table_fits}
use Rattle.competition.specs.Batches.{Batch, no_part, batch_short, batch_fits, allowed, all_allowed, batch_asked}
use Rattle.competition.specs.Winners.{winners_asked}
use Rattle.competition.specs.Inner.Ready.{LengthsMatch, BatchReady, WinnersReady}

pub lengths_match : (t : Table) → table_fits t ≡ true → LengthsMatch t
lengths_match t e =
    let slots = length t.forward in
    let r = both_true (eqb (length t.reverse) slots) _ e in
    let s = both_true (eqb (length t.forward_seen) slots) (eqb (length t.reverse_seen) slots) r.1 in
    record {
      reverse_length = eqb-true _ slots r.0;
      forward_seen_length = eqb-true _ slots s.0;
      reverse_seen_length = eqb-true _ slots s.1;
    }

pub slot_in_bounds : (count slot : ℕ) → allowed count slot ≡ true → (slot ≡ no_part → ⊥) → slot < count
slot_in_bounds count slot e n = go (ltb slot count) refl
  where
    go : (b : Bool) → ltb slot count ≡ b → slot < count
    go true l = ltb-true slot count l
    go false l = absurd (n (eqb-true slot no_part (ap (λ (b : Bool). b || eqb slot no_part) (sym l) ∙ e)))

module _ (b : Batch) (t : Table) where
  pub batch_ready : batch_asked b t ≡ Ok tt → BatchReady b t
  batch_ready e =
      let slots = length b.slots in
      let short = met (batch_short b && table_short t) TooLong _ e in
      let fits = met (batch_fits b && table_fits t) WrongLength _ short.1 in
      let first = both_true (batch_short b) (table_short t) short.0 in
      let second = both_true (batch_fits b) (table_fits t) fits.0 in
      let rows = both_true (eqb (length b.labels) slots) (eqb (length b.scores) slots) second.0 in
      record {
        short = leb-true slots longest (both_true (leb slots longest) _ first.0).0;
        short_table = first.1;
        labels_length = eqb-true _ slots rows.0;
        scores_length = eqb-true _ slots rows.1;
        lengths = lengths_match t second.1;
        slots_allowed = (met (all_allowed (length t.forward) b.slots) NoSuchSlot (Ok tt) fits.1).0;
      }

  pub batch_accepted : BatchReady b t → batch_asked b t ≡ Ok tt
  batch_accepted w =
      let slots = length b.slots in
      let n = length t.forward in
      rw (
        w.labels_length,
        w.scores_length,
        le-leb slots longest w.short,
        w.short_table,
        eq-eqb slots slots refl,
        eq-eqb (length t.reverse) n w.lengths.reverse_length,
        eq-eqb (length t.forward_seen) n w.lengths.forward_seen_length,
        eq-eqb (length t.reverse_seen) n w.lengths.reverse_seen_length,
        w.slots_allowed,
      )

pub winners_ready : (t : Table) (scores flags : ℕ) → winners_asked t scores flags ≡ Ok tt
    → WinnersReady t scores flags
winners_ready t scores flags e =
    let slots = length t.forward in
    let results = eqb scores slots && eqb flags slots in
    let short = met (table_short t) TooLong _ e in
    let fits = both_true (table_fits t) results (met (table_fits t && results) WrongLength (Ok tt) short.1).0 in
    let r = both_true (eqb scores slots) (eqb flags slots) fits.1 in
    record { lengths = lengths_match t fits.0; scores_length = eqb-true scores slots r.0; flags_length = eqb-true flags slots r.1 }
