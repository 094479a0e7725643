-- What the questions let pass.
use mathlib.Core.Path.{◌≡◌, sym, ◌∙◌}
use Prim.Native.Nat.{ℕ}
use borrow.Author.Tests.{leb-true, eqb-true}
use lib.Dec.{leb, eqb}
use Rattle.folds.proofs.Tests.{both_true}
use Rattle.columns.specs.Refusals.{longest}
use Rattle.std.specs.Prelude.{Ok}
use Rattle.columns.specs.declared.Refusal.TheVariants.{TooLong, WrongLength}
use Rattle.columns.proofs.Questions.{met}
use Rattle.precursor.specs.Precursors.{precursor_asked, order_asked}
use Rattle.precursor.specs.Inner.Ready.{PrecursorReady}

pub order_lengths : (scores keys spare order : ℕ) → order_asked scores keys spare order ≡ Ok tt
    → PrecursorReady scores keys spare order
order_lengths scores keys spare order e =
    let a = met (leb scores longest) TooLong _ e in
    let b = both_true (eqb keys scores) _ (met _ WrongLength _ a.1).0 in
    let c = both_true (eqb spare scores) _ b.1 in
    record {
      short = leb-true scores longest a.0;
      keys_match = eqb-true keys scores b.0;
      spare_match = eqb-true spare scores c.0;
      result_match = eqb-true order scores c.1;
    }

pub precursor_lengths : (labels scores keys spare q : ℕ) → precursor_asked labels scores keys spare q ≡ Ok tt
    → (labels ≡ scores) × PrecursorReady scores keys spare q
precursor_lengths labels scores keys spare q e =
    let a = met _ TooLong _ e in
    let b = both_true (eqb scores labels) _ (met _ WrongLength _ a.1).0 in
    let c = both_true (eqb keys labels) _ b.1 in
    let d = both_true (eqb spare labels) _ c.1 in
    let s = sym (eqb-true scores labels b.0) in (
      s,
      record {
        short = leb-true scores longest (both_true (leb labels longest) _ a.0).1;
        keys_match = eqb-true keys labels c.0 ∙ s;
        spare_match = eqb-true spare labels d.0 ∙ s;
        result_match = eqb-true q labels d.1 ∙ s;
      },
    )
