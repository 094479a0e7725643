-- What the questions let pass: every length and bound that the passes ask.
use mathlib.Core.Path.{◌≡◌}
use mathlib.Core.List.{List}
use mathlib.Core.Bool.{◌&&◌}
use Prim.Native.Nat.{ℕ, ◌*◌}
use borrow.Author.Tests.{leb-true, eqb-true}
use lib.Dec.{leb, eqb}
use lib.ListN.{length}
use Rattle.std.specs.Prelude.{Ok}
use Rattle.folds.proofs.Tests.{both_true}
use Rattle.columns.specs.Refusals.{longest}
use Rattle.columns.specs.declared.Refusal.TheVariants.{TooLong, WrongLength, OutOfRange, NoSuchSlot}
use Rattle.columns.proofs.Questions.{met}
use Rattle.kde.specs.Bins.{in_range}
use Rattle.kde.proofs.Questions.{in_range_lem}
use Rattle.competition.specs.Tables.{Table, table_short, table_fits}
use Rattle.competition.specs.Batches.{all_allowed}
use Rattle.competition.proofs.Questions.{lengths_match}
use Rattle.fdr.specs.NameQValues.{assign_asked}
use Rattle.fdr.specs.Inner.Passes.{AssignReady}

pub assign_ready : (t : Table) (bins : ℕ) (slots : List ℕ) (labels keys spare q : ℕ)
    → assign_asked t bins slots labels keys spare q ≡ Ok tt → AssignReady t bins slots labels keys spare q
assign_ready t bins slots labels keys spare q e =
    let n = length t.forward in
    let rows = length slots in
    let first = met (table_short t && (leb rows longest && leb labels longest)) TooLong _ e in
    let second = met (table_fits t && ((eqb labels rows && eqb q rows) && (eqb keys (2 * n) && eqb spare (2 * n)))) WrongLength _ first.1 in
    let third = met (in_range bins) OutOfRange _ second.1 in
    let short = (both_true (table_short t) _ first.0).0 in
    let fits = both_true (table_fits t) _ second.0 in
    let columns = both_true (eqb labels rows && eqb q rows) (eqb keys (2 * n) && eqb spare (2 * n)) fits.1 in
    let results = both_true (eqb labels rows) (eqb q rows) columns.0 in
    let working = both_true (eqb keys (2 * n)) (eqb spare (2 * n)) columns.1 in
    record {
      pack = record {
        short = leb-true n longest (both_true (leb n longest) _ short).0;
        lengths = lengths_match t fits.0;
        keys_length = eqb-true keys (2 * n) working.0;
      };
      spare_length = eqb-true spare (2 * n) working.1;
      labels_length = eqb-true labels rows results.0;
      q_length = eqb-true q rows results.1;
      range = in_range_lem bins third.0;
      slots_allowed = (met (all_allowed n slots) NoSuchSlot (Ok tt) third.1).0;
    }
