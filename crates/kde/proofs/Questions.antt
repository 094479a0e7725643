-- What the questions' answers say of the numbers that were asked, for what the work after them requires, and what a
-- call leaves where one is not met.
use mathlib.Core.Path.{◌≡◌}
use mathlib.Core.List.{List}
use mathlib.Core.Bool.{Bool, true, ◌&&◌}
use Prim.Native.Nat.{ℕ, ◌≤◌}
use native.Mathlib.Omega.{arith}
use borrow.Author.Tests.{eqb-true}
use lib.Dec.{leb, eqb, leb→le}
use lib.ListN.{length}
use lib.Ieee.{Float}
use Rattle.folds.proofs.Tests.{both_true}
use Rattle.columns.specs.Refusals.{longest}
use Rattle.columns.specs.declared.Refusal.TheVariants.{TooLong, WrongLength, OutOfRange}
use Rattle.std.specs.Prelude.{Ok}
use Rattle.columns.proofs.Questions.{met, asked_lengths}
use Rattle.kde.specs.declared.Builder.{Builder}
use Rattle.kde.specs.Bins.{in_range, InRange, asked, bin_scores_asked, Densities, bins_asked}
use Rattle.kde.specs.Estimate.{errors_asked}
use Rattle.kde.specs.LogErrors.{log_errors_asked}
use Rattle.kde.specs.Inner.BinsReady.{BinsReady}

pub in_range_lem : (bins : ℕ) → in_range bins ≡ true → InRange bins
in_range_lem bins e =
    let k = both_true (leb 1 bins) (leb bins 65536) e in
    (leb→le 1 bins (rw k.0 tt), leb→le bins 65536 (rw k.1 tt))

-- questions 1, 2 and 3, of a list, of lengths that match or not, and of a bin count
record Passed (rows : ℕ) (match : Bool) (bins : ℕ) : Type 0 where
  short : rows ≤ longest
  matches : match ≡ true
  range : InRange bins

passed : (rows : ℕ) (match : Bool) (bins : ℕ)
    → asked rows match bins ≡ Ok tt
    → Passed rows match bins
passed rows match bins e =
    let first = met (leb rows longest) TooLong _ e in
    let second = met match WrongLength _ first.1 in
    let third = met (in_range bins) OutOfRange _ second.1 in
    record { short = leb→le rows longest (rw first.0 tt); matches = second.0; range = in_range_lem bins third.0 }

pub bin_scores_passed : (bins scores column : ℕ) → bin_scores_asked bins scores column ≡ Ok tt
    → InRange bins × (column ≡ bins)
bin_scores_passed bins scores column e =
    let p = passed scores (eqb column bins) bins e in
    (p.range, eqb-true column bins p.matches)

pub errors_passed : (bins scores errors : ℕ) → errors_asked bins scores errors ≡ Ok tt
    → InRange bins × (errors ≡ scores)
errors_passed bins scores errors e =
    let p = passed scores (eqb errors scores) bins e in
    (p.range, eqb-true errors scores p.matches)

pub log_errors_passed : (logs errors : ℕ) → log_errors_asked logs errors ≡ Ok tt → errors ≡ logs
log_errors_passed logs errors e = (asked_lengths logs errors e).0

-- of a builder, the densities and the bins, with counts of the list
module _ (builder : Builder) (listed decoys total : ℕ) (densities : Densities) (bins : List Float) where
  pub bins_passed : bins_asked builder.bins listed (length densities.decoy) (length densities.target) (length bins)
      ≡ Ok tt
      → decoys ≤ total → total ≤ listed
      → BinsReady builder decoys total densities bins
  bins_passed e h k =
      let n = builder.bins in
      let decoy = eqb (length densities.decoy) n in
      let target = eqb (length densities.target) n in
      let p = passed listed (decoy && target && eqb (length bins) n) n e in
      let short = p.short in
      let third = both_true (decoy && target) (eqb (length bins) n) p.matches in
      let second = both_true decoy target third.0 in
      record {
        some = p.range.0;
        decoy_length = eqb-true (length densities.decoy) n second.0;
        target_length = eqb-true (length densities.target) n second.1;
        bins_length = eqb-true (length bins) n third.1;
        decoys_few = h;
        total_few = omega arith;
      }
