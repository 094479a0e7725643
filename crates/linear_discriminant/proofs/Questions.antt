-- What the questions of `train` and `score_rows` let pass, and twenty features for each row, asked by quotient and
-- remainder.
use mathlib.Core.Path.{◌≡◌, sym, ◌∙◌}
use mathlib.Core.List.{List}
use mathlib.Core.Bool.{◌&&◌}
use Prim.Native.Nat.{ℕ, ◌-◌, ◌*◌, ◌≤◌}
use native.Mathlib.Omega.{arith}
use lib.Dec.{leb, eqb, leb→le}
use lib.IntN.{ℤ}
use lib.ListN.{length}
use borrow.Author.Tests.{eqb-true}
use Rattle.folds.proofs.Tests.{both_true}
use Rattle.std.specs.Prelude.{Ok}
use Rattle.columns.specs.Refusals.{longest, Asked}
use Rattle.columns.specs.declared.Refusal.TheVariants.{TooLong, WrongLength}
use Rattle.columns.proofs.Questions.{met}
use Rattle.counting.specs.Labels.{decoys, targets}
use Rattle.linear_discriminant.specs.Fit.{train_asked}
use Rattle.linear_discriminant.proofs.Classes.{rest_targets, decoys_at_most}

-- asked of the decoys counted and of what is left of the rows
pub train_asked_lem : (features : ℕ) (labels : List ℤ) {d : ℕ} {o : Asked} → d ≡ decoys labels
    → o ≡ train_asked features (length labels) d (length labels - d)
    → train_asked features (length labels) (decoys labels) (targets labels) ≡ o
train_asked_lem features labels {d} e f = sym (f ∙ rw (rest_targets labels e, e))

-- what `fit` requires
pub counts_fit : (features : ℕ) (labels : List ℤ) {d : ℕ} → d ≡ decoys labels
    → train_asked features (length labels) d (length labels - d) ≡ Ok tt
    → ((d ≤ longest) × (length labels - d ≤ longest) × (features ≡ 20 * length labels))
    × ((d ≡ decoys labels) × (length labels - d ≡ targets labels))
counts_fit features labels {d} e asked =
    let short = met (leb (length labels) longest && leb features (20 * longest)) TooLong _ asked in
    let twenty = met (eqb features (20 * length labels)) WrongLength _ short.1 in
    let most = leb→le (length labels) longest (rw (both_true (leb (length labels) longest) _ short.0).0 tt) in
    let few = decoys_at_most labels e in
    ((omega arith, omega arith, eqb-true _ _ twenty.0), (e, rest_targets labels e))
