-- A label's class, as the code finds it without a branch, and the counts of both classes.
use mathlib.Core.Path.{◌≡◌, refl, ap, ◌∙◌}
use mathlib.Core.List.{List}
use mathlib.Core.Bool.{Bool, true, false, not, cond}
use Prim.Native.Nat.{ℕ, ◌-◌, ◌^◌, ◌≤◌, ◌<◌}
use native.Mathlib.Omega.{arith}
use lib.Dec.{eqb}
use lib.IntN.{ℤ, pos}
use lib.Signed.{mag}
use lib.ListN.{length, get_or, set}
use lib.Ieee.{Float}
use mir.Syntax.{w32}
use mir.Val.{of_z, to_z, bool_byte}
use mir.ValLaws.{to_z-of_z}
use Rattle.counting.specs.Labels.{is_decoy, decoys, targets}
use Rattle.counting.proofs.Labels.{decoys_and_targets}
use Rattle.counting.proofs.Tally.{label_test}
use Rattle.gauss.specs.Elimination.{Matrix, row}
use Rattle.linear_discriminant.specs.Fit.{class_of}
use Rattle.linear_discriminant.specs.Inner.Passes.{added_row, sum_row}

-- a label's class by the test of its bits
pub class_of_lem : (l : ℤ) → mag l < 2 ^ 31 → bool_byte (not (eqb (of_z w32 l) 4294967295)) ≡ class_of l
class_of_lem l f = rw (label_test l f) (go (is_decoy l))
  where
    go : (b : Bool) → bool_byte (not b) ≡ cond b 0 1
    go true = refl
    go false = refl

pub class_small : (l : ℤ) → class_of l < 2
class_small l = go (is_decoy l)
  where
    go : (b : Bool) → cond b 0 1 < 2
    go true = omega arith
    go false = omega arith

-- a label as a callee gets it
pub class_given : (l : ℤ) {c : ℕ} → mag l < 2 ^ 31 → (c ≡ class_of (to_z w32 (of_z w32 l))) × (c < 2) → c ≡ class_of l
class_given l f e = e.0 ∙ ap class_of (to_z-of_z w32 l (record { sfits = f }))

-- a row that goes to its class's sums
pub sum_turn : (features : List Float) (labels : List ℤ) (i : ℕ) (sums : Matrix) {c : ℕ} {r : List Float}
    → c ≡ class_of (get_or labels i (pos 0))
    → r ≡ added_row features i (row sums c) → set sums c r ≡ sum_row features labels i sums
sum_turn features labels i sums {c} e f = ap (set sums c) f ∙ ap (λ (c : ℕ). set sums c (added_row features i (row sums c))) e

pub rest_targets : (labels : List ℤ) {d : ℕ} → d ≡ decoys labels → length labels - d ≡ targets labels
rest_targets labels e = omega (arith, decoys_and_targets labels)

pub decoys_at_most : (labels : List ℤ) {d : ℕ} → d ≡ decoys labels → d ≤ length labels
decoys_at_most labels e = omega (arith, decoys_and_targets labels)
