-- A loop that counts decoys and targets down a list, without a branch: the test of a label is 0 or 1, which goes to the
-- decoys, and what it lacks of 1 goes to the targets. The decoys start at 1, for the plus one.
use mathlib.Core.Path.{◌≡◌, refl}
use mathlib.Core.List.{List}
use mathlib.Core.Bool.{Bool, true, false, cond}
use Prim.Native.Nat.{ℕ, suc, ◌+◌, ◌-◌, ◌^◌, ◌≤◌, ◌<◌, zero-le}
use native.Mathlib.Omega.{arith}
use borrow.Author.Tests.{ne_eqb}
use lib.Dec.{eqb, eqb→eq}
use lib.IntN.{ℤ, pos, negsuc}
use lib.Signed.{mag}
use lib.ListN.{length, take, get_or}
use lib.Ieee.Fits.{eq→eqb}
use mir.Syntax.{w32}
use mir.Val.{of_z, bool_byte}
use Rattle.folds.proofs.Tests.{same_test, byte_most}
use Rattle.counting.specs.Labels.{is_decoy, decoys, targets}
use Rattle.counting.proofs.Labels.{row_counts, decoys_next, targets_next}

-- ---- the test of a label: is it −1, whose 32 bits are all set?

pub label_test : (l : ℤ) → mag l < 2 ^ 31 → eqb (of_z w32 l) 4294967295 ≡ is_decoy l
label_test (pos n) f = ne_eqb n 4294967295 (λ (e : n ≡ 4294967295). omega arith)
label_test (negsuc n) f =
    same_test (eqb (4294967296 - suc n) 4294967295) (eqb n 0)
    (λ t. eq→eqb {a = n} {b = 0} (omega (arith, eqb→eq (4294967296 - suc n) 4294967295 t)))
    (λ t. eq→eqb {a = 4294967296 - suc n} {b = 4294967295} (omega (arith, eqb→eq n 0 t)))

abbrev pub mark : List ℤ → ℕ → ℕ
mark labels i = bool_byte (eqb (of_z w32 (get_or labels i (pos 0))) 4294967295)

-- ---- the counts so far

pub record Tally (labels : List ℤ) (i decoy target : ℕ) : Type 0 where
  pub high : i ≤ length labels
  pub decoy_is : decoy ≡ decoys (take i labels) + 1
  pub target_is : target ≡ targets (take i labels)

pub tally_start : (labels : List ℤ) → Tally labels 0 1 0
unfolding decoys targets
tally_start labels = record { high = zero-le; decoy_is = refl; target_is = refl }

pub tally_next : {labels : List ℤ} {i decoy target : ℕ} → Tally labels i decoy target → i < length labels
    → mag (get_or labels i (pos 0)) < 2 ^ 31
    → Tally labels (i + 1) (decoy + mark labels i) (target + (1 - mark labels i))
tally_next {labels} {i} {decoy} {target} t h f =
    let d = t.decoy_is in
    let e = t.target_is in
    rw (label_test (get_or labels i (pos 0)) f)
    (go (is_decoy (get_or labels i (pos 0))) (decoys_next labels i (pos 0) h) (targets_next labels i (pos 0) h))
  where
    go : (b : Bool) → decoys (take (i + 1) labels) ≡ decoys (take i labels) + cond b 1 0
        → targets (take (i + 1) labels) ≡ targets (take i labels) + cond b 0 1
        → Tally labels (i + 1) (decoy + bool_byte b) (target + (1 - bool_byte b))
    go true d e = record { high = omega arith; decoy_is = omega arith; target_is = omega arith }
    go false d e = record { high = omega arith; decoy_is = omega arith; target_is = omega arith }

-- together one more than the row's number
pub tally_both : {labels : List ℤ} {i decoy target : ℕ} → Tally labels i decoy target → decoy + target ≡ i + 1
tally_both {labels} {i} t =
    let h = t.high in
    omega (arith, t.decoy_is, t.target_is, row_counts i labels)

pub mark_small : (labels : List ℤ) (i : ℕ) → mark labels i ≤ 1
mark_small labels i = byte_most (eqb (of_z w32 (get_or labels i (pos 0))) 4294967295)

module _ {labels : List ℤ} {i decoy target : ℕ} (t : Tally labels i decoy target) (h : i < length labels) where
  pub next_decoy : decoy + mark labels i ≤ length labels + 1
  next_decoy = omega (arith, tally_both t, mark_small labels i)

  pub next_target : target + (1 - mark labels i) ≤ length labels
  next_target = omega (arith, tally_both t, t.decoy_is)
