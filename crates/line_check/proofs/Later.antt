-- The pass of the line check: the counts so far, and those of the last row after the line that qualifies, or of the
-- line itself.
use mathlib.Core.Path.{◌≡◌, refl, sym, ap, ◌∙◌}
use mathlib.Core.List.{List}
use mathlib.Core.Bool.{true, false}
use Prim.Native.Nat.{ℕ, ◌+◌, ◌-◌, ◌*◌, ◌≤◌, ◌<◌, max}
use native.Mathlib.Nat.{mul-le-mul_right}
use native.Mathlib.Omega.{arith}
use borrow.Author.Tests.{le-leb, lt-leb}
use lib.IntN.{ℤ}
use lib.ListN.{length, take}
use mir.Syntax.{w64}
use mir.Val.{Fits}
use Rattle.counting.specs.Labels.{decoys, targets}
use Rattle.counting.specs.Lines.{qualifies, last_row_of}
use Rattle.counting.proofs.Labels.{row_counts}
use Rattle.counting.proofs.Lines.{last_next, last_in_list}
use Rattle.counting.proofs.Tally.{Tally}
use Rattle.line_check.specs.Check.{counts_at}
use Rattle.line_check.specs.declared.Counts.{Counts}

-- ---- the counts at a row, as a struct

pub counts_at_lem : {labels : List ℤ} {i decoy target : ℕ} (row : ℕ) → Tally labels i decoy target → i ≡ row
    → ◌≡◌ {A = Counts} (record { row = row; decoys_plus_one = decoy; targets = target }) (counts_at labels row)
counts_at_lem row t e = rw (← e, t.decoy_is, t.target_is)

pub decoys_small : (labels : List ℤ) {c : Counts} (row : ℕ) → row ≤ length labels → c ≡ counts_at labels row
    → length labels ≤ 16777215 → c.decoys_plus_one ≤ 16777216
decoys_small labels row h e s = omega (arith, ap (λ (x : Counts). x.decoys_plus_one) e, row_counts row labels)

-- the counts at a row, by how many of the rows up to it are decoys
pub counted_is : (labels : List ℤ) (row count : ℕ) → row ≤ length labels → count ≡ decoys (take row labels)
    → ◌≡◌ {A = Counts} (record { row = row; decoys_plus_one = count + 1; targets = row - count }) (counts_at labels row)
counted_is labels row count h e =
    let t : row - count ≡ targets (take row labels) = omega (arith, row_counts row labels) in
    rw (t, e)

-- the counts before the first row
pub counts_at_zero : (labels : List ℤ) → ◌≡◌ {A = Counts} (record { row = 0; decoys_plus_one = 1; targets = 0 })
    (counts_at labels 0)
unfolding decoys targets
counts_at_zero labels = refl

-- a count times the rate fits
pub product_fits : (per n : ℕ) → per ≤ 100 → n ≤ 16777216 → Fits w64 (per * n)
product_fits per n h k = omega (arith, mul-le-mul_right n h)

-- ---- the pass after the line

pub record Later (per : ℕ) (labels : List ℤ) (line : ℕ) (last so_far : Counts) (i : ℕ) : Type 0 where
  pub past : line ≤ i
  pub high : i ≤ length labels
  pub so_far_is : so_far ≡ counts_at labels i
  pub last_is : last ≡ counts_at labels (max line (last_row_of (qualifies per labels) i))

pub later_start : (per : ℕ) {labels : List ℤ} {own : Counts} → own.row ≤ length labels → own ≡ counts_at labels own.row
    → Later per labels own.row own own own.row
later_start per {labels} {own} h e =
    let m : max own.row (last_row_of (qualifies per labels) own.row) ≡ own.row = omega (arith, last_in_list (qualifies per labels) own.row) in
    record { past = omega arith; high = h; so_far_is = e; last_is = e ∙ ap (counts_at labels) (sym m) }

pub later_tally : {per : ℕ} {labels : List ℤ} {line : ℕ} {last so_far : Counts} {i : ℕ}
    → Later per labels line last so_far i → Tally labels i so_far.decoys_plus_one so_far.targets
later_tally w = record {
  high = w.high;
  decoy_is = ap (λ (x : Counts). x.decoys_plus_one) w.so_far_is;
  target_is = ap (λ (x : Counts). x.targets) w.so_far_is;
}

module _ {per : ℕ} {labels : List ℤ} {line : ℕ} {last so_far : Counts} {i decoy target : ℕ}
    (w : Later per labels line last so_far i) (t : Tally labels (i + 1) decoy target)
  where
    abbrev next : Counts
    next = record { row = so_far.row + 1; decoys_plus_one = decoy; targets = target }

    next_is : next ≡ counts_at labels (i + 1)
    next_is =
        let r : so_far.row ≡ i = ap (λ (x : Counts). x.row) w.so_far_is in
        ap (λ (n : ℕ). record { row = n; decoys_plus_one = decoy; targets = target }) (ap (λ (n : ℕ). n + 1) r) ∙ counts_at_lem (i + 1) t refl

    -- the next row does not qualify
    pub later_passed : target < per * decoy → (j : ℕ) → j ≡ i + 1 → Later per labels line last next j
    later_passed h j e =
        let p = w.past in
        let q : qualifies per labels (i + 1) ≡ false = rw (← t.decoy_is, ← t.target_is) (lt-leb (per * decoy) target h) in
        rw e (record {
          past = omega arith;
          high = t.high;
          so_far_is = next_is;
          last_is = w.last_is ∙ ap (λ (n : ℕ). counts_at labels (max line n)) (sym (rw (last_next (qualifies per labels) i, q)));
        })

    -- or it does
    pub later_found : per * decoy ≤ target → (j : ℕ) → j ≡ i + 1 → Later per labels line next next j
    later_found h j e =
        let p = w.past in
        let q : qualifies per labels (i + 1) ≡ true = rw (← t.decoy_is, ← t.target_is) (le-leb (per * decoy) target h) in
        let m : max line (last_row_of (qualifies per labels) (i + 1)) ≡ i + 1 = rw (last_next (qualifies per labels) i, q) (omega arith) in
        rw e (record { past = omega arith; high = t.high; so_far_is = next_is; last_is = next_is ∙ ap (counts_at labels) (sym m) })
