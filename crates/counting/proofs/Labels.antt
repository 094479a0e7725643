-- Decoys and targets up to a row. Each row adds one to the one or the other, by its label, so together they are the
-- row's number.
use mathlib.Core.Path.{◌≡◌, refl, ap, ◌∙◌}
use mathlib.Core.List.{List, [], ◌∷◌, map}
use mathlib.Core.Bool.{Bool, true, false, not, cond}
use Prim.Native.Nat.{ℕ, zero, suc, ◌+◌, ◌-◌, ◌<◌, min}
use native.Mathlib.Nat.{not-suc-le-zero, le_of_suc-le-suc}
use native.Mathlib.Numerals.{add-one}
use native.Mathlib.Omega.{arith}
use borrow.Author.Tests.{le-leb, ne_eqb}
use lib.IntN.{ℤ, pos, negsuc}
use lib.ListN.{length, take, get_or, length-take}
use lib.Seq.{get_or-set_other}
use Rattle.std.specs.Ordering.{int_eq}
use Rattle.folds.specs.Lists.{how_many}
use Rattle.counting.specs.Labels.{is_decoy, decoys, targets, flip, flip_row}

decoys_suc : (labels : List ℤ) (i : ℕ) (d : ℤ) → i < length labels
    → decoys (take (suc i) labels) ≡ decoys (take i labels) + cond (is_decoy (get_or labels i d)) 1 0
unfolding decoys
decoys_suc [] i d h = absurd (not-suc-le-zero h)
decoys_suc (l ∷ ls) zero d h = go (is_decoy l)
  where
    go : (b : Bool) → cond b 1 0 ≡ 0 + cond b 1 0
    go true = refl
    go false = refl
decoys_suc (l ∷ ls) (suc i) d h = go (is_decoy l) _ (decoys (take i ls)) _ (decoys_suc ls i d (le_of_suc-le-suc h))
  where
    go : (b : Bool) (m n k : ℕ) → m ≡ n + k → cond b (suc m) m ≡ cond b (suc n) n + k
    go true m n k e = omega arith
    go false m n k e = e

-- ---- together

pub decoys_and_targets : (labels : List ℤ) → decoys labels + targets labels ≡ length labels
unfolding decoys targets
decoys_and_targets [] = refl
decoys_and_targets (l ∷ ls) = go (is_decoy l) (decoys ls) (targets ls) (decoys_and_targets ls)
  where
    go : (b : Bool) (m n : ℕ) {k : ℕ} → m + n ≡ k → cond b (suc m) m + cond b n (suc n) ≡ suc k
    go true m n e = omega arith
    go false m n e = omega arith

pub row_counts : (row : ℕ) (labels : List ℤ)
    → decoys (take row labels) + targets (take row labels) ≡ min row (length labels)
row_counts row labels = decoys_and_targets (take row labels) ∙ length-take row labels

-- ---- one row more

module _ (labels : List ℤ) (i : ℕ) (d : ℤ) (h : i < length labels) where
  pub decoys_next : decoys (take (i + 1) labels) ≡ decoys (take i labels) + cond (is_decoy (get_or labels i d)) 1 0
  decoys_next = rw add-one (decoys_suc labels i d h)

  pub targets_next : targets (take (i + 1) labels) ≡ targets (take i labels) + cond (is_decoy (get_or labels i d)) 0 1
  targets_next = go (is_decoy (get_or labels i d)) decoys_next
    where
      go : (b : Bool) → decoys (take (i + 1) labels) ≡ decoys (take i labels) + cond b 1 0
          → targets (take (i + 1) labels) ≡ targets (take i labels) + cond b 0 1
      go true e = omega (arith, row_counts i labels, row_counts (i + 1) labels)
      go false e = omega (arith, row_counts i labels, row_counts (i + 1) labels)

-- ---- no label matters but for being a decoy's

pub same_length : (ls ls' : List ℤ) → map is_decoy ls ≡ map is_decoy ls' → length ls ≡ length ls'
same_length [] [] e = refl
same_length [] (l ∷ ls) e = cc
same_length (l ∷ ls) [] e = cc
same_length (l ∷ ls) (l' ∷ ls') e = ap suc (same_length ls ls' (cc))

pub same_decoys : (ls ls' : List ℤ) → map is_decoy ls ≡ map is_decoy ls' → (row : ℕ)
    → decoys (take row ls) ≡ decoys (take row ls')
unfolding decoys
same_decoys [] [] e row = refl
same_decoys [] (l ∷ ls) e row = cc
same_decoys (l ∷ ls) [] e row = cc
same_decoys (l ∷ ls) (l' ∷ ls') e zero = refl
same_decoys (l ∷ ls) (l' ∷ ls') e (suc row) =
    let b : is_decoy l ≡ is_decoy l' = cc in
    rw (b, same_decoys ls ls' (cc) row)

pub same_targets : (ls ls' : List ℤ) → map is_decoy ls ≡ map is_decoy ls' → (row : ℕ)
    → targets (take row ls) ≡ targets (take row ls')
same_targets ls ls' e row =
    omega (arith, row_counts row ls, row_counts row ls', same_decoys ls ls' e row, same_length ls ls' e)

-- ---- a flipped label

-- a decoy becomes a target, and a target a decoy
pub flip_turns : (label : ℤ) → is_decoy (flip label) ≡ not (is_decoy label)
flip_turns label = go (is_decoy label)
  where
    go : (b : Bool) → is_decoy (cond b (pos 1) (negsuc 0)) ≡ not b
    go true = refl
    go false = refl

-- flipped twice, a label is of the class that it was
pub flip_twice : (label : ℤ) → is_decoy (flip (flip label)) ≡ is_decoy label
flip_twice label = flip_turns (flip label) ∙ ap not (flip_turns label) ∙ not_not (is_decoy label)
  where
    not_not : (b : Bool) → not (not b) ≡ b
    not_not true = refl
    not_not false = refl

-- the other rows stand as they were
pub flip_row_others : (row : ℕ) (labels : List ℤ) (i : ℕ) (d : ℤ) → (i ≡ row - 1 → ⊥)
    → get_or (flip_row row labels) i d ≡ get_or labels i d
unfolding flip_row
flip_row_others row labels i d p = get_or-set_other labels (row - 1) i (flip (get_or labels (row - 1) (pos 0))) d p

-- a label is a decoy where it is −1
is_minus_one : (l : ℤ) → int_eq l (negsuc 0) ≡ is_decoy l
is_minus_one (pos n) = refl
is_minus_one (negsuc zero) = refl
is_minus_one (negsuc (suc n)) = rw (le-leb 1 (suc n) (omega arith), ne_eqb (suc n) 0 (λ e. omega arith))

pub decoys_are : (labels : List ℤ) → how_many (λ (l : ℤ). int_eq l (negsuc 0)) labels ≡ decoys labels
unfolding how_many decoys
decoys_are [] = refl
decoys_are (l ∷ ls) = rw (is_minus_one l, decoys_are ls) (go (is_decoy l) (decoys ls))
  where
    go : (b : Bool) (n : ℕ) → cond b 1 0 + n ≡ cond b (suc n) n
    go true n = omega arith
    go false n = omega arith
