-- Places of the half of the scatter that is kept: in which table row columns j and k meet.
-- The facts on places are tests over the 400 pairs, computed.
use mathlib.Core.Path.{◌≡◌, sym, ap, ◌∙◌, subst}
use mathlib.Core.Logic.{◌⊎◌, inl, inr}
use mathlib.Core.Bool.{Bool, true, false, not, cond, ◌||◌}
use Prim.Native.Nat.{ℕ, ◌≤◌, ◌<◌}
use native.Mathlib.Omega.{arith}
use lib.Dec.{T, ltb, eqb, eqb→eq, ltb→lt, lt→ltb}
use borrow.Author.Tests.{lt-ltb, le-ltb}
use Rattle.folds.specs.Walks.{every}
use Rattle.folds.proofs.Tests.{or_split}
use Rattle.folds.proofs.Walks.{every_at}
use Rattle.gauss.specs.Elimination.{Matrix, entry}
use Rattle.linear_discriminant.specs.Inner.Passes.{stored_width, stored_column, stored_place, scatter_of}

-- ---- where columns j and k meet

pub width_most : (j : ℕ) → stored_width j ≤ 12
width_most j = go (ltb j 10)
  where
    go : (b : Bool) → cond b 12 10 ≤ 12
    go true = omega arith
    go false = omega arith

has : ℕ → ℕ → Bool
has j k = ltb (stored_place j k) (stored_width j)

one_has : T (every (λ j. every (λ k. has j k || has k j) 20) 20)
unfolding every has
one_has = tt

pub other_has : (j k : ℕ) → j < 20 → k < 20 → stored_width j ≤ stored_place j k → stored_place k j < stored_width k
unfolding has
other_has j k h l n = go (or_split (has j k) (has k j) (every_at (λ k. has j k || has k j) 20 k (every_at (λ j. every (λ k. has j k || has k j) 20) 20 j one_has h) l))
  where
    no : stored_place j k < stored_width j → ⊥
    no p = omega arith

    go : T (has j k) ⊎ T (has k j) → stored_place k j < stored_width k
    go (inl t) = absurd (no (ltb→lt (stored_place j k) (stored_width j) t))
    go (inr t) = ltb→lt (stored_place k j) (stored_width k) t

right_column : T (every (λ j. every (λ k. not (has j k) || eqb (stored_column j (stored_place j k)) k) 20) 20)
unfolding every has
right_column = tt

pub column_at : (j k : ℕ) → j < 20 → k < 20 → stored_place j k < stored_width j → stored_column j (stored_place j k) ≡ k
unfolding has
column_at j k h l n =
    go (has j k) (lt→ltb (stored_place j k) (stored_width j) n)
    (every_at (λ k. not (has j k) || eqb (stored_column j (stored_place j k)) k) 20 k
    (every_at (λ j. every (λ k. not (has j k) || eqb (stored_column j (stored_place j k)) k) 20) 20 j right_column h) l)
  where
    go : (b : Bool) → T b → T (not b || eqb (stored_column j (stored_place j k)) k)
        → stored_column j (stored_place j k) ≡ k
    go true t e = eqb→eq (stored_column j (stored_place j k)) k e
    go false t e = absurd t

-- ---- as the code finds them

pub scatter_own : (table : Matrix) (j k : ℕ) {d w : ℕ} → d ≡ stored_place j k → w ≡ stored_width j → d < w
    → entry table j d ≡ scatter_of table j k
unfolding scatter_of
scatter_own table j k {d} {w} p q h =
    let t : ltb (stored_place j k) (stored_width j) ≡ true = lt-ltb (stored_place j k) (stored_width j) (subst (λ (n : ℕ). n < stored_width j) p (subst (λ (n : ℕ). d < n) q h)) in
    ap (entry table j) p ∙ sym (ap (λ (b : Bool). cond b (entry table j (stored_place j k)) (entry table k (stored_place k j))) t)

module _ (j k : ℕ) {d w : ℕ} where
  past : d ≡ stored_place j k → w ≡ stored_width j → w ≤ d → stored_width j ≤ stored_place j k
  past p q h = subst (λ (n : ℕ). stored_width j ≤ n) p (subst (λ (n : ℕ). n ≤ d) q h)

pub scatter_other : (table : Matrix) (j k : ℕ) {d w e : ℕ} → d ≡ stored_place j k → w ≡ stored_width j → w ≤ d
    → e ≡ stored_place k j → entry table k e ≡ scatter_of table j k
unfolding scatter_of
scatter_other table j k p q h r =
    let t : ltb (stored_place j k) (stored_width j) ≡ false = le-ltb (stored_place j k) (stored_width j) (past j k p q h) in
    ap (entry table k) r ∙ sym (ap (λ (b : Bool). cond b (entry table j (stored_place j k)) (entry table k (stored_place k j))) t)
