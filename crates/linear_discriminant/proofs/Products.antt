-- A sum of products over two rows that are read side by side: what is to come of each is what it has from one place on.
use mathlib.Core.Path.{◌≡◌, sym, ap, ◌∙◌}
use mathlib.Core.Logic.{◌⊎◌, inl, inr}
use mathlib.Core.List.{List, ◌∷◌}
use Prim.Native.Nat.{ℕ, suc, ◌+◌, ◌≤◌, ◌<◌}
use native.Mathlib.Omega.{arith}
use lib.ListN.{length, get_or, drop}
use Rattle.std.proofs.Common.{length-drop}
use lib.Ieee.{Float, nan, binary64, add, mul}
use Rattle.folds.proofs.Parts.{uncons}
use Rattle.folds.proofs.Walks.{Walk, step_by, done}
use Rattle.floats.specs.Constants.{f64_zero}
use Rattle.linear_discriminant.specs.Rows.{add_product, scored}

-- where the reading of two rows side by side ends, one of them has
pub one_ended : {I J : Type 0} {a : I} {b : J} {m n : ℕ}
    → ((x : I) × ((m ≡ 0) × (x ≡ a))) ⊎ ((x : J) × ((n ≡ 0) × (x ≡ b)))
    → (m ≡ 0) ⊎ (n ≡ 0)
one_ended (inl e) = inl e.1.0
one_ended (inr e) = inr e.1.0

pub record Pairs (coefficients row ws xs : List Float) (sum : Float) : Type 0 where
  pub place : ℕ
  pub left : ws ≡ drop place coefficients
  pub right : xs ≡ drop place row
  pub walk : Walk (add_product coefficients (λ j. get_or row j nan)) 0 place 20 f64_zero sum

pub some_left : {A : Type 0} (l : List A) (k : ℕ) (v : A) (r : List A) {n : ℕ} → drop k l ≡ v ∷ r → length l ≡ n → k < n
some_left l k v r e n =
    let m : length (drop k l) ≡ suc (length r) = ap length e in
    omega (arith, length-drop k l)

pub none_left : {A : Type 0} (l : List A) (k : ℕ) {n : ℕ} → length (drop k l) ≡ 0 → length l ≡ n → n ≤ k
none_left l k e n = omega (arith, length-drop k l)

module _ {coefficients row ws xs : List Float} {sum : Float} (n : length coefficients ≡ 20)
    (p : Pairs coefficients row ws xs sum) where
  pub pairs_step : {w x s : Float} {ws' xs' : List Float} → ws ≡ w ∷ ws' → xs ≡ x ∷ xs'
      → s ≡ add binary64 sum (mul binary64 w x)
      → Pairs coefficients row ws' xs' s
  pairs_step {w} {x} {s} {ws'} {xs'} e f g =
      let a = uncons nan coefficients ws' w p.place (sym p.left ∙ e) in
      let b = uncons nan row xs' x p.place (sym p.right ∙ f) in
      record {
        place = p.place + 1;
        left = sym a.1;
        right = sym b.1;
        walk = step_by p.walk (some_left coefficients p.place w ws' (sym p.left ∙ e) n) (g ∙ rw (a.0, b.0));
      }

  pub pairs_done : length row ≡ 20 → (length ws ≡ 0) ⊎ (length xs ≡ 0)
      → sum ≡ scored coefficients (λ j. get_or row j nan)
  unfolding scored
  pairs_done m (inl e) = done p.walk (none_left coefficients p.place (sym (ap length p.left) ∙ e) n)
  pairs_done m (inr e) = done p.walk (none_left row p.place (sym (ap length p.right) ∙ e) m)
