-- The least and the greatest of a list: no more and no less than any number in it, and a NaN is passed over.
use Rattle.std.proofs.Common.{◌≡◌, ℕ, zero, suc, ◌<◌, not, T, List, [], ◌∷◌, ◌++◌, length, get_or, ap, le_of_suc-le-suc, not-suc-le-zero}
use lib.Ieee.{Float, nan, is_nan, le}
use Rattle.folds.specs.Lists.{folded}
use Rattle.floats.specs.MinMax.{min_number, max_number}
use Rattle.floats.proofs.Order.{le_refl, le_trans, le_left, le_right, min_nan, max_nan, min_le_left, min_le_right, max_ge_left, max_ge_right}

-- of `f a b` and two numbers it may stand in an order with, for both orders
module _ (f : Float → Float → Float) (R : Float → Float → Type 0) (same : (a : Float) → T (not (is_nan a)) → R a a)
    (trans : (a b c : Float) → R a b → R b c → R a c) (number : (a b : Float) → R a b → T (not (is_nan a)))
    (left : (a b : Float) → T (not (is_nan a)) → R (f a b) a) (right : (a b : Float) → T (not (is_nan b)) → R (f a b) b)
  where
    folded_start : (m : Float) (l : List Float) → T (not (is_nan m)) → R (folded f m l) m
    unfolding folded
    folded_start m [] p = same m p
    folded_start m (x ∷ l) p =
        let h = left m x p in
        trans (folded f (f m x) l) (f m x) m (folded_start (f m x) l (number (f m x) m h)) h

    folded_any : (m : Float) (l : List Float) (k : ℕ) → k < length l → T (not (is_nan (get_or l k nan)))
        → R (folded f m l) (get_or l k nan)
    unfolding folded
    folded_any m [] k h p = absurd (not-suc-le-zero h)
    folded_any m (x ∷ l) zero h p =
        let r = right m x p in
        trans (folded f (f m x) l) (f m x) x (folded_start (f m x) l (number (f m x) x r)) r
    folded_any m (x ∷ l) (suc k) h p = folded_any (f m x) l k (le_of_suc-le-suc h) p

module _ (m : Float) (l : List Float) (k : ℕ) (h : k < length l) (p : T (not (is_nan (get_or l k nan)))) where
  pub least_le : T (le (folded min_number m l) (get_or l k nan))
  least_le = folded_any min_number (λ (a b : Float). T (le a b)) le_refl le_trans le_left min_le_left min_le_right m l k h p

  pub greatest_ge : T (le (get_or l k nan) (folded max_number m l))
  greatest_ge =
      folded_any max_number (λ (a b : Float). T (le b a)) le_refl (λ a b c r q. le_trans c b a q r) (λ a b. le_right b a) max_ge_left max_ge_right m l k h p

passed : (f : Float → Float → Float) → ((m : Float) → f m nan ≡ m) → (m : Float) (l r : List Float)
    → folded f m (l ++ nan ∷ r) ≡ folded f m (l ++ r)
unfolding folded
passed f e m [] r = ap (λ (x : Float). folded f x r) (e m)
passed f e m (x ∷ l) r = passed f e (f m x) l r

pub least_passes_nan : (m : Float) (l r : List Float)
    → folded min_number m (l ++ nan ∷ r) ≡ folded min_number m (l ++ r)
least_passes_nan = passed min_number min_nan

pub greatest_passes_nan : (m : Float) (l r : List Float)
    → folded max_number m (l ++ nan ∷ r) ≡ folded max_number m (l ++ r)
greatest_passes_nan = passed max_number max_nan
