-- Whether coefficients are finite: the library's words and the definition's are one.
use mathlib.Core.Path.{◌≡◌, refl, sym, ap, ◌∙◌}
use mathlib.Core.List.{List, [], ◌∷◌}
use mathlib.Core.Bool.{Bool, ◌&&◌, and_assoc, and-true}
use Prim.Native.Nat.{ℕ, zero, suc}
use lib.ListN.{length, get_or}
use lib.Ieee.{Float, nan, inf, fin}
use Rattle.std.specs.Float.{float_is_finite}
use Rattle.std.specs.List.{list_all}
use Rattle.folds.specs.Walks.{every}
use Rattle.linear_discriminant.specs.Scores.{is_finite, all_finite}

finite_is : (x : Float) → float_is_finite x ≡ is_finite x
unfolding float_is_finite
finite_is nan = refl
finite_is (inf s) = refl
finite_is (fin s m e) = refl

first_of_every : (p : ℕ → Bool) (n : ℕ) → every p (suc n) ≡ (p 0 && every (λ j. p (suc j)) n)
unfolding every
first_of_every p zero = sym (and-true (p 0))
first_of_every p (suc n) =
    ap (λ b. b && p (suc n)) (first_of_every p n) ∙ and_assoc (p 0) (every (λ j. p (suc j)) n) (p (suc n))

each_finite : (xs : List Float)
    → list_all float_is_finite xs ≡ every (λ j. is_finite (get_or xs j nan)) (length xs)
unfolding every
each_finite [] = refl
each_finite (x ∷ xs) =
    rw (finite_is x, each_finite xs) (sym (first_of_every (λ j. is_finite (get_or (x ∷ xs) j nan)) (length xs)))

pub all_finite_is : (xs : List Float) → length xs ≡ 20 → list_all float_is_finite xs ≡ all_finite xs
unfolding all_finite
all_finite_is xs e = each_finite xs ∙ rw e refl
