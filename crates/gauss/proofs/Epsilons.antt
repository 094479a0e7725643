-- The tries: what each eps is, and that `while eps <= 1.0` makes nine of them. Closed facts, computed; and the loop's
-- measure, how many of the nine are not below eps.
use mathlib.Core.Path.{◌≡◌, refl, sym, ap, ◌∙◌, subst}
use mathlib.Core.List.{[], ◌∷◌}
use mathlib.Core.Logic.{◌⊎◌, inl, inr}
use mathlib.Core.Bool.{true, false, cond}
use Prim.Native.Nat.{ℕ, zero, suc, ◌≤◌, ◌<◌}
use native.Mathlib.Omega.{arith}
use lib.Dec.{T, ltb, ltb→lt}
use lib.Ieee.{Float, binary64, of_bits, round, mul, le}
use lib.Ieee.Bits.{is_true}
use Rattle.folds.specs.Lists.{tabulated}
use Rattle.folds.specs.Walks.{every}
use Rattle.folds.proofs.Tests.{lt_or_ge}
use Rattle.folds.proofs.Walks.{every_at}
use Rattle.floats.specs.Constants.{f64_one}
use Rattle.gauss.specs.Elimination.{small}
use Rattle.gauss.specs.Solutions.{ten, epsilon, tries}

-- ---- the literals

pub small_is : small ≡ round binary64 false 1 100000000
unfolding round of_bits
small_is = refl

pub ten_is : ten ≡ round binary64 false 10 1
unfolding round of_bits
ten_is = refl

-- ---- the tries

-- 1E-8, 1E-7, 1E-6, 9.999999999999999E-6, 9.999999999999999E-5, 0.001, 0.01, 0.1, 1, and 10, at which the loop ends
pub each_epsilon : tabulated epsilon 0 10
    ≡ of_bits binary64 4487126258331716666
    ∷ of_bits binary64 4502148214488346440
    ∷ of_bits binary64 4517329193108106637
    ∷ of_bits binary64 4532020583610935536
    ∷ of_bits binary64 4547007122018943788
    ∷ of_bits binary64 4562254508917369340
    ∷ of_bits binary64 4576918229304087675
    ∷ of_bits binary64 4591870180066957722
    ∷ of_bits binary64 4607182418800017408
    ∷ of_bits binary64 4621819117588971520
    ∷ []
unfolding epsilon tabulated mul round of_bits
each_epsilon = refl

-- eps ≤ 1.0 at each of the nine tries, and not after them
pub nine_tries : (every (λ n. le (epsilon n) f64_one) tries ≡ true) × (le (epsilon tries) f64_one ≡ false)
unfolding every epsilon mul round of_bits le
nine_tries = (refl, refl)

pub goes_on : (n : ℕ) → n < tries → le (epsilon n) f64_one ≡ true
goes_on n h = is_true (le (epsilon n) f64_one) (every_at (λ n. le (epsilon n) f64_one) tries n (subst T (sym nine_tries.0) tt) h)

-- so the loop's test says whether try n is one of the nine
pub tried : {eps : Float} (n : ℕ) → eps ≡ epsilon n → n ≤ tries → le eps f64_one ≡ true → n < tries
tried {eps} n e h t = go (lt_or_ge n tries)
  where
    last : tries ≤ n → n ≤ tries → n ≡ tries
    last g h = omega arith

    go : (n < tries) ⊎ (tries ≤ n) → n < tries
    go (inl g) = g
    go (inr g) =
        absurd (subst T (sym t ∙ ap (λ (x : Float). le x f64_one) e ∙ ap (λ (k : ℕ). le (epsilon k) f64_one) (last g h) ∙ nine_tries.1) tt)

pub untried : {eps : Float} (n : ℕ) → eps ≡ epsilon n → le eps f64_one ≡ false → tries ≤ n
untried {eps} n e t = go (lt_or_ge n tries)
  where
    go : (n < tries) ⊎ (tries ≤ n) → tries ≤ n
    go (inl g) = absurd (subst T (sym (goes_on n g) ∙ ap (λ (x : Float). le x f64_one) (sym e) ∙ t) tt)
    go (inr g) = g

-- ---- the measure

count : Float → ℕ → ℕ
count eps zero = zero
count eps (suc n) = let rest = count eps n in cond (le eps (epsilon n)) (suc rest) rest

-- how many of the nine are not below eps
pub tries_left : Float → ℕ
tries_left eps = count eps tries

each_falls : T (every (λ n. ltb (tries_left (epsilon (suc n))) (tries_left (epsilon n))) tries)
unfolding every tries_left count epsilon mul round of_bits le
each_falls = tt

pub falls : {eps : Float} (n : ℕ) → eps ≡ epsilon n → n < tries → tries_left (mul binary64 eps ten) < tries_left eps
unfolding epsilon
falls n e h =
    subst (λ (x : Float). tries_left (mul binary64 x ten) < tries_left x) (sym e)
    (ltb→lt (tries_left (epsilon (suc n))) (tries_left (epsilon n)) (every_at (λ n. ltb (tries_left (epsilon (suc n))) (tries_left (epsilon n))) tries n each_falls h))
