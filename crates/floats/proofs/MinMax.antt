-- The smaller and the larger of two floats as the code finds them: first by `<`, then by the test for a NaN.
-- Only the NaN differs from itself, so the second test picks out the first clause of the definition.
use Rattle.std.proofs.Common.{◌≡◌, ◌*◌, true, false, cond, not, T, refl, eq-eqb}
use lib.Ieee.{Float, nan, inf, fin, lt, ne, is_nan, up, down}
use Rattle.floats.specs.MinMax.{min_number, max_number}

-- x != x tests for the NaN
pub ne_self : (x : Float) → ne x x ≡ is_nan x
unfolding is_nan ne
ne_self nan = refl
ne_self (inf true) = refl
ne_self (inf false) = refl
ne_self (fin true m e) = rw (ne, eq-eqb (m * up e * down e) _ refl)
ne_self (fin false m e) = rw (ne, eq-eqb (m * up e * down e) _ refl)

-- nothing is below the NaN
lt_nan : (x : Float) → lt x nan ≡ false
unfolding lt
lt_nan nan = refl
lt_nan (inf s) = refl
lt_nan (fin s m e) = refl

pub min_is : (a b : Float) → min_number a b ≡ cond (lt b a) b (cond (ne a a) b a)
unfolding min_number is_nan
min_is nan b = rw (lt_nan, ne_self)
min_is (inf s) b = rw ne_self
min_is (fin s m e) b = rw ne_self

pub max_is : (a b : Float) → max_number a b ≡ cond (lt a b) b (cond (ne a a) b a)
unfolding max_number is_nan lt
max_is nan b = rw ne_self
max_is (inf s) b = rw ne_self
max_is (fin s m e) b = rw ne_self

-- one comparison finds the smaller, where the first is no NaN
pub min_of_number : (a b : Float) → T (not (is_nan a)) → min_number a b ≡ cond (lt b a) b a
unfolding min_number is_nan
min_of_number nan b p = absurd p
min_of_number (inf s) b p = refl
min_of_number (fin s m e) b p = refl
