-- Tests, which are Bools, and what they say.
use mathlib.Core.Path.{◌≡◌, refl}
use mathlib.Core.Logic.{◌⊎◌, inl, inr}
use Prim.Native.Nat.{ℕ, suc, ◌+◌, ◌≤◌, ◌<◌}
use native.Mathlib.Omega.{arith}
use mathlib.Core.Bool.{Bool, true, false, not, cond, ◌&&◌, ◌||◌, false≢true}
use lib.Dec.{T, ltb, ltb→lt, nltb→le, lit≤}
use mir.Val.{bool_byte}

-- equal where each passes if the other does
pub same_test : (a b : Bool) → (T a → T b) → (T b → T a) → a ≡ b
same_test true true p q = refl
same_test true false p q = absurd (p tt)
same_test false true p q = absurd (q tt)
same_test false false p q = refl

pub yes_or_no : (a : Bool) → T a ⊎ T (not a)
yes_or_no true = inl tt
yes_or_no false = inr tt

pub or_l : (a b : Bool) → T a → T (a || b)
or_l true b t = tt
or_l false b t = absurd t

pub or_r : (a b : Bool) → T b → T (a || b)
or_r true b t = tt
or_r false b t = t

pub or_split : (a b : Bool) → T (a || b) → T a ⊎ T b
or_split true b t = inl tt
or_split false b t = inr t

pub lt_or_ge : (a b : ℕ) → (a < b) ⊎ (b ≤ a)
lt_or_ge a b = go (ltb a b) (ltb→lt a b) (nltb→le a b)
  where
    go : (t : Bool) → (T t → a < b) → (T (not t) → b ≤ a) → (a < b) ⊎ (b ≤ a)
    go true h k = inl (h tt)
    go false h k = inr (k tt)

pub both_true : (a b : Bool) → a && b ≡ true → (a ≡ true) × (b ≡ true)
both_true true b e = (refl, e)
both_true false b e = absurd (false≢true e)

pub no_truth : (b : Bool) → (T b → ⊥) → b ≡ false
no_truth true h = absurd (h tt)
no_truth false h = refl

-- ---- a test as a number

pub byte_is : (b : Bool) → bool_byte b ≡ cond b 1 0
byte_is true = refl
byte_is false = refl

pub byte_most : (b : Bool) → bool_byte b ≤ 1
byte_most true = lit≤ tt
byte_most false = lit≤ tt

pub byte_added : (b : Bool) (n : ℕ) → n + bool_byte b ≡ cond b (suc n) n
byte_added true n = omega arith
byte_added false n = omega arith
