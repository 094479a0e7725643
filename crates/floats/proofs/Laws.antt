-- Rust's `<` between floats.
use Rattle.std.proofs.Common.{ap, ◌∙◌}
use Rattle.std.specs.Prelude.{◌≡◌, Bool, true, false, cond, Option, None, Some, refl, Float}
use Rattle.std.specs.declared.cmp.Ordering.{Ordering}
use Rattle.std.specs.declared.cmp.Ordering.TheVariants.{Less, Equal, Greater}
use Rattle.std.specs.Ordering.{is_lt, is_some_and, partial_lt, float_partial_cmp}
use Rattle.std.specs.Float.Ieee.{lt, eq}

first_test : (a b c : Bool)
    → is_some_and is_lt (cond a (Some Less) (cond b (Some Equal) (cond c (Some Greater) None))) ≡ a
first_test true b c = refl
first_test false true c = refl
first_test false false true = refl
first_test false false false = refl

-- `partial_cmp` answers by three tests, of which `<` is the first
pub less_is : {A : Type 0} (order : A → A → Option Ordering) (number : A → Float)
    → ((a b : A) → order a b ≡ float_partial_cmp (number a) (number b))
    → (a b : A) → partial_lt order a b ≡ lt (number a) (number b)
less_is _ number same a b =
    let x = number a in
    let y = number b in
    ap (is_some_and is_lt) (same a b) ∙ first_test (lt x y) (eq x y) (lt y x)
