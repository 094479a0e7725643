-- What the literals are, and the smaller of 1.0 and a float. Closed facts, computed.
use Rattle.std.proofs.Common.{◌≡◌, ◌-◌, ◌^◌, Bool, true, false, cond, not, T, sym, refl, ap, ◌∙◌}
use lib.Dec.{not_T}
use lib.Ieee.{Float, binary32, binary64, round, neg, fits, is_nan, lt, le, of_bits}
use lib.Ieee.Bits.{cond_no, of_bits-fits}
use Rattle.floats.specs.Constants.{f32_one, f64_zero, f64_one, f64_min}
use Rattle.floats.specs.MinMax.{min_number}
use Rattle.floats.proofs.MinMax.{min_of_number}
use Rattle.floats.proofs.Order.{lt→not_le, lt_of_lt_of_le}

pub f64_zero_is : f64_zero ≡ round binary64 false 0 1
unfolding round of_bits
f64_zero_is = refl

pub f64_one_is : f64_one ≡ round binary64 false 1 1
unfolding round of_bits
f64_one_is = refl

-- f64::MIN is −(2^1024 − 2^971)
pub f64_min_is : f64_min ≡ round binary64 true (2 ^ 1024 - 2 ^ 971) 1
unfolding round of_bits neg
f64_min_is = refl

-- ---- 1.0f32 is a number of its format

pub one_number : T (not (is_nan f32_one))
unfolding is_nan of_bits
one_number = tt

pub one_fits : T (fits binary32 f32_one)
one_fits = of_bits-fits binary32 0x3F800000

-- ---- where a is at most 1.0, what stands beside it may be held to 1.0 first

pub min_capped : (a r : Float) → T (not (is_nan a)) → T (le a f32_one)
    → min_number a (min_number f32_one r) ≡ min_number a r
min_capped a r n h =
    ap (min_number a) (min_of_number f32_one r one_number)
    ∙ go (lt r f32_one) (λ t. lt_of_lt_of_le r a f32_one t h)
  where
    least : min_number a f32_one ≡ a
    least = min_of_number a f32_one n ∙ cond_no (lt f32_one a) f32_one a (not_T (lt f32_one a) (λ t. lt→not_le f32_one a t h))

    go : (x : Bool) → (T (lt r a) → T x) → min_number a (cond x r f32_one) ≡ min_number a r
    go true f = refl
    go false f = least ∙ sym (min_of_number a r n ∙ cond_no (lt r a) r a (not_T (lt r a) f))
