-- `floats::narrow` meets its contract: the bits below the sign are the magnitude's, what `nearest_f32` makes of it is
-- the magnitude converted, and the sign's bit on top makes that the argument converted.
use Rattle.std.proofs.Common.{◌≡◌, ℕ, ◌+◌, ◌-◌, ◌%◌, ◌<◌, Bool, true, false, true≢false, refl, cond, not, ◌&&◌, T, sym, ap, ◌∙◌, subst, arith, lit<}
use lib.Ieee.{Float, nan, inf, fin, binary32, binary64, neg, of_bits, to_bits, fits, is_nan}
use lib.Ieee.Fits.{and_i, neg-fits, cond-fits, fits_widens}
use lib.Ieee.Bits.{nan_bits_is, of_bits-to_bits}
use Rattle.floats.specs.Convert.{converted}
use Rattle.floats.specs.Signs.{negative}
use denote.Floats.{passes}
use Rattle.floats.proofs.Signs.{absolute, absolute_number, absolute_plus, converted_sign}
use Rattle.floats.proofs.Fields.{sign_off, sign_part, sign_on, magnitude_bits}
use Rattle.floats.proofs.Narrowed.{resigned, converted_fits, converted_not_nan}
use Rattle.floats.proofs.narrow.Goals as goal
use Rattle.floats.proofs.narrow.Goals.{After-nearest_f32-nearest, Else-is_nan}

number : (c : Else-is_nan) → T (not (is_nan c.args.x))
number c = rw (← c.is_nan.ensures.value, c.if-is_nan.false) tt

-- a NaN is the NaN
nan_only : (x : Float) → is_nan x ≡ true → x ≡ nan
unfolding is_nan
nan_only nan e = refl
nan_only (inf s) e = absurd (true≢false (sym e))
nan_only (fin s m d) e = absurd (true≢false (sym e))

-- what is passed on is the magnitude
passed : (c : Else-is_nan)
    → of_bits binary64 (to_bits binary64 c.args.x % 9223372036854775808) ≡ absolute c.args.x
passed c = sign_off c.args.x (passes _ c.well_formed.0.1)

-- what comes back: the magnitude converted, which has no minus sign and is a number
module _ (c : After-nearest_f32-nearest) where
  nearest : c.nearest_f32-nearest.result ≡ converted binary32 (absolute c.args.x)
  nearest = c.nearest_f32-nearest.ensures ∙ ap (converted binary32) (passed c.before)

  nearest_number : T (not (is_nan c.nearest_f32-nearest.result))
  nearest_number =
      subst (λ (y : Float). T (not (is_nan y))) (sym nearest)
      (converted_not_nan binary32 (absolute c.args.x) (absolute_number c.args.x (number c.before)))

  nearest_plus : negative c.nearest_f32-nearest.result ≡ false
  nearest_plus = ap negative nearest ∙ converted_sign binary32 (absolute c.args.x) ∙ absolute_plus c.args.x

  nearest_fits : T (fits binary32 c.nearest_f32-nearest.result)
  nearest_fits = subst (λ (y : Float). T (fits binary32 y)) (sym nearest) (converted_fits binary32 (absolute c.args.x))

  -- the bits with the sign's on top are those of the argument converted
  signed : of_bits binary64 (to_bits binary64 c.nearest_f32-nearest.result
      + (to_bits binary64 c.args.x - to_bits binary64 c.args.x %
      9223372036854775808))
      ≡ converted binary32 c.args.x
  signed =
      let x = c.args.x in
      let y = c.nearest_f32-nearest.result in
      ap (of_bits binary64)
      (ap (λ (s : ℕ). to_bits binary64 y + s) (sign_part x (passes _ c.well_formed.0.1)) ∙ sign_on (negative x) y nearest_number nearest_plus)
      ∙ of_bits-to_bits binary64 (cond (negative x) (neg y) y)
      (cond-fits binary64 (negative x) (neg y) y (neg-fits binary64 y (fits_widens y nearest_fits)) (fits_widens y nearest_fits))
      ∙ ap (λ (z : Float). cond (negative x) (neg z) z) nearest
      ∙ resigned x

converted_number : (c : After-nearest_f32-nearest) → T (not (is_nan (converted binary32 c.args.x)))
converted_number c = converted_not_nan binary32 c.args.x (number c.before)

pub returns-then-is_nan : goal.returns-then-is_nan
unfolding of_bits converted
returns-then-is_nan c = sym (ap (converted binary32) (nan_only c.args.x (sym c.is_nan.ensures.value ∙ c.if-is_nan.true)))

pub float_from_bits-unsigned : goal.float_from_bits-unsigned
float_from_bits-unsigned c =
    subst (λ (b : Bool). T (not b)) (sym (nan_bits_is binary64 (to_bits binary64 c.args.x % 9223372036854775808) ∙ ap is_nan (passed c)))
    (absolute_number c.args.x (number c))

pub nearest_f32-nearest-requires : goal.nearest_f32-nearest-requires
nearest_f32-nearest-requires c =
    subst (λ (y : Float). T (not (is_nan y)) × (negative y ≡ false)) (sym (passed c)) (absolute_number c.args.x (number c), absolute_plus c.args.x)

pub float_to_bits-result : goal.float_to_bits-result
float_to_bits-result c = nearest_number c

pub overflow_add-result : goal.overflow_add-result
overflow_add-result c =
    omega (arith, magnitude_bits c.nearest_f32-nearest.result (fits_widens c.nearest_f32-nearest.result (nearest_fits c)) (nearest_plus c), sign_small c)
  where
    sign_small : (c : After-nearest_f32-nearest)
        → to_bits binary64 c.args.x - to_bits binary64 c.args.x %
        9223372036854775808 < 9223372036854775809
    sign_small c =
        subst (λ (s : ℕ). s < 9223372036854775809) (sym (sign_part c.args.x (passes _ c.well_formed.0.1))) (one_bit (negative c.args.x))
      where
        one_bit : (s : Bool) → cond s 9223372036854775808 0 < 9223372036854775809
        one_bit true = lit< tt
        one_bit false = lit< tt

pub float_from_bits-result : goal.float_from_bits-result
float_from_bits-result c = subst (λ (b : Bool). T (not b)) (sym (nan_bits_is binary64 _ ∙ ap is_nan (signed c))) (converted_number c)

pub float_to_float-result : goal.float_to_float-result
float_to_float-result c =
    let y = converted binary32 c.args.x in
    subst (λ (z : Float). T (fits binary32 z && not (is_nan z))) (sym (signed c.before))
    (and_i (fits binary32 y) (not (is_nan y)) (converted_fits binary32 c.args.x) (converted_number c.before))

pub returns : goal.returns
returns c = signed c.before
