-- A NaN on either side of an operation gives a NaN.
use Rattle.std.proofs.Common.{◌≡◌, refl}
use lib.Ieee.{Float, nan, inf, fin, Format, add, sub, neg, mul, div}

module _ (f : Format) where
  pub add_nan : (x : Float) → add f x nan ≡ nan
  unfolding add
  add_nan nan = refl
  add_nan (inf s) = refl
  add_nan (fin s m e) = refl

  pub sub_nan : (x : Float) → sub f x nan ≡ nan
  unfolding sub neg
  sub_nan x = add_nan x

  pub mul_nan : (x : Float) → mul f x nan ≡ nan
  unfolding mul
  mul_nan nan = refl
  mul_nan (inf s) = refl
  mul_nan (fin s m e) = refl

  pub div_nan : (x : Float) → div f x nan ≡ nan
  unfolding div
  div_nan nan = refl
  div_nan (inf s) = refl
  div_nan (fin s m e) = refl

  pub nan_sub : (x : Float) → sub f nan x ≡ nan
  unfolding sub add
  nan_sub x = refl

  pub nan_div : (x : Float) → div f nan x ≡ nan
  unfolding div
  nan_div x = refl
