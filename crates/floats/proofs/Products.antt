-- A product of floats commutes, bit for bit.
use Rattle.std.proofs.Common.{◌≡◌, ◌*◌, Bool, true, false, cond, eqb, refl, ap, mul_comm}
use lib.Ieee.{Float, nan, inf, fin, Format, up, down, unlike, mul}

unlike_comm : (s t : Bool) → unlike s t ≡ unlike t s
unlike_comm true true = refl
unlike_comm true false = refl
unlike_comm false true = refl
unlike_comm false false = refl

pub product_commutes : (f : Format) (x y : Float) → mul f x y ≡ mul f y x
unfolding mul
product_commutes f nan nan = refl
product_commutes f nan (inf t) = refl
product_commutes f nan (fin t n d) = refl
product_commutes f (inf s) nan = refl
product_commutes f (inf s) (inf t) = ap inf (unlike_comm s t)
product_commutes f (inf s) (fin t n d) = ap (λ (u : Bool). cond (eqb n 0) nan (inf u)) (unlike_comm s t)
product_commutes f (fin s m e) nan = refl
product_commutes f (fin s m e) (inf t) = ap (λ (u : Bool). cond (eqb m 0) nan (inf u)) (unlike_comm s t)
product_commutes f (fin s m e) (fin t n d) = rw (unlike_comm s t, mul_comm (m * up e) (n * up d), mul_comm (down e) (down d))
