-- `fdr::ratios::key_number` meets its contract: the bits are no NaN's.
use mathlib.Core.Path.{sym, subst}
use mathlib.Core.Bool.{Bool, not}
use Prim.Native.Nat.{ℕ}
use lib.Dec.{T}
use lib.Ieee.{binary32, is_nan, of_bits}
use lib.Ieee.Bits.{nan_bits_is}
use Rattle.fdr.proofs.ratios.key_number.Goals as goal

pub float_from_bits-result : goal.float_from_bits-result
float_from_bits-result c =
    subst (λ (b : Bool). T (not b)) (sym (nan_bits_is binary32 _))
    (subst (λ (n : ℕ). T (not (is_nan (of_bits binary32 n)))) (sym c.upper_of.ensures) c.requires.number)
