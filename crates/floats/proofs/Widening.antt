-- A value that the format holds is converted to itself.
use Rattle.std.proofs.Common.{◌≡◌, T, refl}
use lib.Ieee.{Float, nan, inf, fin, Format, binary32, binary64, fits}
use lib.Ieee.Fits.{fits_widens}
use Rattle.floats.specs.Convert.{converted}
use Rattle.floats.proofs.Values.{round_self}

pub converted_self : (f : Format) (x : Float) → T (fits f x) → converted f x ≡ x
unfolding converted
converted_self f nan h = refl
converted_self f (inf s) h = refl
converted_self f (fin s m e) h = round_self f s m e h

pub widened : (x : Float) → T (fits binary32 x) → converted binary64 x ≡ x
widened x h = converted_self binary64 x (fits_widens x h)
