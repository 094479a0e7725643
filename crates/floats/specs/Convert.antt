-- Conversion between the two formats. Document 01, module 1: "Narrowing f64 to f32 to nearest, ties to even; widening".
use Rattle.std.specs.Prelude.{◌*◌, Float}
use Rattle.std.specs.Float.{nan, inf, fin, Format}
use Rattle.std.specs.Float.Ieee.{up, down, round}

-- IEEE 754-2019, 5.4.2, convertFormat under roundTiesToEven: one rounding of the exact value to the format. A NaN gives
-- the NaN, an infinity stays, what is too large for the format becomes an infinity, and a zero, rounded to or not, has
-- x's sign.
unfoldable pub converted : Format → Float → Float
unfolding round
converted f nan = nan
converted f (inf s) = inf s
converted f (fin s m e) = round f s (m * up e) (down e)
