-- The smaller and the larger of two floats. Document 01, module 1: "f32 and f64 min and max that ignore a NaN", and
-- "When both zeros meet in min or max, the port keeps the accumulated one": the first argument.
use Rattle.std.specs.Prelude.{cond, Float}
use Rattle.std.specs.Float.{nan, inf, fin}
use Rattle.std.specs.Float.Ieee.{lt}

-- the other where one is a NaN; the second where it is less; and the first
unfoldable pub min_number : Float → Float → Float
unfolding lt
min_number nan b = b
min_number (inf s) b = cond (lt b (inf s)) b (inf s)
min_number (fin s m e) b = cond (lt b (fin s m e)) b (fin s m e)

-- the other where one is a NaN; the second where it is larger; and the first
unfoldable pub max_number : Float → Float → Float
unfolding lt
max_number nan b = b
max_number (inf s) b = cond (lt (inf s) b) b (inf s)
max_number (fin s m e) b = cond (lt (fin s m e) b) b (fin s m e)
