-- A float's sign.
use Rattle.std.specs.Prelude.{Bool, false, Float}
use Rattle.std.specs.Float.{nan, inf, fin}

-- whether the sign is minus; the NaN counts as plus
abbrev pub negative : Float → Bool
negative nan = false
negative (inf s) = s
negative (fin s m e) = s
