-- Whole numbers below and above a float. Document 01, module 1: "floor and ceil".
use Rattle.std.specs.Prelude.{ℕ, ◌+◌, ◌-◌, ◌*◌, ◌/◌, cond, Float}
use Rattle.std.specs.Float.{nan, inf, fin, Format}
use Rattle.std.specs.Float.Ieee.{up, down, round}

-- the least whole number not below a / c, for a c above 0
abbrev pub ceiling : ℕ → ℕ → ℕ
ceiling a c = (a + (c - 1)) / c

-- IEEE 754-2019, 5.9, roundToIntegralTowardNegative: the greatest whole number not above x, with x's sign where it is
-- zero. So the magnitude of a negative x goes up to the next whole number, and that of any other goes down.
unfoldable pub floored : Format → Float → Float
unfolding round
floored f nan = nan
floored f (inf s) = inf s
floored f (fin s m e) = round f s (cond s (ceiling (m * up e) (down e)) (m * up e / down e)) 1

-- IEEE 754-2019, 5.9, roundToIntegralTowardPositive: the least whole number not below x, with x's sign where it is
-- zero.
unfoldable pub ceiled : Format → Float → Float
unfolding round
ceiled f nan = nan
ceiled f (inf s) = inf s
ceiled f (fin s m e) = round f s (cond s (m * up e / down e) (ceiling (m * up e) (down e))) 1
