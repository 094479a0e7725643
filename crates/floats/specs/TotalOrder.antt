-- The total order of floats. Document 01, module 1: "total_cmp"; IEEE 754-2019, 5.10, totalOrder, with one NaN, above
-- all.
use Rattle.std.specs.Prelude.{ℕ, ◌+◌, ◌-◌, ◌*◌, Bool, true, false, cond, not, ◌&&◌, ◌||◌, ℤ, pos, negsuc, Float}
use Rattle.std.specs.declared.cmp.Ordering.{Ordering}
use Rattle.std.specs.declared.cmp.Ordering.TheVariants.{Less, Equal, Greater}
use Rattle.std.specs.Float.{nan, inf, fin, Format}
use Rattle.std.specs.Float.Ieee.{lt, eq, top, to_bits}
use Rattle.floats.specs.Signs.{negative}

-- By value, and −0 before +0: −infinity, …, −0, +0, …, +infinity, NaN.
unfoldable pub before : Float → Float → Bool
unfolding lt eq
before nan y = false
before (inf s) nan = true
before (inf s) (inf t) = lt (inf s) (inf t)
before (inf s) (fin t n d) = lt (inf s) (fin t n d)
before (fin s m e) nan = true
before (fin s m e) (inf t) = lt (fin s m e) (inf t)
before (fin s m e) (fin t n d) = lt (fin s m e) (fin t n d) || (eq (fin s m e) (fin t n d) && (s && not t))

-- where x stands to y
unfoldable pub compared : Float → Float → Ordering
unfolding before
compared x y = cond (before x y) Less (cond (before y x) Greater Equal)

-- Rust's Ordering as i32: −1, 0, 1
abbrev pub sign_of : Ordering → ℤ
sign_of Less = negsuc 0
sign_of Equal = pos 0
sign_of Greater = pos 1

-- The key that ranking goes by: a number below 2 ^ 32 or 2 ^ 64 for each float of the format. The theorem `key_orders`
-- says that keys as numbers stand as `before` has it.
unfoldable pub order_key : Format → Float → ℕ
unfolding to_bits
order_key f x = cond (negative x) (2 * top f - 1 - to_bits f x) (top f + to_bits f x)
