-- `floats::nearest_f32` meets its contract: each way out is a law of proofs/Narrowed.antt.
use Rattle.std.proofs.Common.{◌/◌, ◌≤◌, sym, ◌∙◌, arith}
use lib.Ieee.{binary64, div, of_bits, to_bits}
use denote.Floats.{passes}
use Rattle.floats.proofs.Fields.{no_nan}
use Rattle.floats.proofs.Narrowed.{infinite, field_lt, max_unit, sum_rounds}
use Rattle.floats.proofs.nearest_f32.Goals as goal

exponent_lt : (c : goal.Else-size) → to_bits binary64 c.args.size / 4503599627370496 ≤ 1150
exponent_lt c = field_lt c.args.size (passes _ c.well_formed.0.1) c.requires.0 c.requires.1 c.if-size.false

pub returns-then-size : goal.returns-then-size
unfolding div of_bits
returns-then-size c = sym (infinite c.args.size (passes _ c.well_formed.0.1) c.requires.1 c.if-size.true)

pub overflow_add-exponent : goal.overflow_add-exponent
overflow_add-exponent c = omega (arith, exponent_lt c)

pub overflow_mul-exponent : goal.overflow_mul-exponent
overflow_mul-exponent c = omega (arith, exponent_lt c)

pub float_from_bits-exponent : goal.float_from_bits-exponent
float_from_bits-exponent c = no_nan _ (omega (arith, exponent_lt c))

pub returns : goal.returns
returns c =
    sum_rounds c.args.size c.max-power.result (passes _ c.well_formed.0.1) c.requires.0 c.requires.1 c.if-size.false
    (c.max-power.ensures ∙ max_unit (to_bits binary64 c.args.size / 4503599627370496) (exponent_lt c.before))
