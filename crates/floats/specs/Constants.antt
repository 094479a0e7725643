-- Literals of the Rust, by their bits.
use Rattle.std.specs.Prelude.{from_bits, Float}
use Rattle.std.specs.Float.{binary32, binary64}
use Rattle.std.specs.Float.Ieee.{neg}

-- 1.0f32, and f32::MIN, the least finite f32
abbrev pub f32_one : Float
f32_one = from_bits binary32 0x3F800000

abbrev pub f32_min : Float
f32_min = from_bits binary32 0xFF7FFFFF

-- 0.0, 1.0, f64::MAX, and f64::MIN, the least finite f64
abbrev pub f64_zero : Float
f64_zero = from_bits binary64 0

abbrev pub f64_one : Float
f64_one = from_bits binary64 0x3FF0000000000000

abbrev pub f64_max : Float
f64_max = from_bits binary64 0x7FEFFFFFFFFFFFFF

abbrev pub f64_min : Float
f64_min = neg f64_max
