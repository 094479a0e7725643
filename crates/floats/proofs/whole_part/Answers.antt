-- `floats::whole_part` meets its contract: how far it shifts, and what it leaves, are laws of Shifted.
use Rattle.std.proofs.Common.{arith}
use denote.Floats.{passes}
use Rattle.floats.proofs.Shifted.{ShiftedDigits, shifted_digits}
use Rattle.floats.proofs.whole_part.Goals as goal

bits : (c : goal.Start) → ShiftedDigits c.args.x
bits c = shifted_digits c.args.x (passes _ c.well_formed.0.1) c.requires.0 c.requires.1

pub overflow_sub-result : goal.overflow_sub-result
overflow_sub-result c = (bits c).most

pub overflow_shr-result : goal.overflow_shr-result
overflow_shr-result c = let h = (bits c).least in omega arith

pub returns : goal.returns
returns c = (bits c).is
