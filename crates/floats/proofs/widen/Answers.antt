-- `floats::widen` meets its contract: f64 holds every f32, so that rounding to it changes nothing.
use Rattle.std.proofs.Common.{sym, ◌∙◌}
use denote.Floats.{passes}
use Rattle.floats.proofs.Widening.{widened}
use Rattle.floats.proofs.widen.Goals as goal

pub returns : goal.returns
returns c = c.from.ensures ∙ sym (widened c.args.x (passes _ c.well_formed.0.1))
