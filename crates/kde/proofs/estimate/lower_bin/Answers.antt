-- `kde::estimate::lower_bin` meets its contract: the number of steps is held as a float between 1/2 and 1/2 past the
-- last bin, and then cut.
use mathlib.Core.Path.{◌≡◌, sym, ap, ◌∙◌}
use Prim.Native.Nat.{min}
use native.Mathlib.Omega.{arith}
use lib.Ieee.{of_bits, to_unsigned}
use Rattle.floats.specs.MinMax.{min_number}
use Rattle.floats.proofs.Convert.{past_half, held, held_range, held_is}
use Rattle.kde.proofs.Steps.{quotient, steps_are}
use Rattle.kde.proofs.estimate.lower_bin.Goals as goal
use Rattle.kde.proofs.estimate.lower_bin.Goals.{After-min-held}

-- the number that is cut
cut : (c : After-min-held)
    → let a = c.args in c.min-held.result
    ≡ held a.last (quotient a.estimator a.score)
unfolding of_bits
cut c = c.min-held.ensures ∙ ap (min_number (past_half c.args.last)) c.max.ensures

pub whole_part-requires : goal.whole_part-requires
whole_part-requires c = rw (cut c) (held_range c.args.last (omega arith) _)

pub returns : goal.returns
unfolding of_bits
returns c =
    let a = c.args in
    c.whole_part.ensures
    ∙ ap (to_unsigned 64) (c.min-held.ensures ∙ ap (min_number (past_half a.last)) c.max.ensures)
    ∙ held_is a.last (omega arith) (quotient a.estimator a.score)
    ∙ ap (min a.last) (sym (steps_are a.estimator a.score))
