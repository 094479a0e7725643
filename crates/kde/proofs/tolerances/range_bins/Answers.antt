-- `kde::tolerances::range_bins` meets its contract by those of its calls.
-- the count
use mathlib.Core.Path.{◌≡◌, ap, ◌∙◌}
use lib.Ieee.{binary32, to_unsigned}
use Rattle.floats.specs.Whole.{ceiled}
use Rattle.kde.specs.Tolerances.{range_bins}
use Rattle.kde.proofs.tolerances.range_bins.Goals as goal
use Rattle.kde.proofs.tolerances.range_bins.Goals.{After-to_usize-bins}

count : (c : After-to_usize-bins)
    → c.to_usize-bins.result ≡ range_bins c.args.lo c.args.hi
    c.args.least
unfolding range_bins
count c =
    c.to_usize-bins.ensures
    ∙ ap (to_unsigned 64) (c.ceil.ensures ∙ ap (ceiled binary32) c.max.ensures)

pub returns-then-not-in_range : goal.returns-then-not-in_range
returns-then-not-in_range c = rw (← (count c.before.before), ← c.in_range.ensures, c.if-not-in_range.true)

pub returns : goal.returns
returns c = rw (← (count c.before.before), ← c.in_range.ensures, c.if-not-in_range.false)
