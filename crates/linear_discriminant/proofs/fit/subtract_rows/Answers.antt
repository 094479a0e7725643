-- `linear_discriminant::fit::subtract_rows` meets its contract: an array made place by place.
use borrow.Author.Rules.{rules}
use lib.Ieee.{nan}
use Rattle.linear_discriminant.specs.Inner.Passes.{row_difference}
use Rattle.linear_discriminant.proofs.Made.{made_tabulated}
use Rattle.linear_discriminant.proofs.fit.subtract_rows.Goals as goal

pub returns : goal.returns
unfolding row_difference
returns c = made_tabulated _ nan c.from_fn.ensures.items (λ i y q h k. search rules)
