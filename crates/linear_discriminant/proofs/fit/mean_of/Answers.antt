-- `linear_discriminant::fit::mean_of` meets its contract: an array made place by place.
use borrow.Author.Rules.{rules}
use lib.Ieee.{nan}
use Rattle.linear_discriminant.specs.Inner.Passes.{mean_of}
use Rattle.linear_discriminant.proofs.Made.{made_tabulated}
use Rattle.linear_discriminant.proofs.fit.mean_of.Goals as goal

pub returns : goal.returns
unfolding mean_of
returns c = made_tabulated _ nan c.from_fn.ensures.items (λ i y q h k. search rules)
