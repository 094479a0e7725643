-- `linear_discriminant::fit::add_row` meets its contract: an array made place by place.
use Prim.Native.Nat.{ℕ}
use borrow.Author.Rules.{rules}
use lib.ListN.{get_or}
use lib.Ieee.{nan, binary64, add}
use Rattle.folds.specs.Lists.{tabulated}
use Rattle.linear_discriminant.specs.Inner.Passes.{added_row}
use Rattle.linear_discriminant.proofs.Made.{made_tabulated}
use Rattle.linear_discriminant.proofs.fit.add_row.Goals as goal

pub returns : goal.returns
unfolding added_row tabulated
returns c =
    let a = c.args in
    made_tabulated (λ (j : ℕ). add binary64 (get_or a.sum.now j nan) (get_or a.row.now j nan)) nan c.from_fn.ensures.items (λ i y q h k. search rules)
