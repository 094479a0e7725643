-- `linear_discriminant::scatter::centred` meets its contract: an array made place by place, and copied with its first
-- eight numbers once more.
use mathlib.Core.Path.{refl}
use Prim.Native.Nat.{ℕ}
use lib.ListN.{get_or}
use lib.Ieee.{nan, binary64, sub}
use borrow.Author.Rules.{rules}
use Rattle.folds.specs.Lists.{tabulated}
use Rattle.linear_discriminant.specs.Inner.Passes.{centred_row}
use Rattle.linear_discriminant.proofs.Made.{made_tabulated}
use Rattle.linear_discriminant.proofs.scatter.centred.Goals as goal

pub returns : goal.returns
unfolding centred_row tabulated
returns c =
    let a = c.args in
    let e = made_tabulated (λ (j : ℕ). sub binary64 (get_or a.features.now j nan) (get_or a.mean.now j nan)) nan c.from_fn-centred.ensures.items (λ i y q h k. search rules) in
    rw (c.copy_from_slice-2.ensures.after, c.copy_from_slice.ensures.after, e) refl
