-- `linear_discriminant::scatter::scatter_of` meets its contract: where row j has not the place, row k has.
use borrow.Author.Rules.{rules}
use Rattle.linear_discriminant.proofs.Halves.{scatter_own, scatter_other}
use Rattle.linear_discriminant.proofs.scatter.scatter_of.Goals as goal

pub returns-then-d-stored_width : goal.returns-then-d-stored_width
returns-then-d-stored_width c =
    let a = c.args in
    scatter_own a.table.now a.j a.k c.stored_place-d.ensures c.stored_width.ensures (search rules)

pub returns : goal.returns
returns c =
    let a = c.args in
    scatter_other a.table.now a.j a.k c.stored_place-d.ensures c.stored_width.ensures (search rules) c.stored_place.ensures
