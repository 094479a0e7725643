-- `gauss::join_row` meets its contract: a copy, which is a walk along the row (`copied`).
use mathlib.Core.Path.{ap, ◌∙◌}
use mathlib.Core.List.{◌++◌}
use lib.ListN.{set, drop}
use borrow.Author.Rules.{rules}
use Rattle.gauss.specs.Elimination.{Vector}
use Rattle.gauss.specs.Inner.Rows.{row_joined}
use Rattle.gauss.proofs.WithinRow.{copied}
use Rattle.gauss.proofs.join_row.Goals as goal

pub returns : goal.returns
unfolding row_joined
returns c =
    let a = c.args in
    let size = a.size.rows in
    let after = ap (λ (front : Vector). front ++ drop size a.row.now) c.copy_from_slice.ensures.after in
    ap (λ (r : Vector). set r 20 a.right) (after ∙ copied size a.left.now a.row.now (search rules) (search rules))
