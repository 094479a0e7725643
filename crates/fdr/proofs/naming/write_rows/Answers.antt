-- `fdr::naming::write_rows` meets its contract: the column is written from the front (`Writing`).
use mathlib.Core.Path.{ap, ◌∙◌}
use mir.Syntax.{w32}
use mir.ValLaws.{to_z-of_z}
use lib.IntN.{pos}
use lib.ListN.{get_or}
use Rattle.folds.proofs.Writing.{writing_step, writing_done}
use Rattle.fdr.specs.Inner.Passes.{read_at_name}
use borrow.Author.Rules.{rules}
use Rattle.fdr.proofs.naming.write_rows.Goals as goal

pub loop-i-preserved : goal.loop-i-preserved
loop-i-preserved c =
    let a = c.args in
    let i = c.loop-i.i in
    writing_step c.loop-i.invariant (search rules)
    (c.row_q.ensures
    ∙ ap (read_at_name a.names a.column.now (get_or a.slots.now i 0)) (to_z-of_z w32 (get_or a.labels.now i (pos 0)) (search rules)))

pub returns : goal.returns
returns c = writing_done c.loop-i.invariant (search rules)
