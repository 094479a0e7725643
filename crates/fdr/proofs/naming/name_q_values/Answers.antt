-- `fdr::naming::name_q_values` meets its contract: what is left of the rows is to be written over the column
-- (`Naming`).
use mathlib.Core.Path.{ap, ◌∙◌}
use lib.ListN.{length, replicate}
use Rattle.fdr.specs.Inner.Passes.{written_at_names}
use Rattle.fdr.proofs.NameColumn.{naming_step, naming_done, one_bits}
use borrow.Author.Rules.{rules}
use Rattle.fdr.proofs.naming.name_q_values.Goals as goal

pub loop-key-preserved : goal.loop-key-preserved
loop-key-preserved c =
    naming_step _ _ _ c.loop-key.invariant (search rules) c.place_of.ensures c.decoy_bit.ensures _ c.name_of-name.ensures _ (c.from-in-loop-key.ensures ∙ c.upper_of.ensures)

pub returns : goal.returns
returns c =
    let a = c.args in
    naming_done _ _ _ c.loop-key.invariant (search rules) ∙ ap (written_at_names a.names a.keys.now)
    (c.fill.ensures.after (λ y e. e) ∙ ap (replicate (length a.column.now)) (c.from.ensures ∙ one_bits))
