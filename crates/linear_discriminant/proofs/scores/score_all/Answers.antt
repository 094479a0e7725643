-- `linear_discriminant::scores::score_all` meets its contract. The invariant: both columns hold the definition's values
-- up to the block (`WrittenTo`); the measure is what is left of the rows.
use mathlib.Core.Path.{ap, ◌∙◌}
use native.Mathlib.Omega.{arith}
use lib.Ieee.{nan, binary32}
use borrow.Author.Rules.{rules}
use Rattle.floats.specs.Convert.{converted}
use Rattle.linear_discriminant.proofs.Blocks.{part_at, block_score, block_written, all_written}
use Rattle.linear_discriminant.proofs.scores.score_all.Goals as goal

pub loop-from-preserved : goal.loop-from-preserved
loop-from-preserved c =
    let a = c.args in
    let e = c.min.ensures in
    let w = c.loop-from.invariant in
    let scored = block_written w.0 (search rules) (search rules) (block_score a.coefficients.now a.features.now _ _) c.score_block.ensures in
    (scored, block_written w.1 (search rules) (search rules) (λ i p. ap (converted binary32) (part_at _ _ _ i nan p ∙ scored.is _ (omega arith))) c.narrow_block.ensures)

pub returns : goal.returns
returns c =
    let w = c.loop-from.invariant in
    record { scores = all_written w.0 (search rules); narrowed = all_written w.1 (search rules) }

pub returns-2 : goal.returns-2
returns-2 c =
    let a = c.args in
    let e = c.min.ensures in
    let w = c.loop-from.invariant in
    let scored = block_written w.0 (search rules) (search rules) (block_score a.coefficients.now a.features.now _ _) c.score_block.ensures in
    let narrowed = block_written w.1 (search rules) (search rules) (λ i p. ap (converted binary32) (part_at _ _ _ i nan p ∙ scored.is _ (omega arith))) c.narrow_block.ensures in
    record { scores = all_written scored (omega arith); narrowed = all_written narrowed (omega arith) }
