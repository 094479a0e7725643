-- `linear_discriminant::scores::score_all` meets its contract. The invariant: both columns hold the definition's values
-- up to the block (`WrittenTo`); the measure is what is left of the rows.
use Prim.Native.Nat.{◌-◌}
use Rattle.linear_discriminant.specs.Scores.{score_at, narrowed_at}
use Rattle.linear_discriminant.proofs.Blocks.{WrittenTo}
use Rattle.linear_discriminant.proofs.scores.score_all.Given as goal

abbrev pub invariant-loop-from : goal.invariant-loop-from
invariant-loop-from l =
    WrittenTo (score_at l.coefficients l.features) l.rows l.scores l.from
    × WrittenTo (narrowed_at l.coefficients l.features) l.rows l.narrowed l.from

abbrev pub decreases-loop-from : goal.decreases-loop-from
decreases-loop-from l = l.rows - l.from
