-- The invariant at one number fewer, and at none.
use Rattle.std.proofs.Common.{arith, suc}
use Rattle.std.proofs.lemmas.Grind.{common_steps}
use Rattle.replay.proofs.Recording.read_column.Goals as goal

pub loop-i-preserved : goal.loop-i-preserved
loop-i-preserved g c = record {
  column = λ k e.
      let now = c.loop-i.invariant.column (suc k) (omega (arith, e)) in grind (arith, common_steps, now);
  rest = grind (arith, common_steps);
}

pub returns-clause-column : goal.returns-clause-column
returns-clause-column g c =
    let all = c.loop-i.invariant.column 0 (omega arith) in grind (arith, common_steps, all)
