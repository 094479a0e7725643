-- The invariant at one place fewer, and at none.
use Rattle.std.proofs.Common.{arith, refl, suc}
use Rattle.std.proofs.lemmas.Grind.{common_steps}
use Rattle.std.proofs.lemmas.List.{drop_all}
use Rattle.replay.proofs.Same.{place_more}
use Rattle.replay.proofs.Recording.same_column.Goals as goal

pub loop-x-preserved : goal.loop-x-preserved
loop-x-preserved g c = record {
  same = λ k e.
      let now = c.loop-x.invariant.same (suc k) (omega (arith, e)) in grind (arith, common_steps, place_more, now);
  rest = grind (arith, common_steps);
}

pub returns-clause-same : goal.returns-clause-same
returns-clause-same g c =
    let all = c.loop-x.invariant.same 0 (omega arith) in
    let done = drop_all c.loop-x.x-index c.args.column.now c.loop-x-test.false in
    (λ same. all.0 (same, rw done refl), λ e. (all.1 e).0)
