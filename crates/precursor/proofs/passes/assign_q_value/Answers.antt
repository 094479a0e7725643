-- `precursor::passes::assign_q_value` meets its contract: `Assigned` is its loop's invariant.
use mathlib.Core.Path.{sym}
use Prim.Native.Nat.{◌≤◌}
use native.Mathlib.Omega.{arith}
use lib.ListN.{length}
use Rattle.floats.proofs.Ratio.{one_in_20}
use Rattle.precursor.proofs.Assigned.{assigned_start, assigned_step, left_start, left_next, all_counts, target_left}
use Rattle.precursor.proofs.passes.assign_q_value.Goals as goal
use Rattle.precursor.proofs.passes.assign_q_value.Goals.{After-count_decoys-decoy}

decoys_fit : (c : After-count_decoys-decoy)
    → c.count_decoys-decoy.result ≤ length c.args.keys.now
decoys_fit c = omega (arith, c.count_decoys-decoy.ensures, all_counts c.args.keys.now)

pub overflow_add-decoy : goal.overflow_add-decoy
overflow_add-decoy c = omega (arith, decoys_fit c)

pub overflow_sub-target : goal.overflow_sub-target
overflow_sub-target c = omega (arith, decoys_fit c)

pub loop-key-init : goal.loop-key-init
loop-key-init c =
    rw (c.into_iter-key-iterator.ensures.into_iter_gives, c.rev-key-items.ensures.source, c.iter.ensures.rest)
    (left_start c.args.keys.now, assigned_start _ _ _ c.count_decoys-decoy.ensures)

pub overflow_sub-target-in-loop-key-2 : goal.overflow_sub-target-in-loop-key-2
overflow_sub-target-in-loop-key-2 c =
    let t = left_next c.loop-key.invariant.0 c.in-Some.ensures.steps in
    omega (arith, rw t.is at c.decoy_bit-is_decoy.ensures, target_left c.loop-key.invariant.1 _ t.fewer)

pub loop-key-preserved : goal.loop-key-preserved
loop-key-preserved c =
    let t = left_next c.loop-key.invariant.0 c.in-Some.ensures.steps in (
      t.left,
      assigned_step c.loop-key.invariant.1 _ t.fewer _ _ _ _ (rw t.is at c.decoy_bit-is_decoy.ensures) (rw t.is at c.place_of.ensures)
          (rw (← c.count_to_f32.ensures, ← c.count_to_f32-in-loop-key.ensures) c.min-q_min.ensures) (sym one_in_20),
    )
