-- `linear_discriminant::scatter::add_pair` meets its contract: two rows are read, the kept rows are added to them one
-- by one, entry by entry, and the two are written back.
use mathlib.Core.List.{[]}
use Prim.Native.Nat.{◌+◌}
use lib.ListN.{length, get_or}
use lib.Ieee.{nan}
use borrow.Author.Rules.{rules}
use Rattle.folds.proofs.Writing.{rewriting_start, rewriting_step, rewriting_done}
use Rattle.linear_discriminant.proofs.Accumulated.{length_accumulated, accumulated_none, accumulated_more, pair_done}
use Rattle.linear_discriminant.proofs.Blocks.{part_at}
use Rattle.linear_discriminant.proofs.Made.{made_tabulated}
use Rattle.linear_discriminant.proofs.scatter.add_pair.Goals as goal

pub loop-row-init : goal.loop-row-init
loop-row-init c =
    let a = c.args in (
      search rules,
      accumulated_none a.width a.kept.now a.j a.j a.table.now
          (made_tabulated _ nan c.from_fn-a.ensures.items (λ i y q h k. search rules)),
      accumulated_none a.width a.kept.now (a.j + 1) a.j a.table.now
          (made_tabulated _ nan c.from_fn-b.ensures.items (λ i y q h k. search rules)),
    )

pub loop-d-init : goal.loop-d-init
loop-d-init c =
    let a = c.args in
    let w = c.loop-row in (
      rewriting_start w.a (length_accumulated a.width a.kept.now a.j a.j a.table.now w.row-index w.invariant.1),
      rewriting_start w.b (length_accumulated a.width a.kept.now (a.j + 1) a.j a.table.now w.row-index w.invariant.2),
      search rules,
    )

pub loop-d-preserved : goal.loop-d-preserved
loop-d-preserved c =
    let a = c.args in
    let w = c.loop-d in
    let r = get_or a.kept.now c.loop-row.row-index [] in
    let z = part_at r a.j (a.j + a.width) w.d nan (search rules) in (
      rewriting_step w.invariant.0 (search rules) (rw (w.invariant.0.after w.d (search rules), z)),
      rewriting_step w.invariant.1 (search rules) (rw (w.invariant.1.after w.d (search rules), z)),
      search rules,
    )

pub loop-row-preserved : goal.loop-row-preserved
loop-row-preserved c =
    let a = c.args in
    let w = c.loop-row in
    let v = c.loop-d.invariant in (
      search rules,
      accumulated_more a.width a.kept.now a.j a.j a.table.now w.row-index w.invariant.1 (rewriting_done v.0 (search rules) (search rules)),
      accumulated_more a.width a.kept.now (a.j + 1) a.j a.table.now w.row-index w.invariant.2 (rewriting_done v.1 (search rules) (search rules)),
    )

pub returns : goal.returns
returns c =
    let a = c.args in
    let w = c.loop-row in
    pair_done a.width a.kept.now a.j a.table.now w.row-index (length a.kept.now) (search rules) (search rules) w.invariant.1 w.invariant.2
