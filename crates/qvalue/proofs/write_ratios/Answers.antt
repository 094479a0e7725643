-- `qvalue::write_ratios` meets its contract: the counts of a row are those of the row before and the label's test
-- (`Tally`), and the column is that of the ratios up to the row (`Rated`).
use native.Mathlib.Omega.{arith}
use borrow.Author.Rules.{rules}
use Rattle.counting.proofs.ColumnPasses.{rated_start, rated_next, rated_done}
use Rattle.counting.proofs.Tally.{tally_next, next_decoy, next_target}
use Rattle.qvalue.proofs.write_ratios.Goals as goal

pub loop-i-init : goal.loop-i-init
loop-i-init c = rated_start c.requires.q_len

pub overflow_add-decoy : goal.overflow_add-decoy
overflow_add-decoy c = omega (arith, next_decoy c.loop-i.invariant.tally (search rules))

pub overflow_add-target : goal.overflow_add-target
overflow_add-target c = omega (arith, next_target c.loop-i.invariant.tally (search rules))

pub count_to_f32-requires : goal.count_to_f32-requires
count_to_f32-requires c = omega (arith, next_decoy c.loop-i.invariant.tally (search rules))

pub count_to_f32-requires-in-loop-i : goal.count_to_f32-requires-in-loop-i
count_to_f32-requires-in-loop-i c = omega (arith, next_target c.loop-i.invariant.tally (search rules))

pub loop-i-preserved : goal.loop-i-preserved
loop-i-preserved c =
    rw (c.count_to_f32.ensures, c.count_to_f32-in-loop-i.ensures)
    (rated_next c.loop-i.invariant (search rules)
    (tally_next c.loop-i.invariant.tally (search rules) c.is_decoy-1.given))

pub returns : goal.returns
returns c = rated_done c.loop-i.invariant (search rules)
