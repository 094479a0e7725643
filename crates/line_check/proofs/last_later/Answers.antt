-- `line_check::last_later` meets its contract: the pass of `Later`, row by row from the line on.
use native.Mathlib.Omega.{arith}
use borrow.Author.Rules.{rules}
use Rattle.counting.proofs.Tally.{tally_next, next_decoy, next_target}
use Rattle.line_check.proofs.Check.{rate_small}
use Rattle.line_check.proofs.Later.{later_start, later_tally, later_passed, later_found, product_fits}
use Rattle.line_check.proofs.last_later.Goals as goal

pub loop-so_far-init : goal.loop-so_far-init
loop-so_far-init c = later_start _ c.requires.row_in_bounds c.requires.own_counts

pub overflow_add-so_far-in-loop-so_far : goal.overflow_add-so_far-in-loop-so_far
overflow_add-so_far-in-loop-so_far c = omega (arith, next_decoy (later_tally c.loop-so_far.invariant) (search rules))

pub overflow_add-so_far-in-loop-so_far-2 : goal.overflow_add-so_far-in-loop-so_far-2
overflow_add-so_far-in-loop-so_far-2 c = omega (arith, next_target (later_tally c.loop-so_far.invariant) (search rules))

pub overflow_mul-per : goal.overflow_mul-per
overflow_mul-per c =
    product_fits _ _ (rw c.per_decoy-per.ensures (rate_small _))
    (omega (arith, next_decoy (later_tally c.loop-so_far.invariant) (search rules)))

pub loop-so_far-preserved-then-so_far-per : goal.loop-so_far-preserved-then-so_far-per
loop-so_far-preserved-then-so_far-per c =
    later_passed c.loop-so_far.invariant
    (tally_next (later_tally c.loop-so_far.invariant) (search rules) (search rules)) (search rules)
    _ (search rules)

pub loop-so_far-preserved : goal.loop-so_far-preserved
loop-so_far-preserved c =
    later_found c.loop-so_far.invariant
    (tally_next (later_tally c.loop-so_far.invariant) (search rules) (search rules)) (search rules)
    _ (search rules)
