-- `floats::to_u64` is Rust's `as u64`: from 2^64 on the greatest number, from 2^53 on the toolchain's cut, and else
-- the whole part of the larger of 1/2 and x, as an f64. The tests give their numbers by bits, which compute under
-- `unfolding of_bits`.
use Rattle.std.proofs.Common.{true, false, pos, sym, ap, ◌∙◌, true≢false}
use lib.Ieee.{fin, of_bits, lt, is_nan, to_unsigned}
use lib.Ieee.Bits.{is_true}
use denote.Floats.{passes}
use Rattle.floats.proofs.Order.{le_right, not_le→lt, lt_of_lt_of_le}
use Rattle.floats.proofs.Convert.{convert_above, convert_max_half, from_half, half_below}
use Rattle.floats.proofs.to_u64.Goals as goal

pub returns-then-wide-2 : goal.returns-then-wide-2
unfolding of_bits
returns-then-wide-2 g c =
    rw (← g.met.F.Float.widens c.args.x c.into-wide.result c.into-wide.ensures) (sym (convert_above 64 c.into-wide.result (passes _ c.if-wide-2.true)))

pub truncating_f64_to_u64-requires-clause-lower_bound : goal.truncating_f64_to_u64-requires-clause-lower_bound
unfolding of_bits lt is_nan
truncating_f64_to_u64-requires-clause-lower_bound g c =
    lt_of_lt_of_le (fin true 1 (pos 0)) (fin false 1 (pos 53)) c.into-wide.result tt (passes _ c.if-wide.true)

pub truncating_f64_to_u64-requires-clause-upper_bound : goal.truncating_f64_to_u64-requires-clause-upper_bound
unfolding of_bits lt is_nan
truncating_f64_to_u64-requires-clause-upper_bound g c =
    let x = c.into-wide.result in
    not_le→lt x (fin false 1 (pos 64)) (le_right (fin false 1 (pos 53)) x (passes _ c.if-wide.true)) tt
    (λ t. true≢false (sym (is_true _ t) ∙ c.if-wide-2.false))

pub whole_part-requires : goal.whole_part-requires
unfolding of_bits
whole_part-requires g c =
    let x = c.into-wide.result in rw c.max.ensures (from_half x, half_below x c.if-wide.false)

pub returns : goal.returns
unfolding of_bits
returns g c =
    c.whole_part.ensures ∙ ap (to_unsigned 64) c.max.ensures ∙ convert_max_half 64 c.into-wide.result
    ∙ ap (to_unsigned 64) (g.met.F.Float.widens c.args.x c.into-wide.result c.into-wide.ensures)
