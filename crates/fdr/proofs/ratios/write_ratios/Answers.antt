-- `fdr::ratios::write_ratios` meets its contract: the rows up to i have their ratios (`Summing`).
use mathlib.Core.Path.{sym, subst}
use mathlib.Core.Bool.{not}
use lib.Dec.{T}
use lib.Ieee.{Float, is_nan}
use Rattle.floats.specs.Constants.{f32_one}
use Rattle.floats.proofs.Order.{min_number_lem}
use Rattle.floats.proofs.Constants.{one_number}
use Rattle.fdr.proofs.Sums.{summing_step, summing_done}
use borrow.Author.Rules.{rules}
use Rattle.fdr.proofs.ratios.write_ratios.Goals as goal

pub with_number-requires : goal.with_number-requires
with_number-requires c = subst (λ (x : Float). T (not (is_nan x))) (sym c.min-q.ensures) (min_number_lem f32_one _ one_number)

pub loop-key-preserved : goal.loop-key-preserved
loop-key-preserved c =
    summing_step _ _ _ _ c.loop-key.invariant (search rules) _ _ _ _ _ c.score_of.ensures c.error_of-pep.ensures c.decoy_bit.ensures
    _ c.count_to_f32.ensures c.min-q.ensures c.with_number.ensures

pub returns : goal.returns
returns c = summing_done _ _ _ _ c.loop-key.invariant (search rules)
