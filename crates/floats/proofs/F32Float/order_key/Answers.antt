-- `order_key` of f32: the key is `key_nan`'s or `key_split`'s, and nothing wraps (`signed_fits`).
use Rattle.std.proofs.Common.{sym, ◌∙◌}
use lib.Ieee.{binary32}
use Rattle.floats.proofs.MinMax.{ne_self}
use Rattle.floats.proofs.TotalOrder.{key_nan, key_split, signed_fits, signed_below}
use Rattle.floats.proofs.F32Float.order_key.Goals as goal

pub returns-then-is_nan-clause-key : goal.returns-then-is_nan-clause-key
returns-then-is_nan-clause-key c = sym (key_nan binary32 _ (ne_self _ ∙ sym c.is_nan.ensures.value ∙ c.if-is_nan.true))

pub overflow_mul-result : goal.overflow_mul-result
overflow_mul-result c = record { fits = signed_below binary32 _ c.well_formed.0.1 }

pub overflow_sub-result : goal.overflow_sub-result
overflow_sub-result c = signed_fits binary32 _ c.well_formed.0.1

pub returns-clause-key : goal.returns-clause-key
returns-clause-key c = sym (key_split binary32 _ c.well_formed.0.1)
