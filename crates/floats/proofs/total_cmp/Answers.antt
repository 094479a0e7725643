-- `floats::total_cmp` meets its contract: the keys compare as the floats do.
use Rattle.floats.proofs.TotalOrder.{by_keys}
use Rattle.floats.proofs.total_cmp.Goals as goal

pub returns : goal.returns
returns g c =
    let x = c.order_key.ensures in
    let y = c.order_key-2.ensures in
    rw (c.cmp.ensures, g.met.F.Float.keys_compare, by_keys g.F.Float.format _ _ _ _ x.in_format y.in_format x.key y.key)
