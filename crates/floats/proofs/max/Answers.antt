-- `floats::max` meets its contract: its tests are those of `max_is`, and each return is what they then pick.
use Rattle.floats.proofs.Laws.{less_is}
use Rattle.floats.proofs.MinMax.{ne_self, max_is}
use Rattle.floats.proofs.max.Goals as goal

pub returns-then-lt : goal.returns-then-lt
returns-then-lt g c = let f = g.met.F.Float in rw (max_is, ← less_is _ _ f.compares, ← c.lt.ensures, c.if-lt.true)

pub returns-then-is_nan : goal.returns-then-is_nan
returns-then-is_nan g c =
    let f = g.met.F.Float in
    rw (max_is, ← less_is _ _ f.compares, ← c.lt.ensures, c.if-lt.false, ne_self, ← c.is_nan.ensures, c.if-is_nan.true)

pub returns : goal.returns
returns g c =
    let f = g.met.F.Float in
    rw (max_is, ← less_is _ _ f.compares, ← c.lt.ensures, c.if-lt.false, ne_self, ← c.is_nan.ensures, c.if-is_nan.false)
