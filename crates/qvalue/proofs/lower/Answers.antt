-- `qvalue::lower` meets its contract: its comparison is that of `min_of_number`, and each return is what it then picks.
use Rattle.floats.proofs.MinMax.{min_of_number}
use Rattle.qvalue.proofs.lower.Goals as goal

pub returns-then-next-low : goal.returns-then-next-low
returns-then-next-low c = rw (min_of_number c.args.low c.args.next c.requires, c.if-next-low.true)

pub returns-else-next-low : goal.returns-else-next-low
returns-else-next-low c = rw (min_of_number c.args.low c.args.next c.requires, c.if-next-low.false)
