-- `columns::blank` meets its contract: std's `fill`, at a type whose copies are the same.
use Rattle.columns.proofs.blank.Goals as goal

pub returns : goal.returns
returns g c = rw (← c.blank.ensures) (c.fill.ensures.after (g.met.T.HasBlank.copies c.blank.result).1)
