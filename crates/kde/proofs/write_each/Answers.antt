-- `kde::write_each` meets its contract: the column is written from the front (`Writing`), each place by `f`.
use borrow.Author.Rules.{rules}
use Rattle.folds.proofs.Writing.{writing_next, writing_mapped}
use Rattle.kde.proofs.write_each.Goals as goal

pub loop-i-preserved : goal.loop-i-preserved
loop-i-preserved g c = λ h e. writing_next _ (c.loop-i.invariant h e) (search rules) (e _ _ c.f.ensures)

pub returns : goal.returns
returns g c = λ h e. writing_mapped h _ _ (c.loop-i.invariant h e) c.requires.to_len (search rules)
