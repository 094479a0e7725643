-- `kde::bins::raise` meets its contract: the column is raised from the back (`Raising`).
use Rattle.kde.specs.Bins.{raised}
use Rattle.kde.proofs.Raising.{raising_start, raising_step, raising_done}
use borrow.Author.Rules.{rules}
use Rattle.kde.proofs.bins.raise.Goals as goal

pub loop-bin-init : goal.loop-bin-init
loop-bin-init c = raising_start _ _

pub loop-bin-preserved : goal.loop-bin-preserved
loop-bin-preserved c = raising_step _ _ c.loop-bin.invariant (search rules) c.max-most.ensures

pub returns : goal.returns
unfolding raised
returns c = raising_done c.loop-bin.invariant (search rules)
