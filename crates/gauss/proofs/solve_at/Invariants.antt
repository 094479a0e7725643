-- `gauss::solve_at` meets its contract. The invariant (`Trying`): eps is that of some try, and no try before it solves
-- the system; the measure is how many tries are left.
use Rattle.gauss.proofs.Epsilons.{tries_left}
use Rattle.gauss.proofs.Solving.{Trying}
use Rattle.gauss.specs.Solutions.{joined}
use Rattle.gauss.proofs.solve_at.Given as goal

abbrev pub invariant-loop-eps : goal.invariant-loop-eps
invariant-loop-eps l = Trying l.fn.size (joined l.left l.right l.fn.size) l.eps

abbrev pub decreases-loop-eps : goal.decreases-loop-eps
decreases-loop-eps l = tries_left l.eps
