-- `kde::bins::raise` meets its contract: the column is raised from the back (`Raising`).
use Rattle.kde.proofs.Raising.{Raising}
use Rattle.kde.proofs.bins.raise.Given as goal

abbrev pub invariant-loop-bin : goal.invariant-loop-bin
invariant-loop-bin l = Raising l.initial.most l.initial.bins l.bins l.bin l.most
