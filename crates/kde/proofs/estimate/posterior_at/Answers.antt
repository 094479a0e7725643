-- `kde::estimate::posterior_at` meets its contract: its lower bin is the definition's by the contract of `lower_bin`,
-- and the rest is the definition's own operations.
use Rattle.kde.proofs.Steps.{posterior_by}
use Rattle.kde.proofs.estimate.posterior_at.Goals as goal

pub returns : goal.returns
returns c = posterior_by _ _ _ _ _ c.lower_bin-bin_lo.ensures c.min-bin_hi.ensures
