-- `kde::estimate::posterior_error` meets its contract: question 3, and then the definition by `posterior_at`.
use Rattle.kde.specs.Estimate.{posterior_answer}
use Rattle.kde.proofs.estimate.posterior_error.Goals as goal

pub returns-then-not-in_range : goal.returns-then-not-in_range
unfolding posterior_answer
returns-then-not-in_range c = rw (← c.in_range.ensures, c.if-not-in_range.true)

pub returns : goal.returns
unfolding posterior_answer
returns c = rw (← c.in_range.ensures, c.if-not-in_range.false, c.posterior_at.ensures)
