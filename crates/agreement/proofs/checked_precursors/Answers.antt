-- `agreement::checked_precursors` meets its contract: the questions' answer picks what is answered and left.
use Rattle.agreement.specs.Checked.{checked_precursors}
use Rattle.agreement.proofs.checked_precursors.Goals as goal

pub returns-in-Err : goal.returns-in-Err
unfolding checked_precursors
returns-in-Err c =
    let w = c.clear.ensures in
    rw (w.keys, w.spare, c.fill.ensures.after (λ y e. e), c.blank.ensures, c.blank-in-Err.ensures, ← c.ask.ensures, c.in-Err.is)
