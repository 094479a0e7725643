-- `agreement::checked_spectra` meets its contract: where the q-values are accepted, the line at their count is right
-- (`spectra_right`).
use Rattle.agreement.proofs.Checked.{spectra_right}
use Rattle.agreement.proofs.checked_spectra.Goals as goal

pub returns : goal.returns
returns c =
    let a = c.args in
    spectra_right a.labels.now a.q.now _ _ c.spectrum_q_value.ensures _ _ c.in_ok-count.was c.check_line.ensures
