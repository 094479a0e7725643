-- `qvalue::spectrum_q_value` meets its contract: the questions' answer picks what is answered and left.
use mathlib.Core.Path.{sym, ◌∙◌}
use Rattle.counting.specs.QValues.{q_values}
use Rattle.columns.proofs.Questions.{if_accepted, refused_run}
use Rattle.qvalue.specs.Spectrum.{spectrum_run, spectrum_q_value}
use Rattle.qvalue.proofs.spectrum_q_value.Goals as goal

pub returns-in_err-or_blank : goal.returns-in_err-or_blank
unfolding spectrum_q_value
returns-in_err-or_blank c =
    refused_run spectrum_run _ _ _ c.ask-asked.ensures c.or_blank.ensures.answer c.in_err-or_blank.was c.from_residual.ensures.1 c.or_blank.ensures.column

pub returns : goal.returns
unfolding spectrum_q_value q_values
returns c =
    let e = sym c.ask-asked.ensures ∙ sym c.or_blank.ensures.answer ∙ c.in_ok-or_blank.was in
    rw (c.take_minima.ensures.count, c.take_minima.ensures.column, c.write_ratios.ensures)
    (sym (if_accepted _ _ e))
