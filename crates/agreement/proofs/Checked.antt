-- Why the line after the rows that pass is right: demand 3, at the line that the q-values themselves give.
use mathlib.Core.Path.{◌≡◌, sym, ap, ap₂, ◌∙◌, subst}
use mathlib.Core.List.{List}
use Prim.Native.Nat.{ℕ, ◌≤◌}
use lib.IntN.{ℤ}
use lib.ListN.{length}
use lib.Ieee.{Float}
use Rattle.std.specs.Prelude.{Result, Ok}
use Rattle.columns.specs.Refusals.{longest, ◌and◌}
use Rattle.columns.specs.declared.Refusal.{Refusal}
use Rattle.counting.specs.Lines.{RightLine}
use Rattle.line_check.specs.Check.{per_of, counts_at, line_answer}
use Rattle.line_check.specs.declared.Rate.{Rate}
use Rattle.line_check.specs.declared.Rate.TheVariants.{OneIn100}
use Rattle.line_check.specs.declared.Line.{Line}
use Rattle.line_check.specs.declared.Line.TheVariants.{Right}
use Rattle.qvalue.specs.Spectrum.{SpectrumRun, spectrum_run, spectrum_q_value}
use Rattle.agreement.specs.Checked.{right_at}
use Rattle.agreement.proofs.Demand3.{demand_3, short}

-- a line that is the right one is answered Right
pub right_answer : (rate : Rate) (labels : List ℤ) (line right : ℕ) → length labels ≤ longest → right ≤ length labels
    → RightLine (per_of rate) labels right → line ≡ right
    → line_answer (per_of rate) labels line ≡ Ok (Right (counts_at labels line))
right_answer rate labels line right s l r e =
    subst (λ (n : ℕ). line_answer (per_of rate) labels n ≡ Ok (Right (counts_at labels n))) (sym e)
    ((demand_3.line_check rate labels right s l).if_right r)

-- the count of an accepted list of spectra
pub right_at_count : (labels : List ℤ) (q : List Float) (count : ℕ) → (spectrum_q_value labels q).answer ≡ Ok count
    → line_answer 100 labels count ≡ Ok (Right (counts_at labels count))
right_at_count labels q count a =
    let w = demand_3.one_right OneIn100 labels in
    let spectra = demand_3.spectra labels q count w.line a w.listed w.right in
    right_answer OneIn100 labels count w.line (short labels q count w.line a w.listed w.right) w.listed w.right spectra.count_is_line

-- ---- spectra: what the two calls give, one after the other

module _ (labels : List ℤ) (q q' : List Float) (r : Result ℕ Refusal)
    (e : spectrum_run r q' ≡ spectrum_q_value labels q) where
  pub spectra_right : (count : ℕ) (answer : Result Line Refusal) → r ≡ Ok count → answer ≡ line_answer 100 labels count
      → answer and q' ≡ right_at labels (spectrum_q_value labels q).answer and (spectrum_q_value labels q).q
  spectra_right count answer f g =
      let a : (spectrum_q_value labels q).answer ≡ Ok count = sym (ap (λ (w : SpectrumRun). w.answer) e) ∙ f in
      ap₂ (λ (x : Result Line Refusal) (y : List Float). x and y)
      (g ∙ right_at_count labels q count a ∙ ap (right_at labels) (sym a)) (ap (λ (w : SpectrumRun). w.q) e)
