-- What the questions let pass.
use mathlib.Core.Path.{◌≡◌}
use Prim.Native.Nat.{ℕ, ◌≤◌}
use Rattle.std.specs.Prelude.{Ok}
use Rattle.columns.specs.Refusals.{longest}
use Rattle.columns.proofs.Questions.{asked_lengths}
use Rattle.qvalue.specs.Spectrum.{spectrum_asked}

pub spectrum_lengths : (labels q : ℕ) → spectrum_asked labels q ≡ Ok tt → (q ≡ labels) × (labels ≤ longest)
spectrum_lengths labels q e = asked_lengths labels q e
