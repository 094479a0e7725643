-- What the questions let pass, as the two calls ask it.
use Rattle.std.specs.Prelude.{◌≡◌, ℕ, ◌≤◌}
use Rattle.columns.specs.Refusals.{longest}

pub record CheckedReady (labels scores keys spare ranked order q : ℕ) : Type 0 where
  pub short : labels ≤ longest
  pub scores_match : scores ≡ labels
  pub keys_match : keys ≡ labels
  pub spare_match : spare ≡ labels
  pub ranked_match : ranked ≡ labels
  pub order_match : order ≡ labels
  pub q_match : q ≡ labels
