-- What the questions let pass, as the passes over a list of scores ask it.
use Rattle.std.specs.Prelude.{◌≡◌, ℕ, ◌≤◌}
use Rattle.columns.specs.Refusals.{longest}

-- the working columns and the result of a list of scores
pub record PrecursorReady (scores keys spare result : ℕ) : Type 0 where
  pub short : scores ≤ longest
  pub keys_match : keys ≡ scores
  pub spare_match : spare ≡ scores
  pub result_match : result ≡ scores
