-- Keys of rows, where something else than a list of labels tells which rows are decoys.
use Rattle.std.specs.Prelude.{◌≡◌, List, ℕ, Bool, ◌<◌, length, get_or, Float}
use Rattle.std.specs.Float.{nan, binary32}
use Rattle.floats.specs.Convert.{converted}
use Rattle.ranking.specs.Inner.Layout.{packed, payload}

-- each of the first n places has the key of its row, which is a decoy as `told` says
pub record Keyed (told : ℕ → Bool → Type 0) (scores : List Float) (keys : List ℕ) (n : ℕ) : Type 0 where
  pub same : length keys ≡ length scores
  pub each : (place : ℕ) → place < n → (decoy : Bool) × told place decoy
      × (get_or keys place 0 ≡ packed (converted binary32 (get_or scores place nan)) (payload place decoy))
