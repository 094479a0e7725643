-- What the questions let pass to the work on bins: a bin at least, as many places in each column, and counts of a list
-- that is not too long.
use Rattle.std.specs.Prelude.{List, ◌≡◌, ℕ, ◌≤◌, length, Float}
use Rattle.columns.specs.Refusals.{longest}
use Rattle.kde.specs.declared.Builder.{Builder}
use Rattle.kde.specs.Bins.{Densities}

pub record BinsReady (builder : Builder) (decoys total : ℕ) (densities : Densities) (bins : List Float) : Type 0 where
  pub some : 1 ≤ builder.bins
  pub decoy_length : length densities.decoy ≡ builder.bins
  pub target_length : length densities.target ≡ builder.bins
  pub bins_length : length bins ≡ builder.bins
  pub decoys_few : decoys ≤ total
  pub total_few : total ≤ longest
