-- Scores, narrowed.
use Rattle.std.specs.Prelude.{ℕ, List, get_or, Float}
use Rattle.std.specs.Float.{nan, binary32}
use Rattle.floats.specs.Convert.{converted}

-- the f32 nearest to score i
abbrev pub narrowed_score : List Float → ℕ → Float
narrowed_score scores i = converted binary32 (get_or scores i nan)
