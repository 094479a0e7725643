-- The q-values of ranked sides. Document 01, module 5: "Every row, target or decoy, adds its posterior error (narrowed)
-- to a running f32 that starts at 1.0; q is that over the targets so far, then the minimum from the bottom starting at
-- 1.0. The count takes targets at or under 0.01 only."
use Rattle.std.specs.Prelude.{List, [], ◌∷◌, map, cond, ℕ, suc, ℤ, pos, negsuc, Float}
use Rattle.std.specs.Float.{binary32, binary64}
use Rattle.std.specs.Float.Ieee.{add, div}
use Rattle.floats.specs.Constants.{f32_one}
use Rattle.floats.specs.Convert.{converted}
use Rattle.floats.specs.Ratio.{one_in, f32_of_count}
use Rattle.counting.specs.QValues.{running_minimum, targets_at_most}
use Rattle.kde.specs.Estimate.{posterior_error}
use Rattle.competition.specs.Tables.{Table}
use Rattle.fdr.specs.declared.Settings.{Settings}
use Rattle.fdr.specs.Sides.{Side, ranked_sides}

-- a score's posterior error (module 4), narrowed
abbrev pub error_of : Settings → List Float → Float → Float
error_of settings bins score =
    converted binary32 (posterior_error settings.estimator bins (converted binary64 score))

-- "adds its posterior error … to a running f32 …; q is that over the targets so far"
unfoldable pub ratios_from : Settings → List Float → Float → ℕ → List Side → List Float
unfolding converted posterior_error
ratios_from settings bins sum targets [] = []
ratios_from settings bins sum targets (s ∷ ss) =
    let more = add binary32 sum (error_of settings bins s.score) in
    let seen = cond s.decoy targets (suc targets) in
    div binary32 more (f32_of_count seen) ∷ ratios_from settings bins more seen ss

-- "that starts at 1.0"; "then the minimum from the bottom starting at 1.0"
unfoldable pub side_q : Settings → List Float → List Side → List Float
unfolding ratios_from running_minimum
side_q settings bins sides = running_minimum (ratios_from settings bins f32_one 0 sides)

-- a side as a label: −1 for a decoy
abbrev pub side_label : Side → ℤ
side_label s = cond s.decoy (negsuc 0) (pos 0)

-- "The count takes targets at or under 0.01 only": each by its own ranked row
unfoldable pub passing : Settings → List Float → Table → ℕ
unfolding targets_at_most side_q ranked_sides one_in
passing settings bins t =
    let sides = ranked_sides t in targets_at_most (one_in 100) (map side_label sides) (side_q settings bins sides)
