-- The numbers by which C and Rust hand over builders, tolerances and settings.
use Rattle.std.specs.Prelude.{not, cond, ℕ, eqb, Float}
use Rattle.fdr.specs.declared.Names.{Names}
use Rattle.fdr.specs.declared.Names.TheVariants.{Two, One}
use Rattle.fdr.specs.declared.Settings.{Settings}
use Rattle.kde.specs.Bins.{estimator}
use Rattle.kde.specs.declared.Builder.{Builder}
use Rattle.kde.specs.declared.Tolerance.{Tolerance}
use Rattle.kde.specs.declared.Tolerance.TheVariants.{Ppm, Da, Pct}

-- A builder's flag as a number: any but 0 asks for monotonic bins.
abbrev pub builder_of : ℕ → ℕ → Builder
builder_of monotonic bins = record { monotonic = not (eqb monotonic 0); bins = bins }

-- A tolerance's unit as a number: 0 is ppm, 1 is Da; any other is none that question 4 lets pass.
abbrev pub tolerance_of : ℕ → Float → Float → Tolerance
tolerance_of unit lo hi = cond (eqb unit 0) (Ppm lo hi) (cond (eqb unit 1) (Da lo hi) (Pct lo hi))

-- How many names a slot has, as a number: 0 is one name for both sides, any other two.
abbrev pub names_of : ℕ → Names
names_of n = cond (eqb n 0) One Two

-- The settings of a competition's q-values: the names, and an estimator's least score and step.
abbrev pub settings_of : ℕ → Float → Float → Settings
settings_of names least step = record { names = names_of names; estimator = estimator least step }
