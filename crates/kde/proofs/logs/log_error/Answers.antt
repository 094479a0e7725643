-- `kde::logs::log_error` meets its contract: a float equals an infinity only if it is that infinity.
use mathlib.Core.Path.{◌≡◌, refl, ◌∙◌, ap}
use mathlib.Core.Bool.{true, false, ◌||◌, true≢false, false≢true}
use lib.IntN.{pos}
use lib.Ieee.{Float, nan, inf, fin, eq, of_bits, neg, div}
use Rattle.kde.specs.LogErrors.{finite_log}
use Rattle.kde.proofs.logs.log_error.Goals as goal

log_infinite : (x : Float) → eq x (inf false) || eq x (inf true) ≡ true → fin true 81 (pos 2) ≡ finite_log x
unfolding eq
log_infinite nan h = absurd (false≢true h)
log_infinite (inf t) h = refl
log_infinite (fin t m e) h = absurd (false≢true h)

log_finite : (x : Float) → eq x (inf false) || eq x (inf true) ≡ false → x ≡ finite_log x
unfolding eq
log_finite nan h = refl
log_finite (inf true) h = absurd (true≢false h)
log_finite (inf false) h = absurd (true≢false h)
log_finite (fin s m e) h = refl

pub returns-then-log : goal.returns-then-log
unfolding of_bits neg div
returns-then-log c = log_infinite _ c.if-log.true ∙ ap finite_log c.narrow-log.ensures

pub returns : goal.returns
unfolding of_bits neg div
returns c = log_finite _ c.if-log.false ∙ ap finite_log c.narrow-log.ensures
