-- `kde::bins::posterior_bins` meets its contract: every row takes part, and no more are decoys than there are.
use mathlib.Core.Path.{refl, sym, ◌∙◌}
use Prim.Native.Nat.{◌≤◌}
use native.Mathlib.Nat.{le_refl}
use native.Mathlib.Omega.{arith}
use lib.ListN.{length}
use Rattle.columns.proofs.Questions.{if_accepted, kept, refused_run}
use Rattle.counting.proofs.Labels.{decoys_and_targets}
use Rattle.kde.specs.Bins.{column_run, built_bins, label_bins}
use Rattle.kde.proofs.Questions.{bins_passed}
use Rattle.kde.proofs.bins.posterior_bins.Goals as goal

pub returns-in_err-ask_bins : goal.returns-in_err-ask_bins
unfolding label_bins built_bins
returns-in_err-ask_bins c =
    refused_run column_run _ _ _ c.ask_bins.ensures.answer refl c.in_err-ask_bins.was c.from_residual.ensures.1 c.ask_bins.ensures.column

pub build_bins-requires : goal.build_bins-requires
build_bins-requires c =
    let labels = c.args.labels.now in
    let few : c.count_decoys-decoys.result ≤ length labels = omega (arith, c.count_decoys-decoys.ensures, decoys_and_targets labels) in
    let e = c.in_ok-ask_bins.was in
    rw (kept _ _ c.ask_bins.ensures.column e) (bins_passed _ _ _ _ _ _ (sym c.ask_bins.ensures.answer ∙ e) few (le_refl _))

pub returns : goal.returns
unfolding label_bins built_bins
returns c =
    rw (c.build_bins.ensures, c.count_decoys-decoys.ensures)
    (sym (if_accepted _ _ (sym c.ask_bins.ensures.answer ∙ c.in_ok-ask_bins.was)))
