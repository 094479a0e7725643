-- `kde::bins::slot_posterior_bins` meets its contract: no slot is both a decoy and a target.
use mathlib.Core.Path.{refl, sym, ◌∙◌}
use mathlib.Core.List.{List}
use Prim.Native.Nat.{ℕ, ◌+◌, ◌≤◌}
use native.Mathlib.Omega.{arith}
use borrow.Author.Rules.{rules}
use lib.Dec.{eqb, eqb→eq}
use lib.ListN.{length}
use Rattle.folds.specs.Lists.{how_many}
use Rattle.folds.proofs.Folds.{counts_le}
use Rattle.columns.proofs.Questions.{if_accepted, kept, refused_run}
use Rattle.kde.specs.Bins.{column_run, built_bins, slot_bins}
use Rattle.kde.proofs.Questions.{bins_passed}
use Rattle.kde.proofs.bins.slot_posterior_bins.Goals as goal

slots_le : (flags : List ℕ) → how_many (λ (n : ℕ). eqb n 1) flags + how_many (λ (n : ℕ). eqb n 0) flags ≤ length flags
slots_le = counts_le (λ (n : ℕ). eqb n 1) (λ (n : ℕ). eqb n 0) (λ n t u. omega (arith, eqb→eq n 1 t, eqb→eq n 0 u))

pub returns-in_err-ask_bins : goal.returns-in_err-ask_bins
unfolding slot_bins built_bins
returns-in_err-ask_bins c =
    refused_run column_run _ _ _ c.ask_bins.ensures.answer refl c.in_err-ask_bins.was c.from_residual.ensures.1 c.ask_bins.ensures.column

pub overflow_add-total : goal.overflow_add-total
overflow_add-total c =
    let few = slots_le c.args.is_decoy.now in
    record { fits = search rules }

pub build_bins-requires : goal.build_bins-requires
build_bins-requires c =
    let flags = c.args.is_decoy.now in
    let decoys = c.how_many-decoys.result in
    let total = decoys + c.how_many.result in
    let some : decoys ≤ total = omega arith in
    let few : total ≤ length flags = omega (arith, c.how_many-decoys.ensures, c.how_many.ensures, slots_le flags) in
    let e = c.in_ok-ask_bins.was in
    rw (kept _ _ c.ask_bins.ensures.column e) (bins_passed _ _ _ _ _ _ (sym c.ask_bins.ensures.answer ∙ e) some few)

pub returns : goal.returns
unfolding slot_bins built_bins
returns c =
    rw (c.build_bins.ensures, c.how_many-decoys.ensures, c.how_many.ensures)
    (sym (if_accepted _ _ (sym c.ask_bins.ensures.answer ∙ c.in_ok-ask_bins.was)))
