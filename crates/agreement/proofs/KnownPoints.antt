-- The table of known points, by computation, and by the points of `gauss`, `kde`, `competition` and `fdr`.
use mathlib.Core.Path.{◌≡◌, refl, ap, ◌∙◌}
use mathlib.Core.List.{List}
use mathlib.Core.Bool.{true}
use Prim.Native.Nat.{ℕ, ◌<◌}
use lib.Dec.{T}
use lib.ListN.{length, get_or}
use lib.Ieee.{Float, nan, of_bits, of_int, div, lt, le, eq, round}
use Rattle.folds.specs.Lists.{tabulated, filled}
use Rattle.folds.proofs.Writing.{tabulated_at}
use Rattle.std.specs.Prelude.{Result, Ok, Err}
use Rattle.columns.specs.declared.Refusal.{Refusal}
use Rattle.columns.specs.Refusals.{answer_number, answer_count, ◌and◌}
use Rattle.columns.proofs.Questions.{refused_not_accepted, if_accepted, was_accepted}
use Rattle.floats.specs.MinMax.{min_number, max_number}
use Rattle.floats.specs.Ratio.{one_in}
use Rattle.counting.specs.Labels.{decoys, targets}
use Rattle.counting.specs.Lines.{last_row_of}
use Rattle.counting.specs.QValues.{ratio_at, ratios, minimum, running_minimum, q_values, count_at_most}
use Rattle.qvalue.specs.Spectrum.{spectrum_q_value}
use Rattle.line_check.specs.Check.{line_answer}
use Rattle.gauss.specs.Elimination.{Vector}
use Rattle.gauss.specs.Solutions.{solved_values}
use Rattle.gauss.proofs.Known as systems
use Rattle.kde.specs.Estimate.{posterior_answer}
use Rattle.kde.proofs.Points as errors
use Rattle.competition.proofs.Batches as ties
use Rattle.fdr.proofs.Points as competitions
use Rattle.competition.specs.Tables.{Table, fresh_table}
use Rattle.competition.specs.Winners.{slot_seen, winner, decoy_flag, WinnersRun, winners_run, winners_asked, winners}
use Rattle.competition.specs.Batches.{add_rows, added, all_allowed}
use Rattle.agreement.specs.KnownPoints.{two_slots, KnownPoints}

-- the table that the rows leave
two_slots_are : two_slots ≡ competitions.two_targets
unfolding fresh_table add_rows added all_allowed max_number lt of_bits
two_slots_are = refl

-- what the call on systems returns, and its array
abbrev numbers : Result Vector Refusal → ℕ × Vector
numbers run = answer_number run and solved_values run

decoy_wins : (t : Table) (scores : List Float) (flags : List ℕ) (slot : ℕ)
    → let run = winners t scores flags in
    run.answer ≡ Ok tt → slot < length t.forward → slot_seen t slot ≡ true
    → T (eq (get_or t.forward slot nan) (get_or t.reverse slot nan)) → get_or run.flags slot 0 ≡ 1
unfolding winners
decoy_wins t scores flags slot a h s e =
    let n = length t.forward in
    let o = was_accepted (λ (w : WinnersRun). w.answer) (winners_asked t (length scores) (length flags))
    (winners_run (Ok tt) (tabulated (winner t) 0 n) (tabulated (decoy_flag t) 0 n))
    (λ r. winners_run (Err r) (filled nan scores) (filled 4294967295 flags)) refused_not_accepted a in
    ap (λ (w : WinnersRun). get_or w.flags slot 0) (if_accepted _ _ o.0)
    ∙ tabulated_at (decoy_flag t) n slot 0 h
    ∙ ties.equal_sides t slot s e

pub known_points : KnownPoints
unfolding posterior_answer spectrum_q_value line_answer last_row_of q_values ratios ratio_at running_minimum minimum count_at_most tabulated min_number one_in decoys targets of_bits of_int div lt le round
known_points = record {
  no_rows = refl;
  no_rows_line = refl;
  one_decoy = refl;
  three_rows = refl;
  zero_and_seven = refl;
  twenty = refl;
  nineteen = refl;
  forty = refl;
  minus_small = λ left right e f. ap numbers (systems.minus_small left right e f);
  not_a_number = λ left right e. ap numbers (systems.not_a_number left right e);
  between = ap (λ (x : Float). 0 and x) errors.between;
  past = ap (λ (x : Float). 0 and x) errors.past;
  under = ap (λ (x : Float). 0 and x) errors.under;
  ppm = ap (λ (a : Result ℕ Refusal). answer_number a and answer_count a) errors.ppm_10;
  equal_sides = decoy_wins;
  two_slots_named = λ names. rw two_slots_are (competitions.two_targets_lem names 9 9 9 9 9 9 9 9 nan nan);
}
