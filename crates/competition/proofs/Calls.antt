-- What adding keeps of a table, whatever the rows: the lengths of its columns, so that a batch's questions are answered
-- alike afterwards, and its marks. What an unseen table's winners are.
use mathlib.Core.Path.{◌≡◌, refl, sym, ap, ◌∙◌}
use mathlib.Core.List.{List, [], ◌∷◌, ◌++◌}
use mathlib.Core.Bool.{Bool, true, false, cond, ◌&&◌, and_assoc}
use Prim.Native.Nat.{ℕ, zero, suc}
use lib.Dec.{eqb}
use lib.IntN.{ℤ}
use lib.ListN.{length, get_or, set}
use lib.Ieee.{Float, nan}
use Rattle.std.specs.Prelude.{Ok, Err}
use Rattle.folds.proofs.Writing.{tabulated_blank}
use Rattle.folds.specs.Lists.{filled}
use Rattle.columns.specs.Refusals.{Asked}
use Rattle.counting.specs.Labels.{is_decoy}
use Rattle.competition.specs.Tables.{Table, is_seen, table_run}
use Rattle.competition.specs.Batches.{Batch, no_part, allowed, all_allowed, raise_forward, raise_reverse, with_row, added, batch_asked, add_rows}
use Rattle.competition.specs.Winners.{slot_seen, winner, decoy_flag, winners_run, winners_asked, winners}
use Rattle.competition.proofs.Questions.{winners_ready}
use Rattle.competition.proofs.RowSteps.{same_lengths_refl, SameLengths, same_lengths_trans, row_lengths}

-- ---- an accepted batch

pub run_of_accepted : (b : Batch) (t : Table) → batch_asked b t ≡ Ok tt
    → add_rows b t ≡ table_run (Ok tt) (added b.slots b.labels b.scores t)
unfolding add_rows
run_of_accepted b t e = rw e

pub all_allowed_joined : (count : ℕ) (a c : List ℕ)
    → all_allowed count (a ++ c) ≡ (all_allowed count a && all_allowed count c)
unfolding all_allowed
all_allowed_joined count [] c = refl
all_allowed_joined count (s ∷ a) c =
    ap (λ (b : Bool). allowed count s && b) (all_allowed_joined count a c) ∙ sym (and_assoc (allowed count s) (all_allowed count a) (all_allowed count c))

-- what holds of the table before, and after its rows were added, holds after the call
pub after_call : (P : Table → Type 0) (b : Batch) (t : Table) → P t → P (added b.slots b.labels b.scores t)
    → P (add_rows b t).table
unfolding add_rows
after_call P b t before after = go (batch_asked b t) refl
  where
    go : (o : Asked) → batch_asked b t ≡ o → P (add_rows b t).table
    go (Ok tt) e = rw e after
    go (Err r) e = rw e before

-- ---- the lengths of a table's columns

pub batch_lengths : (slots : List ℕ) (labels : List ℤ) (scores : List Float) (t : Table)
    → SameLengths (added slots labels scores t) t
unfolding added
batch_lengths [] labels scores t = same_lengths_refl
batch_lengths (s ∷ ss) [] scores t = same_lengths_refl
batch_lengths (s ∷ ss) (l ∷ ls) [] t = same_lengths_refl
batch_lengths (s ∷ ss) (l ∷ ls) (x ∷ xs) t = same_lengths_trans (batch_lengths ss ls xs (with_row s l x t)) (row_lengths s l x t)

-- the questions look at no more of a table than its lengths
pub asked_by_lengths : (b : Batch) {t u : Table} → SameLengths t u → batch_asked b t ≡ batch_asked b u
asked_by_lengths b w = rw (w.forward, w.reverse, w.forward_seen, w.reverse_seen)

-- ---- marks

-- each side that t has seen, u has seen
pub record KeepsSeen (t u : Table) : Type 0 where
  pub forward : (slot : ℕ) → is_seen (get_or t.forward_seen slot 0) ≡ true
      → is_seen (get_or u.forward_seen slot 0) ≡ true
  pub reverse : (slot : ℕ) → is_seen (get_or t.reverse_seen slot 0) ≡ true
      → is_seen (get_or u.reverse_seen slot 0) ≡ true

pub keeps_refl : {t : Table} → KeepsSeen t t
keeps_refl = record { forward = λ slot e. e; reverse = λ slot e. e }

mark_stays : (marks : List ℕ) (s k : ℕ) → is_seen (get_or marks k 0) ≡ true
    → is_seen (get_or (set marks s 1) k 0) ≡ true
mark_stays [] s k e = e
mark_stays (m ∷ ms) zero zero e = refl
mark_stays (m ∷ ms) zero (suc k) e = e
mark_stays (m ∷ ms) (suc s) zero e = e
mark_stays (m ∷ ms) (suc s) (suc k) e = mark_stays ms s k e

row_keeps : (slot : ℕ) (label : ℤ) (score : Float) (t : Table) → KeepsSeen t (with_row slot label score t)
row_keeps slot label score t = go (eqb slot no_part) (is_decoy label)
  where
    go : (n d : Bool) → KeepsSeen t (cond n t (cond d (raise_reverse slot score t) (raise_forward slot score t)))
    go true d = keeps_refl
    go false true = record { forward = λ k e. e; reverse = mark_stays t.reverse_seen slot }
    go false false = record { forward = mark_stays t.forward_seen slot; reverse = λ k e. e }

pub batch_keeps : (slots : List ℕ) (labels : List ℤ) (scores : List Float) (t : Table)
    → KeepsSeen t (added slots labels scores t)
unfolding added
batch_keeps [] labels scores t = keeps_refl
batch_keeps (s ∷ ss) [] scores t = keeps_refl
batch_keeps (s ∷ ss) (l ∷ ls) [] t = keeps_refl
batch_keeps (s ∷ ss) (l ∷ ls) (x ∷ xs) t =
    let p = row_keeps s l x t in
    let q = batch_keeps ss ls xs (with_row s l x t) in
    record { forward = λ k e. q.forward k (p.forward k e); reverse = λ k e. q.reverse k (p.reverse k e) }

-- ---- winners of a table in which no slot is seen

pub unseen_winners : (u : Table) → ((slot : ℕ) → slot_seen u slot ≡ false) → (scores : List Float) (flags : List ℕ)
    → winners u scores flags
    ≡ winners_run (winners_asked u (length scores) (length flags)) (filled nan scores) (filled 4294967295 flags)
unfolding winners
unseen_winners u unseen scores flags = go (winners_asked u (length scores) (length flags)) refl
  where
    go : (o : Asked) → winners_asked u (length scores) (length flags) ≡ o
        → winners u scores flags
        ≡ winners_run (winners_asked u (length scores) (length flags)) (filled nan scores) (filled 4294967295 flags)
    go (Ok tt) e =
        let w = winners_ready u (length scores) (length flags) e in
        let s = tabulated_blank (winner u) nan scores (length u.forward) (λ i. rw (unseen i)) w.scores_length in
        let f = tabulated_blank (decoy_flag u) 4294967295 flags (length u.forward) (λ i. rw (unseen i)) w.flags_length in
        rw (e, s, f)
    go (Err r) e = rw e
