-- What holds of competition tables whatever the rows: batches join, rows that take no part and NaN scores change no
-- score, columns keep their lengths and marks, a fresh table has nothing seen, and ties go to the decoy.
use mathlib.Core.Path.{◌≡◌, refl, sym, ap, subst, ◌∙◌}
use mathlib.Core.List.{List, [], ◌∷◌, ◌++◌}
use mathlib.Core.Bool.{Bool, true, false, not, cond}
use Prim.Native.Nat.{ℕ, ◌≤◌}
use native.Mathlib.Omega.{arith}
use borrow.Author.Tests.{ne_eqb}
use lib.Dec.{T}
use lib.IntN.{ℤ}
use lib.ListN.{length, get_or, set, length-append}
use lib.Seq.{set-get_or}
use lib.Ieee.{Float, nan, inf, is_nan, lt, eq, le, of_bits}
use Rattle.std.specs.Prelude.{Ok}
use Rattle.folds.proofs.Writing.{get_d_constant}
use Rattle.folds.proofs.Tests.{both_true}
use Rattle.folds.specs.Lists.{filled}
use Rattle.floats.specs.Constants.{f32_min}
use Rattle.floats.specs.MinMax.{max_number}
use Rattle.floats.proofs.Order.{max_nan, eq→le, le_refl}
use Rattle.columns.specs.Refusals.{longest}
use Rattle.counting.specs.Labels.{is_decoy}
use Rattle.competition.specs.Tables.{Table, table_of, table_run, fresh_asked, fresh_table}
use Rattle.competition.specs.Batches.{Batch, appended, no_part, all_allowed, with_row, added, batch_asked, add_rows}
use Rattle.competition.specs.Winners.{slot_seen, decoy_flag, winners_run, winners_asked, winners}
use Rattle.competition.specs.Inner.Ready.{BatchReady}
use Rattle.competition.proofs.Questions.{batch_ready, batch_accepted}
use Rattle.competition.proofs.RowSteps.{SameLengths, same_lengths_refl}
use Rattle.competition.proofs.Calls.{run_of_accepted, all_allowed_joined, after_call, batch_lengths, asked_by_lengths, KeepsSeen, keeps_refl, batch_keeps, unseen_winners}

-- ---- batch after batch

-- rows added one batch after the other are the rows of both batches
pub joined_rows : (a c : List ℕ) (b d : List ℤ) (x y : List Float) → length b ≡ length a → length x ≡ length a
    → (t : Table)
    → added (a ++ c) (b ++ d) (x ++ y) t ≡ added c d y (added a b x t)
unfolding added
joined_rows [] c [] d [] y p q t = refl
joined_rows [] c [] d (s ∷ x) y p q t = absurd (omega arith)
joined_rows [] c (l ∷ b) d x y p q t = absurd (omega arith)
joined_rows (k ∷ a) c [] d x y p q t = absurd (omega arith)
joined_rows (k ∷ a) c (l ∷ b) d [] y p q t = absurd (omega arith)
joined_rows (k ∷ a) c (l ∷ b) d (s ∷ x) y p q t = joined_rows a c b d x y (omega arith) (omega arith) (with_row k l s t)

-- a call leaves each column its length
pub call_keeps_lengths : (b : Batch) (t : Table) → SameLengths (add_rows b t).table t
call_keeps_lengths b t = after_call (λ u. SameLengths u t) b t same_lengths_refl (batch_lengths b.slots b.labels b.scores t)

-- so no earlier call changes a later one's answer
pub later_answer : (a b : Batch) (t : Table) → batch_asked b (add_rows a t).table ≡ batch_asked b t
later_answer a b t = asked_by_lengths b (call_keeps_lengths a t)

-- another batch is accepted by a table that accepted one, where its own columns are right
another : (a b : Batch) (t : Table) → BatchReady a t → length b.slots ≤ longest
    → length b.labels ≡ length b.slots
    → length b.scores ≡ length b.slots → all_allowed (length t.forward) b.slots ≡ true
    → batch_asked b t ≡ Ok tt
another a b t w h l s k = batch_accepted b t (record {
  short = h;
  short_table = w.short_table;
  labels_length = l;
  scores_length = s;
  lengths = w.lengths;
  slots_allowed = k;
})

-- two accepted calls are one, if the appended columns are not too long
pub joined_calls : (a b : Batch) (t : Table) → batch_asked a t ≡ Ok tt
    → batch_asked b (add_rows a t).table ≡ Ok tt
    → length (appended a b).slots ≤ longest
    → (batch_asked (appended a b) t ≡ Ok tt) × (add_rows (appended a b) t ≡ add_rows b (add_rows a t).table)
joined_calls a b t p q h =
    let f = batch_ready a t p in
    let g = batch_ready b t (sym (later_answer a b t) ∙ q) in
    let e : batch_asked (appended a b) t ≡ Ok tt =
    another a (appended a b) t f h
    (omega (arith, length-append a.labels b.labels, length-append a.slots b.slots, f.labels_length, g.labels_length))
    (omega (arith, length-append a.scores b.scores, length-append a.slots b.slots, f.scores_length, g.scores_length))
    (rw (all_allowed_joined (length t.forward) a.slots b.slots, f.slots_allowed, g.slots_allowed)) in (
      e,
      run_of_accepted (appended a b) t e
          ∙ ap (table_run (Ok tt))
          (joined_rows a.slots b.slots a.labels b.labels a.scores b.scores f.labels_length f.scores_length t
          ∙ ap (added b.slots b.labels b.scores) (sym (ap (λ r. r.table) (run_of_accepted a t p))))
          ∙ sym (run_of_accepted b (add_rows a t).table q),
    )

-- and an accepted call is two
pub split_call : (a b : Batch) (t : Table) → length a.labels ≡ length a.slots
    → length a.scores ≡ length a.slots
    → batch_asked (appended a b) t ≡ Ok tt
    → (batch_asked a t ≡ Ok tt) × (batch_asked b (add_rows a t).table ≡ Ok tt)
split_call a b t p q e =
    let w = batch_ready (appended a b) t e in
    let h = w.short in
    let n = length t.forward in
    let s = both_true (all_allowed n a.slots) (all_allowed n b.slots) (sym (all_allowed_joined n a.slots b.slots) ∙ w.slots_allowed) in
    let slots = length-append a.slots b.slots in (
      another (appended a b) a t w (omega (arith, slots)) p q s.0,
      later_answer a b t
          ∙ another (appended a b) b t w (omega (arith, slots)) (omega (arith, slots, length-append a.labels b.labels, w.labels_length))
          (omega (arith, slots, length-append a.scores b.scores, w.scores_length))
          s.1,
    )

-- ---- one row

-- a row that takes no part changes nothing
pub no_part_lem : (label : ℤ) (score : Float) (t : Table) → with_row no_part label score t ≡ t
no_part_lem label score t = refl

-- wherever it stands in a batch
pub no_part_anywhere : (a c : List ℕ) (b d : List ℤ) (x y : List Float) → length b ≡ length a → length x ≡ length a
    → (label : ℤ) (score : Float) (t : Table)
    → added (a ++ no_part ∷ c) (b ++ label ∷ d) (x ++ score ∷ y) t ≡ added (a ++ c) (b ++ d) (x ++ y) t
unfolding added
no_part_anywhere a c b d x y p q label score t =
    joined_rows a (no_part ∷ c) b (label ∷ d) x (score ∷ y) p q t ∙ sym (joined_rows a c b d x y p q t)

module _ (slot : ℕ) (label : ℤ) (t : Table) (part : slot ≡ no_part → ⊥) where
  -- a NaN score changes no score, and marks its side seen
  pub nan_of_target : is_decoy label ≡ false
      → with_row slot label nan t ≡ table_of t.forward t.reverse (set t.forward_seen slot 1) t.reverse_seen
  nan_of_target d = rw (ne_eqb slot no_part part, d, max_nan, set-get_or)

  pub nan_of_decoy : is_decoy label ≡ true
      → with_row slot label nan t ≡ table_of t.forward t.reverse t.forward_seen (set t.reverse_seen slot 1)
  nan_of_decoy d = rw (ne_eqb slot no_part part, d, max_nan, set-get_or)

-- −infinity raises no number (`max_minus_infinity` of floats): a side which saw no other score stays at f32::MIN
pub minus_infinity_leaves_f32_min : max_number f32_min (inf true) ≡ f32_min
unfolding max_number lt of_bits
minus_infinity_leaves_f32_min = refl

-- ---- marks

-- a side once seen stays seen
pub call_keeps_seen : (b : Batch) (t : Table) → KeepsSeen t (add_rows b t).table
call_keeps_seen b t = after_call (KeepsSeen t) b t keeps_refl (batch_keeps b.slots b.labels b.scores t)

-- ---- a fresh table

module _ (t : Table) (e : fresh_asked t ≡ Ok tt) where
  -- no slot is seen
  pub fresh_unseen : (slot : ℕ) → slot_seen (fresh_table t).table slot ≡ false
  unfolding fresh_table
  fresh_unseen slot = rw (e, get_d_constant {A = ℕ} (length t.forward_seen) slot 0, get_d_constant {A = ℕ} (length t.reverse_seen) slot 0)

  -- and its winners are all blanks
  pub fresh_winners : (scores : List Float) (flags : List ℕ)
      → winners (fresh_table t).table scores flags
      ≡ winners_run (winners_asked (fresh_table t).table (length scores) (length flags)) (filled nan scores)
      (filled 4294967295 flags)
  fresh_winners = unseen_winners (fresh_table t).table fresh_unseen

-- ---- ties

module _ (t : Table) (slot : ℕ) (seen : slot_seen t slot ≡ true) where
  no_less : T (le (get_or t.forward slot nan) (get_or t.reverse slot nan)) → decoy_flag t slot ≡ 1
  no_less = go (le (get_or t.forward slot nan) (get_or t.reverse slot nan))
    where
      go : (b : Bool) → T b → ◌≡◌ {A = ℕ} (cond (slot_seen t slot) (cond b 1 0) 4294967295) 1
      go true u = rw seen
      go false u = absurd u

  -- equal as numbers, zeros of either sign too: the decoy wins
  pub equal_sides : T (eq (get_or t.forward slot nan) (get_or t.reverse slot nan)) → decoy_flag t slot ≡ 1
  equal_sides e = no_less (eq→le (get_or t.forward slot nan) (get_or t.reverse slot nan) e)

  pub same_sides : get_or t.forward slot nan ≡ get_or t.reverse slot nan
      → T (not (is_nan (get_or t.forward slot nan))) → decoy_flag t slot ≡ 1
  same_sides e n =
      no_less (subst (λ (x : Float). T (le (get_or t.forward slot nan) x)) e (le_refl (get_or t.forward slot nan) n))
