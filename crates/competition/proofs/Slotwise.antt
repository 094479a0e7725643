-- The two result columns of `winners`, written slot by slot.
use mathlib.Core.Path.{◌≡◌, sym, ap, ◌∙◌}
use borrow.Author.Tests.{not-false}
use mathlib.Core.List.{List}
use mathlib.Core.Bool.{Bool, true, false, not, cond}
use Prim.Native.Nat.{ℕ, ◌+◌, ◌≤◌, ◌<◌}
use lib.ListN.{length, get_or, set}
use lib.Seq.{set-set}
use lib.Ieee.{Float, nan, le}
use mir.Val.{bool_byte}
use Rattle.folds.proofs.Tests.{byte_is}
use Rattle.folds.specs.Lists.{tabulated}
use Rattle.folds.proofs.Writing.{Writing, writing_step, writing_done}
use Rattle.floats.specs.MinMax.{max_number}
use Rattle.competition.specs.Tables.{Table}
use Rattle.competition.specs.Winners.{slot_seen, winner, decoy_flag}

pub record Slotwise (t : Table) (scores : List Float) (decoys : List ℕ) (slot : ℕ) : Type 0 where
  pub scores_are : Writing (winner t) nan (length t.forward) scores slot
  pub decoys_are : Writing (decoy_flag t) 0 (length t.forward) decoys slot

module _ {t : Table} {scores : List Float} {decoys : List ℕ} {slot : ℕ} (w : Slotwise t scores decoys slot) where
  pub slotwise_done : length t.forward ≤ slot
      → (scores ≡ tabulated (winner t) 0 (length t.forward))
      × (decoys ≡ tabulated (decoy_flag t) 0 (length t.forward))
  slotwise_done h = (writing_done w.scores_are h, writing_done w.decoys_are h)

  module _ (h : slot < length t.forward) {b : Bool} (seen_is : b ≡ slot_seen t slot) where
    pub slotwise_seen : not b ≡ false → {x : Float} {d : Bool} (z : Float)
        → x ≡ max_number (get_or t.forward slot nan) (get_or t.reverse slot nan)
        → d ≡ le (get_or t.forward slot nan) (get_or t.reverse slot nan)
        → Slotwise t (set (set scores slot z) slot x) (set (set decoys slot 4294967295) slot (bool_byte d)) (slot + 1)
    slotwise_seen e {x} {d} z p q =
        let s : slot_seen t slot ≡ true = sym seen_is ∙ not-false b e in
        rw (set-set scores slot z x, set-set decoys slot 4294967295 (bool_byte d))
        (record {
          scores_are = writing_step w.scores_are h (rw s p);
          decoys_are = writing_step w.decoys_are h (rw s (byte_is d ∙ ap (λ (b : Bool). cond b 1 0) q));
        })
