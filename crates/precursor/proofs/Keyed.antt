-- Rows whose keys are packed one after the other (`Keyed`): a turn of the loop, and that the keys are those of a list
-- of labels where what tells the decoys goes by it.
use mathlib.Core.Path.{◌≡◌, sym, ap, ◌∙◌, subst}
use mathlib.Core.Logic.{inl, inr}
use mathlib.Core.List.{List}
use mathlib.Core.Bool.{Bool}
use Prim.Native.Nat.{ℕ, ◌+◌, ◌<◌}
use native.Mathlib.Omega.{arith}
use lib.IntN.{ℤ, pos}
use lib.ListN.{length, set, get_or, length-set}
use lib.Seq.{get_or-set_same, get_or-set_other, ext_get_or}
use lib.Ieee.{Float, nan, binary32}
use Rattle.folds.proofs.Tests.{lt_or_ge}
use Rattle.folds.proofs.Writing.{length_tabulated, tabulated_at}
use Rattle.floats.specs.Convert.{converted}
use Rattle.counting.specs.Labels.{is_decoy}
use Rattle.ranking.specs.Inner.Layout.{packed, payload}
use Rattle.ranking.specs.Inner.Rows.{row_key, row_keys}
use Rattle.precursor.specs.Inner.Keyed.{Keyed}

module _ {told : ℕ → Bool → Type 0} {scores : List Float} {keys : List ℕ} where
  pub keyed_step : {i : ℕ} {decoy : Bool} (key : ℕ) → Keyed told scores keys i → i < length scores → told i decoy
      → key ≡ packed (converted binary32 (get_or scores i nan)) (payload i decoy)
      → Keyed told scores (set keys i key) (i + 1)
  keyed_step {i} {decoy} key w h t e =
      let s = w.same in
      record {
        same = length-set keys i key ∙ s;
        each = λ place l. elim (lt_or_ge place i) [
          | inl b ↦ let x = w.each place b in (x.0, x.1, get_or-set_other keys i place key 0 (λ p. omega arith) ∙ x.2)
          | inr b ↦ let z : i ≡ place = omega arith in subst (λ (n : ℕ). (d : Bool) × told n d × (get_or (set keys i key) n 0 ≡ packed (converted binary32 (get_or scores n nan)) (payload n d))) z (decoy, t, get_or-set_same keys i key 0 (omega arith) ∙ e)
        ];
      }

  pub keyed_rows : (labels : List ℤ) → ((place : ℕ) (decoy : Bool) → place < length scores → told place decoy
      → decoy ≡ is_decoy (get_or labels place (pos 0))) → Keyed told scores keys (length scores)
      → keys ≡ row_keys labels scores
  unfolding row_keys
  keyed_rows labels f w =
      let l = length_tabulated (row_key labels scores) 0 (length scores) in
      let s = w.same in
      ext_get_or 0 keys _ (s ∙ sym l) (λ place h.
      let k : place < length scores = omega arith in
      let x = w.each place k in
      x.2 ∙ ap (λ (d : Bool). packed (converted binary32 (get_or scores place nan)) (payload place d)) (f place x.0 k x.1)
      ∙ sym (tabulated_at (row_key labels scores) (length scores) place 0 k))
