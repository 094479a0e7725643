-- What the two calls leave, from what their passes ensure: the sorted keys are those of the ranked rows.
use mathlib.Core.Path.{◌≡◌, refl, sym, ap, ◌∙◌}
use mathlib.Core.List.{List, [], ◌∷◌, map}
use Prim.Native.Nat.{ℕ, ◌<◌}
use lib.IntN.{ℤ}
use lib.ListN.{length}
use lib.Ieee.{Float, nan}
use Rattle.folds.specs.Lists.{filled}
use Rattle.folds.specs.Inner.Each.{Each}
use Rattle.folds.proofs.Writing.{same_blank}
use Rattle.columns.specs.Refusals.{ranked_run}
use Rattle.std.specs.Prelude.{Ok}
use Rattle.floats.specs.Ratio.{one_in}
use Rattle.counting.specs.Labels.{is_decoy}
use Rattle.counting.specs.QValues.{q_values, targets_at_most}
use Rattle.counting.proofs.QValues.{same_q, q_length}
use Rattle.ranking.specs.Ranking.{ranked_order, as_ranked}
use Rattle.ranking.specs.Sorted.{sorted}
use Rattle.ranking.specs.Inner.Layout.{place_of, label_of}
use Rattle.ranking.specs.Inner.Rows.{row_keys, scattered}
use Rattle.ranking.proofs.Places.{length_as_ranked, scattered_is}
use Rattle.ranking.proofs.ListKeys.{length_row_keys, keys_in_bounds, keys_places, keys_decoys}
use Rattle.precursor.specs.Precursors.{precursor_q, order_run}
use Rattle.precursor.specs.Inner.Ready.{PrecursorReady}

-- no label matters but for being a decoy's
same_count : (c : Float) (ls ls' : List ℤ) (qs : List Float) → map is_decoy ls ≡ map is_decoy ls'
    → targets_at_most c ls qs ≡ targets_at_most c ls' qs
unfolding targets_at_most
same_count c [] [] qs e = refl
same_count c [] (l ∷ ls) qs e = cc
same_count c (l ∷ ls) [] qs e = cc
same_count c (l ∷ ls) (l' ∷ ls') [] e = refl
same_count c (l ∷ ls) (l' ∷ ls') (q ∷ qs) e =
    let b : is_decoy l ≡ is_decoy l' = cc in
    rw (b, same_count c ls ls' qs (cc))

module _ (labels : List ℤ) (scores : List Float) (keys₀ spare₀ : List ℕ) {result : ℕ}
    (f : PrecursorReady (length scores) (length keys₀) (length spare₀) result) (keys : List ℕ)
    (e : keys ≡ sorted (row_keys labels scores)) where
  length_keys : length keys ≡ length scores
  length_keys = rw e (length_row_keys labels scores)

  cleared : filled 0 keys ≡ filled 0 keys₀
  cleared = same_blank 0 keys keys₀ (length_keys ∙ sym f.keys_match)

  -- what `assign_q_value` asks
  pub places_asked : Each (λ k. place_of k < result) keys
  places_asked = rw (e, f.result_match) (keys_in_bounds labels scores f.short)

  -- what `picked_precursor` answers and leaves
  pub picked : (q₀ : List Float) → length q₀ ≡ result → length labels ≡ length scores
      → (passing : ℕ) (q : List Float) (spare : List ℕ)
      → passing ≡ targets_at_most (one_in 20) (map label_of keys) (q_values (map label_of keys))
      → q ≡ scattered (map place_of keys) (q_values (map label_of keys)) q₀
      → length spare ≡ length spare₀
      → ranked_run (Ok passing) (filled 0 keys) (filled 0 spare) q
      ≡ ranked_run (Ok (targets_at_most (one_in 20) (as_ranked labels scores)
      (q_values (as_ranked labels scores))))
      (filled 0 keys₀) (filled 0 spare₀) (precursor_q labels scores)
  unfolding precursor_q
  picked q₀ l m passing q spare c d s =
      let rows = as_ranked labels scores in
      let decoys : map is_decoy (map label_of keys) ≡ map is_decoy rows = rw e (keys_decoys labels scores f.short) in
      let places : map place_of keys ≡ ranked_order scores = rw e (keys_places labels scores f.short) in
      rw (c, d, same_q (map label_of keys) rows decoys, same_count (one_in 20) (map label_of keys) rows (q_values rows) decoys, places, cleared, same_blank 0 spare spare₀ s, m)
      (ap (ranked_run (Ok (targets_at_most (one_in 20) rows (q_values rows))) (filled 0 keys₀) (filled 0 spare₀))
      (scattered_is nan scores (q_values rows) q₀ (q_length rows ∙ length_as_ranked labels scores) (l ∙ f.result_match)))

  -- what `precursor_order` leaves
  pub ordered : (order spare : List ℕ) → order ≡ map place_of keys → length spare ≡ length spare₀
      → order_run (Ok tt) (filled 0 keys) (filled 0 spare) order
      ≡ order_run (Ok tt) (filled 0 keys₀) (filled 0 spare₀) (ranked_order scores)
  ordered order spare d s = rw (d, e, keys_places labels scores f.short, ← e, cleared, same_blank 0 spare spare₀ s)
