-- The two passes over a column of q-values. Forwards each place gets its row's ratio; backwards each place gets the
-- least of 1.0 and what stood there and after it, and those at most c are counted.
use mathlib.Core.Path.{◌≡◌, refl, sym, ◌∙◌}
use mathlib.Core.List.{List, [], ◌∷◌}
use mathlib.Core.Bool.{Bool, true, false, not, cond}
use Prim.Native.Nat.{ℕ, suc, ◌+◌, ◌≤◌, ◌<◌, zero-le}
use native.Mathlib.Nat.{le_refl}
use native.Mathlib.Numerals.{add-one}
use native.Mathlib.Omega.{arith}
use lib.Dec.{T}
use lib.IntN.{ℤ}
use lib.ListN.{length, take, drop, set, get_or, length-set, length-drop}
use lib.Seq.{take-suc, take-suc-set, take_all, take-set-le, take-take, lt-length-set, drop-set-lt, drop-cons, drop-length, get_or-take, get_or-set_same}
use lib.Ieee.{Float, nan, binary32, of_bits, is_nan, le}
use mir.Val.{bool_byte}
use Rattle.folds.proofs.Tests.{byte_added}
use Rattle.floats.specs.MinMax.{min_number}
use Rattle.counting.specs.QValues.{ratio, ratio_at, ratios, minimum, running_minimum, count_at_most}
use Rattle.counting.proofs.QValues.{length_ratios, ratios_at}
use Rattle.counting.proofs.RunningMinimum.{minimum_number, length_running_minimum}
use Rattle.counting.proofs.Tally.{Tally, tally_start}

-- ---- forwards

pub record Rated (labels : List ℤ) (q : List Float) (decoy target i : ℕ) : Type 0 where
  pub same : length q ≡ length labels
  pub tally : Tally labels i decoy target
  pub front : take i q ≡ take i (ratios labels)

pub rated_start : {labels : List ℤ} {q : List Float} → length q ≡ length labels → Rated labels q 1 0 0
rated_start {labels} e = record { same = e; tally = tally_start labels; front = refl }

pub rated_next : {labels : List ℤ} {q : List Float} {decoy target i decoy' target' : ℕ} → Rated labels q decoy target i
    → i < length labels
    → Tally labels (i + 1) decoy' target' → Rated labels (set q i (ratio decoy' target')) decoy' target' (i + 1)
unfolding ratio_at
rated_next {labels} {q} {decoy} {target} {i} {decoy'} {target'} r h t =
    let l : i < length q = rw r.same h in
    let l' : i < length (ratios labels) = rw length_ratios h in
    record {
      same = length-set q i (ratio decoy' target') ∙ r.same;
      tally = t;
      front = rw (add-one i, take-suc-set q i (ratio decoy' target') l, take-suc (ratios labels) i nan l')
          (rw (r.front, ratios_at labels i nan h, t.decoy_is, t.target_is));
    }

pub rated_done : {labels : List ℤ} {q : List Float} {decoy target i : ℕ} → Rated labels q decoy target i
    → length labels ≤ i → q ≡ ratios labels
rated_done {labels} {q} {decoy} {target} {i} r h =
    sym (take_all i q (rw r.same h)) ∙ r.front ∙ take_all i (ratios labels) (rw length_ratios h)

-- ---- backwards

pub record MinimumWalk (c : Float) (rs q : List Float) (low : Float) (passing i : ℕ) : Type 0 where
  pub high : i ≤ length rs
  pub same : length q ≡ length rs
  pub front : take i q ≡ take i rs
  pub back : drop i q ≡ running_minimum (drop i rs)
  pub low_is : low ≡ minimum (drop i rs)
  pub passing_is : passing ≡ count_at_most c (running_minimum (drop i rs))

pub minimum_walk_start : {c : Float} {rs : List Float} → MinimumWalk c rs rs (of_bits binary32 0x3F800000) 0 (length rs)
unfolding minimum running_minimum count_at_most
minimum_walk_start {c} {rs} = record {
  high = le_refl (length rs);
  same = refl;
  front = refl;
  back = rw drop-length;
  low_is = rw drop-length;
  passing_is = rw drop-length;
}

pub minimum_walk_number : {c : Float} {rs q : List Float} {low : Float} {passing i : ℕ}
    → MinimumWalk c rs q low passing i → T (not (is_nan low))
minimum_walk_number {rs = rs} {i = i} w = rw w.low_is (minimum_number (drop i rs))

pub minimum_walk_next : {c : Float} {rs q : List Float} {low low' : Float} {passing i : ℕ} (j : ℕ) → i ≡ j + 1
    → MinimumWalk c rs q low passing i
    → low' ≡ min_number low (get_or q j nan) → MinimumWalk c rs (set q j low') low' (passing + bool_byte (le low' c)) j
unfolding minimum running_minimum count_at_most
minimum_walk_next {c} {rs} {q} {low} {low'} {passing} {i} j e w n =
    let h = w.high in
    let r = get_or rs j nan in
    let l : j < length rs = omega arith in
    let l' : j < length q = rw w.same l in
    let s : suc j ≡ i = omega arith in
    let p : drop j rs ≡ r ∷ drop i rs = rw (drop-cons rs j nan l, s) in
    let g : get_or q j nan ≡ r = sym (get_or-take i q j nan (omega arith)) ∙ rw w.front (get_or-take i rs j nan (omega arith)) in
    let m : low' ≡ min_number (minimum (drop i rs)) r = n ∙ rw (w.low_is, g) in
    record {
      high = omega arith;
      same = length-set q j low' ∙ w.same;
      front = take-set-le j q j low' (le_refl j) ∙ sym (take-take j i q (omega arith)) ∙ rw w.front (take-take j i rs (omega arith));
      back = rw (drop-cons (set q j low') j nan (lt-length-set q j low' l'), get_or-set_same q j low' nan l')
          (rw (drop-set-lt (suc j) q j low' (le_refl (suc j)), s, w.back, p, m));
      low_is = rw p m;
      passing_is = rw (p, ← m, w.passing_is) (byte_added (le low' c) (count_at_most c (running_minimum (drop i rs))));
    }

-- no more than the column has places
at_most_length : (c : Float) (qs : List Float) → count_at_most c qs ≤ length qs
unfolding count_at_most
at_most_length c [] = zero-le
at_most_length c (q ∷ qs) = go (le q c) (at_most_length c qs)
  where
    go : (b : Bool) {n : ℕ} → n ≤ length qs → cond b (suc n) n ≤ suc (length qs)
    go true h = omega arith
    go false h = omega arith

pub minimum_walk_bound : {c : Float} {rs q : List Float} {low : Float} {passing i : ℕ}
    → MinimumWalk c rs q low passing i → passing + i ≤ length rs
minimum_walk_bound {c} {rs} {q} {low} {passing} {i} w =
    let h = w.high in
    omega (arith, w.passing_is, at_most_length c (running_minimum (drop i rs)), length_running_minimum (drop i rs), length-drop i rs)
