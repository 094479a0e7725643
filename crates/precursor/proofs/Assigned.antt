-- The pass from the last ranked row up: what its counters, its minimum, its count and its column hold when the rows
-- from i on are done. The counts up to a row fall by that row at each turn, and the ratio at a row is theirs.
use mathlib.Core.Path.{◌≡◌, refl, sym, ap, ap₂, ◌∙◌}
use mathlib.Core.List.{List, [], ◌∷◌, ◌++◌, map}
use mathlib.Core.Bool.{cond, ◌&&◌}
use Prim.Native.Nat.{ℕ, suc, ◌+◌, ◌-◌, ◌≤◌, ◌<◌, zero-le}
use native.Mathlib.Nat.{le_refl, le_of_eq}
use native.Mathlib.Numerals.{add-one}
use native.Mathlib.Omega.{arith}
use lib.Dec.{eqb}
use lib.IntN.{ℤ, pos}
use lib.ListN.{length, get_or, take, drop, set, length-map, length-set, length-append, get_or-map, drop_of_length-le}
use lib.Seq.{drop-cons, take-length}
use lib.Ieee.{Float, nan, binary32, le, of_bits}
use mir.Val.{bool_byte}
use Rattle.folds.proofs.Tests.{byte_most}
use Rattle.folds.proofs.Parts.{unsnoc}
use Rattle.floats.specs.MinMax.{min_number}
use Rattle.floats.specs.Ratio.{one_in}
use Rattle.counting.specs.Labels.{is_decoy, decoys, targets}
use Rattle.counting.specs.QValues.{ratio, ratio_at, ratios, minimum, q_values, targets_at_most}
use Rattle.counting.proofs.Labels.{decoys_and_targets, decoys_next, targets_next}
use Rattle.counting.proofs.RunningMinimum.{running_minimum_at}
use Rattle.counting.proofs.QValues.{length_ratios, ratios_at, q_length}
use Rattle.ranking.specs.Inner.Layout.{place_of, decoy_bit, label_of}
use Rattle.ranking.specs.Inner.Rows.{scattered}
use Rattle.ranking.proofs.Packed.{bit_decoy, bit_target, pass_one}

-- ---- what a key says of its row

module _ (keys : List ℕ) where
  abbrev labels : List ℤ
  labels = map label_of keys

  length_labels : length labels ≡ length keys
  length_labels = length-map keys label_of

  pub decoys_by_key : (i : ℕ) → i < length keys
      → decoys (take (i + 1) labels) ≡ decoys (take i labels) + decoy_bit (get_or keys i 0)
  decoys_by_key i h =
      decoys_next labels i (pos 0) (omega (arith, length_labels))
      ∙ rw (get_or-map label_of keys i 0, bit_decoy (get_or keys i 0))

  pub targets_by_key : (i : ℕ) → i < length keys
      → targets (take (i + 1) labels) ≡ targets (take i labels) + (1 - decoy_bit (get_or keys i 0))
  targets_by_key i h =
      targets_next labels i (pos 0) (omega (arith, length_labels))
      ∙ rw (get_or-map label_of keys i 0, bit_target (get_or keys i 0))

  pub all_counts : decoys labels + targets labels ≡ length keys
  all_counts = decoys_and_targets labels ∙ length_labels

-- ---- the count of decoys, from the first row down

pub record DecoysCounted (keys : List ℕ) (i decoy : ℕ) : Type 0 where
  pub high : i ≤ length keys
  pub few : decoy ≤ i
  pub is : decoy ≡ decoys (take i (labels keys))

pub decoys_counted_start : (keys : List ℕ) → DecoysCounted keys 0 0
unfolding decoys
decoys_counted_start keys = record { high = zero-le; few = zero-le; is = refl }

pub decoys_counted_step : (keys : List ℕ) {i decoy bit : ℕ} → DecoysCounted keys i decoy → i < length keys
    → bit ≡ decoy_bit (get_or keys i 0) → DecoysCounted keys (i + 1) (decoy + bit)
decoys_counted_step keys {i} {decoy} {bit} w h e =
    let f = w.few in
    record { high = omega arith; few = omega arith; is = omega (arith, w.is, decoys_by_key keys i h) }

-- ---- the keys that are left of a walk from the last one up

pub record Left (keys rest : List ℕ) : Type 0 where
  pub few : length rest ≤ length keys
  pub is : rest ≡ take (length rest) keys

pub left_start : (keys : List ℕ) → Left keys keys
left_start keys = record { few = le_refl (length keys); is = sym (take-length keys) }

-- the last of them is taken: it is the key at the number of those before it
pub record Taken (keys rest rest' : List ℕ) (key : ℕ) : Type 0 where
  pub fewer : length rest ≡ length rest' + 1
  pub below : length rest' < length keys
  pub is : key ≡ get_or keys (length rest') 0
  pub left : Left keys rest'

pub left_next : {keys rest rest' : List ℕ} {key : ℕ} → Left keys rest → rest ≡ rest' ++ (key ∷ [])
    → Taken keys rest rest' key
left_next {keys} {rest} {rest'} {key} w e =
    let n : length rest ≡ length rest' + 1 = rw e (length-append rest' (key ∷ [])) in
    let few = w.few in
    let h : length rest' < length keys = omega arith in
    let cut : take (length rest' + 1) keys ≡ rest' ++ (key ∷ []) = ap (λ (n : ℕ). take n keys) (sym n) ∙ sym w.is ∙ e in
    let t = unsnoc 0 keys rest' key (length rest') h cut in
    record { fewer = n; below = h; is = t.0; left = record { few = omega arith; is = sym t.1 } }

-- ---- the q-values, from the last row up

pub record Assigned (keys : List ℕ) (q₀ : List Float) (i decoy target : ℕ) (least : Float) (passing : ℕ)
    (q : List Float) : Type 0 where
  pub high : i ≤ length keys
  pub same : length q ≡ length q₀
  pub few : passing + i ≤ length keys
  pub counts : decoy + target ≡ i + 1
  pub decoys_are : decoy ≡ decoys (take i (labels keys)) + 1
  pub targets_are : target ≡ targets (take i (labels keys))
  pub least_is : least ≡ minimum (drop i (ratios (labels keys)))
  pub count_is : passing ≡ targets_at_most (one_in 20) (drop i (labels keys)) (drop i (q_values (labels keys)))
  pub column_is : q ≡ scattered (drop i (map place_of keys)) (drop i (q_values (labels keys))) q₀

pub assigned_start : (keys : List ℕ) (q₀ : List Float) (decoy : ℕ) → decoy ≡ decoys (labels keys)
    → Assigned keys q₀ (length keys) (decoy + 1) (length keys + 1 - (decoy + 1)) (of_bits binary32 1065353216) 0 q₀
unfolding minimum targets_at_most scattered
assigned_start keys q₀ decoy e =
    let U = labels keys in
    let n = length keys in
    let l = length_labels keys in
    let all : take n U ≡ U = rw (← l) (take-length U) in
    let c = all_counts keys in
    record {
      high = le_refl n;
      same = refl;
      few = omega arith;
      counts = omega arith;
      decoys_are = rw (all, e);
      targets_are = rw all (omega arith);
      least_is = rw (drop_of_length-le (ratios U) (le_of_eq (length_ratios U ∙ l)));
      count_is = rw (drop_of_length-le U (le_of_eq l));
      column_is = rw (drop_of_length-le (map place_of keys) (le_of_eq (length-map keys place_of)));
    }

module _ (keys : List ℕ) (j : ℕ) (h : j < length keys) where
  abbrev U : List ℤ
  U = labels keys

  abbrev Q : List Float
  Q = q_values U

  in_labels : j < length U
  in_labels = omega (arith, length_labels keys)

  in_ratios : j < length (ratios U)
  in_ratios = omega (arith, length_ratios U, in_labels)

  in_q : j < length Q
  in_q = omega (arith, q_length U, in_labels)

  -- the minimum from row j on, by the minimum below it and the ratio there
  next_least : minimum (drop j (ratios U))
      ≡ min_number (minimum (drop (suc j) (ratios U))) (ratio (decoys (take (j + 1) U) + 1) (targets (take (j + 1) U)))
  unfolding minimum ratio_at
  next_least =
      ap minimum (drop-cons (ratios U) j nan in_ratios)
      ∙ ap (min_number (minimum (drop (suc j) (ratios U)))) (ratios_at U j nan in_labels)

  q_here : get_or Q j nan ≡ minimum (drop j (ratios U))
  unfolding q_values
  q_here = running_minimum_at (ratios U) j nan in_ratios

  next_count : targets_at_most (one_in 20) (drop j U) (drop j Q)
      ≡ (let rest = targets_at_most (one_in 20) (drop (suc j) U) (drop (suc j) Q) in
      cond (is_decoy (label_of (get_or keys j 0))) rest
      (cond (le (minimum (drop j (ratios U))) (one_in 20)) (suc rest) rest))
  unfolding targets_at_most
  next_count =
      let rest = targets_at_most (one_in 20) (drop (suc j) U) (drop (suc j) Q) in
      ap₂ (targets_at_most (one_in 20)) (drop-cons U j (pos 0) in_labels) (drop-cons Q j nan in_q)
      ∙ ap₂ (λ (l : ℤ) (q : Float). cond (is_decoy l) rest (cond (le q (one_in 20)) (suc rest) rest)) (get_or-map label_of keys j 0) q_here

  next_column : (q₀ : List Float) → scattered (drop j (map place_of keys)) (drop j Q) q₀
      ≡ set (scattered (drop (suc j) (map place_of keys)) (drop (suc j) Q) q₀) (place_of (get_or keys j 0))
      (minimum (drop j (ratios U)))
  unfolding scattered
  next_column q₀ =
      let P = map place_of keys in
      ap₂ (λ (ps : List ℕ) (qs : List Float). scattered ps qs q₀) (drop-cons P j 0 (omega (arith, length-map keys place_of))) (drop-cons Q j nan in_q)
      ∙ ap₂ (set (scattered (drop (suc j) P) (drop (suc j) Q) q₀)) (get_or-map place_of keys j 0) q_here

module _ {keys : List ℕ} {q₀ : List Float} {i decoy target : ℕ} {least : Float} {passing : ℕ} {q : List Float}
    (w : Assigned keys q₀ i decoy target least passing q) (j : ℕ) (e : i ≡ j + 1) where
  here : j < length keys
  here = omega (arith, w.high)

  abbrev key : ℕ
  key = get_or keys j 0

  -- one turn, at row j: the ratio there joins the minimum, which goes to the row's place
  pub assigned_step : (bit place : ℕ) (m c : Float) → bit ≡ decoy_bit key → place ≡ place_of key
      → m ≡ min_number least (ratio decoy target) → c ≡ one_in 20
      → Assigned keys q₀ j (decoy - bit) (target - (1 - bit)) m (passing + bool_byte (le m c && eqb bit 0))
      (set q place m)
  assigned_step bit place m c bit_is place_is m_is c_is =
      let U = labels keys in
      let i_is : i ≡ suc j = e ∙ add-one j in
      let d : decoy ≡ decoys (take (j + 1) U) + 1 = w.decoys_are ∙ ap (λ (n : ℕ). decoys (take n U) + 1) e in
      let t : target ≡ targets (take (j + 1) U) = w.targets_are ∙ ap (λ (n : ℕ). targets (take n U)) e in
      let low : m ≡ minimum (drop j (ratios U)) =
      m_is ∙ ap₂ min_number (w.least_is ∙ ap (λ (n : ℕ). minimum (drop n (ratios U))) i_is) (ap₂ ratio d t) ∙ sym (next_least keys j here) in
      let rest : passing ≡ targets_at_most (one_in 20) (drop (suc j) U) (drop (suc j) (q_values U)) =
      w.count_is ∙ ap (λ (n : ℕ). targets_at_most (one_in 20) (drop n U) (drop n (q_values U))) i_is in
      record {
        high = omega (arith, here);
        same = length-set q place m ∙ w.same;
        few = omega (arith, byte_most (le m c && eqb bit 0), w.few);
        counts = omega (arith, w.counts, d, t, decoys_by_key keys j here, targets_by_key keys j here);
        decoys_are = omega (arith, decoys_by_key keys j here);
        targets_are = omega (arith, targets_by_key keys j here);
        least_is = low;
        count_is = rw bit_is (pass_one key passing (le m c))
            ∙ ap (λ (x : Float). cond (is_decoy (label_of key)) passing (cond (le m x) (suc passing) passing)) c_is
            ∙ ap₂ (λ (n : ℕ) (x : Float). cond (is_decoy (label_of key)) n (cond (le x (one_in 20)) (suc n) n)) rest low
            ∙ sym (next_count keys j here);
        column_is = rw (place_is, low, w.column_is, i_is) (sym (next_column keys j here q₀));
      }

  -- a target's row leaves a target to take away
  pub target_left : 1 - decoy_bit key ≤ target
  target_left =
      let t : target ≡ targets (take (j + 1) (labels keys)) = w.targets_are ∙ ap (λ (n : ℕ). targets (take n (labels keys))) e in
      omega (arith, targets_by_key keys j here)
