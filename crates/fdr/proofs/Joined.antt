-- The passes joined with the definitions: the keys after the ranking are those of the ranked sides, their numbers the
-- q-values, and a row reads at its name what the definition gives.
use mathlib.Core.Path.{◌≡◌, refl, ap, ap₂, ◌∙◌, subst}
use mathlib.Core.Logic.{inl, inr}
use mathlib.Core.List.{List, [], ◌∷◌, ◌++◌, map}
use mathlib.Core.Bool.{Bool, true, false, cond}
use Prim.Native.Nat.{ℕ, ◌*◌, ◌≤◌, ◌<◌}
use native.Mathlib.Nat.{le_refl, le_trans}
use native.Mathlib.Omega.{arith}
use lib.Dec.{T, eqb}
use lib.IntN.{ℤ, pos, negsuc}
use lib.ListN.{length, get_or, take, drop, length-map, length-replicate, get_or-replicate}
use lib.Seq.{take_at, length-take-le, length_front}
use lib.Ieee.{Float, nan, binary32, fits, of_bits}
use Rattle.std.proofs.lemmas.List.{get_or_past}
use Rattle.folds.specs.Lists.{filled, tabulated}
use Rattle.folds.specs.Inner.Each.{Each}
use Rattle.folds.proofs.Tests.{lt_or_ge}
use Rattle.folds.proofs.Writing.{tabulated_same, same_blank, all_map, all_at}
use Rattle.floats.specs.Constants.{f32_one}
use Rattle.floats.specs.Ratio.{one_in}
use Rattle.counting.specs.Labels.{is_decoy}
use Rattle.counting.specs.QValues.{running_minimum, targets_at_most}
use Rattle.counting.proofs.RunningMinimum.{length_running_minimum}
use Rattle.ranking.specs.Sorted.{sorted}
use Rattle.ranking.specs.Inner.Layout.{place_of, label_of}
use Rattle.ranking.proofs.Sorted.{all_sorted}
use Rattle.competition.specs.Tables.{Table}
use Rattle.competition.specs.Batches.{no_part}
use Rattle.fdr.specs.declared.Settings.{Settings}
use Rattle.fdr.specs.Sides.{Side, side_of, seen_sides, ranked_sides}
use Rattle.fdr.specs.SideQValues.{ratios_from, side_q, side_label, passing}
use Rattle.fdr.specs.NameQValues.{name_of, q_of, row_q, rows_q}
use Rattle.fdr.specs.Inner.Passes.{side_key, key_side, with_numbers, key_number, capped_ratios, written_at_names, read_at_name, SlotInBounds, NamesInBounds, NumberBits, HoldsNumber, ScoresFit, RatiosReady, AssignReady}
use Rattle.fdr.proofs.Numbers.{F32Number, ratios_fit, capped_numbers, minimum_numbers, length_ratios, hold_numbers, numbers_back, payload_stays, places_stay, written_over, running_minimum_capped}
use Rattle.fdr.proofs.NameColumn.{name_in_bounds, names_read, names_bits, ones_bits, length_names, slots_in_bounds}
use Rattle.fdr.proofs.Sides.{targets_sorted, seen_listed, seen_fit, listed_in_bounds, few_targets, sorted_sides}

-- ---- the ranking and the two passes over its rows

-- sorting leaves what the passes ask
pub still_ready : {bins : ℕ} {t : Table} (keys keys₁ : List ℕ) → keys₁ ≡ sorted keys → RatiosReady bins t keys
    → RatiosReady bins t keys₁
still_ready {bins} {t} keys keys₁ e w = record {
  range = w.range;
  reverse_length = w.reverse_length;
  in_bounds = rw e (all_sorted (SlotInBounds (length t.forward)) keys w.in_bounds);
  countable = rw (e, targets_sorted keys) w.countable;
}

module _ (settings : Settings) (bins : List Float) (t : Table) (keys : List ℕ) where
  abbrev sides : List Side
  sides = map (key_side t) keys

  abbrev capped : List Float
  capped = capped_ratios settings bins t f32_one 0 keys

  length_capped : length capped ≡ length keys
  length_capped = length-map (ratios_from settings bins f32_one 0 sides) _ ∙ length_ratios settings bins f32_one 0 sides ∙ length-map keys (key_side t)

  numbers : Each F32Number capped
  numbers = capped_numbers (ratios_from settings bins f32_one 0 sides) (ratios_fit settings bins f32_one 0 sides)

  module _ (keys₂ : List ℕ) (k : keys₂ ≡ with_numbers capped keys) where
    -- what `take_minima` asks
    pub minima_ask : Each HoldsNumber keys₂
    minima_ask = rw k (hold_numbers capped keys numbers)

    -- its minima are the q-values
    minima_are : running_minimum (map key_number keys₂) ≡ side_q settings bins sides
    unfolding side_q
    minima_are =
        ap (λ (ks : List ℕ). running_minimum (map key_number ks)) k
        ∙ ap running_minimum (numbers_back capped keys numbers length_capped)
        ∙ running_minimum_capped (ratios_from settings bins f32_one 0 sides)

    rank_all : (count : ℕ) (keys₃ : List ℕ)
        → count ≡ targets_at_most (one_in 100) (map label_of keys₂) (running_minimum (map key_number keys₂))
        → keys₃ ≡ with_numbers (running_minimum (map key_number keys₂)) keys₂
        → (count ≡ targets_at_most (one_in 100) (map label_of keys) (side_q settings bins sides))
        × (keys₃ ≡ with_numbers (side_q settings bins sides) keys)
    rank_all count keys₃ c m = (
      c
          ∙ ap₂ (targets_at_most (one_in 100)) (ap (map label_of) k ∙ payload_stays (λ place bit. cond (eqb bit 1) (negsuc 0) (pos 0)) capped keys length_capped) minima_are,
      m ∙ ap₂ with_numbers minima_are k ∙ written_over (side_q settings bins sides) capped keys length_capped,
    )

-- and so where the keys were sorted first
pub rank_done : (settings : Settings) (bins : List Float) (t : Table) (keys₁ keys₀ : List ℕ) → keys₁ ≡ sorted keys₀
    → (keys₂ : List ℕ) → keys₂ ≡ with_numbers (capped_ratios settings bins t f32_one 0 keys₁) keys₁
    → (count : ℕ) (keys₃ : List ℕ)
    → count ≡ targets_at_most (one_in 100) (map label_of keys₂) (running_minimum (map key_number keys₂))
    → keys₃ ≡ with_numbers (running_minimum (map key_number keys₂)) keys₂
    → (count ≡ targets_at_most (one_in 100) (map label_of (sorted keys₀))
    (side_q settings bins (map (key_side t) (sorted keys₀))))
    × (keys₃ ≡ with_numbers (side_q settings bins (map (key_side t) (sorted keys₀))) (sorted keys₀))
rank_done settings bins t keys₁ keys₀ s keys₂ k count keys₃ c m =
    subst (λ (ks : List ℕ). (count ≡ targets_at_most (one_in 100) (map label_of ks) (side_q settings bins (map (key_side t) ks))) × (keys₃ ≡ with_numbers (side_q settings bins (map (key_side t) ks)) ks)) s
    (rank_all settings bins t keys₁ keys₂ k count keys₃ c m)

-- ---- the rows

-- every key's slot is one of the table's, so that its names are places of the names' column
names_fit : (n m : ℕ) → m ≡ 2 * n → (keys : List ℕ) → Each (SlotInBounds n) keys
    → Each (λ k. NamesInBounds m (place_of k)) keys
names_fit n m e keys w = all_map (SlotInBounds n) (λ k. NamesInBounds m (place_of k)) (λ k h. omega arith) keys w

labels_same : (t : Table) (keys : List ℕ) → map label_of keys ≡ map side_label (map (key_side t) keys)
labels_same t [] = refl
labels_same t (k ∷ ks) = ap (λ (l : List ℤ). label_of k ∷ l) (labels_same t ks)

-- what `assigned` knows after its call of `pack`, and after that of `rank`
pub record Packs (bins : List Float) (t : Table) (slots : List ℕ) (labels : List ℤ) (keys₀ spare₀ : List ℕ)
    (q₀ : List Float) (rows : ℕ) (keys₁ : List ℕ) : Type 0 where
  pub ready : AssignReady t (length bins) slots (length labels) (length keys₀) (length spare₀) (length q₀)
  pub forward_fit : (i : ℕ) → T (fits binary32 (get_or t.forward i nan))
  pub reverse_fit : (i : ℕ) → T (fits binary32 (get_or t.reverse i nan))
  pub few : rows ≤ length keys₀
  pub same : length keys₁ ≡ length keys₀
  pub front : take rows keys₁ ≡ map side_key (seen_sides t)

pub record Ranks (settings : Settings) (bins : List Float) (t : Table) (keys spare : List ℕ) (count : ℕ)
    (keys₁ spare₁ : List ℕ) : Type 0 where
  pub count_is : count
      ≡ targets_at_most (one_in 100) (map label_of (sorted keys))
      (side_q settings bins (map (key_side t) (sorted keys)))
  pub keys_are : keys₁ ≡ with_numbers (side_q settings bins (map (key_side t) (sorted keys))) (sorted keys)
  pub same_keys : length keys₁ ≡ length keys
  pub same_spare : length spare₁ ≡ length spare

-- a column's entries fit up to its length, and NaN does past it
fit_past : (column : List Float) (n : ℕ) → length column ≤ n
    → ((i : ℕ) → i < n → T (fits binary32 (get_or column i nan))) → (i : ℕ) → T (fits binary32 (get_or column i nan))
unfolding fits
fit_past column n h f i = elim (lt_or_ge i n) [
  | inl k ↦ f i k
  | inr k ↦ rw (get_or_past column i nan (le_trans h k)) tt
]

pub packs : (bins : List Float) {t : Table} {slots : List ℕ} (labels : List ℤ) (keys₀ spare₀ : List ℕ) (q₀ : List Float)
    {rows : ℕ} (keys₁ : List ℕ)
    → AssignReady t (length bins) slots (length labels) (length keys₀) (length spare₀) (length q₀)
    → ScoresFit t (length t.forward)
    → rows ≤ length keys₀
    → length keys₁ ≡ length keys₀
    → take rows keys₁ ≡ map side_key (seen_sides t)
    → Packs bins t slots labels keys₀ spare₀ q₀ rows keys₁
packs bins {t} labels keys₀ spare₀ q₀ keys₁ a f h s k = record {
  ready = a;
  forward_fit = fit_past t.forward (length t.forward) (le_refl _) f.forward;
  reverse_fit = fit_past t.reverse (length t.forward) (rw a.pack.lengths.reverse_length (le_refl _)) f.reverse;
  few = h;
  same = s;
  front = k;
}

pub ranks : (settings : Settings) (bins : List Float) (t : Table) (keys spare : List ℕ) {count : ℕ}
    (keys₁ spare₁ : List ℕ)
    → count
    ≡ targets_at_most (one_in 100) (map label_of (sorted keys)) (side_q settings bins (map (key_side t) (sorted keys)))
    → keys₁ ≡ with_numbers (side_q settings bins (map (key_side t) (sorted keys))) (sorted keys)
    → length keys₁ ≡ length keys
    → length spare₁ ≡ length spare
    → Ranks settings bins t keys spare count keys₁ spare₁
ranks settings bins t keys spare keys₁ spare₁ c k s r = record { count_is = c; keys_are = k; same_keys = s; same_spare = r }

module _ {bins : List Float} {t : Table} {slots : List ℕ} {labels : List ℤ} {keys₀ spare₀ : List ℕ} {q₀ : List Float}
    {rows : ℕ} {keys₁ : List ℕ}
    (w : Packs bins t slots labels keys₀ spare₀ q₀ rows keys₁) where
  part : length (take rows keys₁) ≡ rows
  part = length-take-le rows keys₁ (omega (arith, w.few, w.same))

  in_bounds : Each (SlotInBounds (length t.forward)) (take rows keys₁)
  in_bounds = rw w.front (listed_in_bounds t 0 (length t.forward) (seen_sides t) w.ready.pack.short (seen_listed t))

  -- what `rank` asks
  pub rank_asks : RatiosReady (length bins) t (take rows keys₁)
  rank_asks = record {
    range = w.ready.range;
    reverse_length = w.ready.pack.lengths.reverse_length;
    in_bounds = in_bounds;
    countable = rw w.front (le_trans (few_targets t 0 (length t.forward)) w.ready.pack.short);
  }

  abbrev ks : List ℕ
  ks = sorted (take rows keys₁)

  scores : ScoresFit t (length t.forward)
  scores = record { forward = λ i h. w.forward_fit i; reverse = λ i h. w.reverse_fit i }

  ranked_are : map (key_side t) ks ≡ ranked_sides t
  ranked_are = ap (λ (l : List ℕ). map (key_side t) (sorted l)) w.front ∙ sorted_sides t w.ready.pack.short (seen_fit t scores)

  module _ {settings : Settings} {count : ℕ} {part₁ spare₁ : List ℕ}
      (r : Ranks settings bins t (take rows keys₁) (take rows spare₀) count part₁ spare₁) where
    abbrev ratios : List Float
    ratios = ratios_from settings bins f32_one 0 (map (key_side t) ks)

    abbrev qs : List Float
    qs = side_q settings bins (map (key_side t) ks)

    length_qs : length qs ≡ length ks
    unfolding side_q
    length_qs = length_running_minimum ratios ∙ length_ratios settings bins f32_one 0 (map (key_side t) ks) ∙ length-map ks (key_side t)

    numbers_qs : Each F32Number qs
    unfolding side_q
    numbers_qs = minimum_numbers ratios (ratios_fit settings bins f32_one 0 (map (key_side t) ks))

    -- the keys that the other passes see
    front_is : take rows (part₁ ++ drop rows keys₁) ≡ with_numbers qs ks
    front_is = take_at part₁ (drop rows keys₁) rows (r.same_keys ∙ part) ∙ r.keys_are

    -- their names are places of a column of two entries per slot
    bounded : (n : ℕ) → n ≡ 2 * length t.forward → Each (λ k. NamesInBounds n (place_of k)) (with_numbers qs ks)
    bounded n h =
        names_fit (length t.forward) n h (with_numbers qs ks)
        (places_stay (λ place. place < length t.forward) qs ks (all_sorted (SlotInBounds (length t.forward)) (take rows keys₁) in_bounds))

    spare_length : length (spare₁ ++ drop rows spare₀) ≡ length spare₀
    spare_length = length_front spare₀ spare₁ rows r.same_spare

    -- what `name_q_values` asks
    pub names_ask : Each (λ k. NamesInBounds (length (spare₁ ++ drop rows spare₀)) (place_of k))
        (take rows (part₁ ++ drop rows keys₁))
    names_ask = rw front_is (bounded (length (spare₁ ++ drop rows spare₀)) (spare_length ∙ w.ready.spare_length))

    -- after its call of `name_q_values`
    module _ (column : List ℕ) (column_is : column ≡ written_at_names settings.names
        (take rows (part₁ ++ drop rows keys₁)) (filled 1065353216 (spare₁ ++ drop rows spare₀))) where
      ones : List ℕ
      ones = filled 1065353216 (spare₁ ++ drop rows spare₀)

      places : length ones ≡ length spare₀
      unfolding ones
      places = length-replicate (length (spare₁ ++ drop rows spare₀)) 1065353216 ∙ spare_length

      column_of : column ≡ written_at_names settings.names (with_numbers qs ks) ones
      unfolding ones
      column_of = column_is ∙ ap (λ (l : List ℕ). written_at_names settings.names l (filled 1065353216 (spare₁ ++ drop rows spare₀))) front_is

      column_length : length column ≡ length spare₀
      column_length = ap length column_of ∙ length_names settings.names (with_numbers qs ks) ones ∙ places

      rows_in_bounds : Each (λ s. eqb s no_part ≡ false → NamesInBounds (length column) s) slots
      rows_in_bounds = slots_in_bounds (length t.forward) (length column) (column_length ∙ w.ready.spare_length) slots w.ready.slots_allowed

      -- what `write_rows` asks
      column_bits : Each NumberBits column
      unfolding ones
      column_bits = rw column_of (names_bits settings.names (with_numbers qs ks) ones (hold_numbers qs ks numbers_qs) (ones_bits (length (spare₁ ++ drop rows spare₀))))

      pub rows_ask : Each NumberBits column
          × (Each (λ s. eqb s no_part ≡ false → NamesInBounds (length column) s) slots ×
          ((length labels ≡ length slots) × (length q₀ ≡ length slots)))
      rows_ask = (column_bits, (rows_in_bounds, (w.ready.labels_length, w.ready.q_length)))

      -- a name reads its q-value
      name_reads : (name : ℕ) → name < length column
          → of_bits binary32 (get_or column name 0)
          ≡ q_of settings.names (ranked_sides t) (side_q settings bins (ranked_sides t)) name f32_one
      unfolding ones
      name_reads name h =
          ap (λ (c : List ℕ). of_bits binary32 (get_or c name 0)) column_of
          ∙ names_read settings.names t (with_numbers qs ks) ones name (bounded (length ones) (places ∙ w.ready.spare_length))
          ∙ ap₂ (λ (ss : List Side) (xs : List Float). q_of settings.names ss xs name (of_bits binary32 (get_or ones name 0)))
          (payload_stays (λ place bit. side_of t place (eqb bit 1)) qs ks length_qs) (numbers_back qs ks numbers_qs length_qs)
          ∙ ap₂ (λ (ss : List Side) (n : ℕ). q_of settings.names ss (side_q settings bins ss) name (of_bits binary32 n)) ranked_are
          (get_or-replicate (length (spare₁ ++ drop rows spare₀)) name 1065353216 0 (omega (arith, column_length, spare_length)))

      row_reads : (slot : ℕ) (label : ℤ) → (eqb slot no_part ≡ false → NamesInBounds (length column) slot)
          → read_at_name settings.names column slot label
          ≡ row_q settings.names (ranked_sides t) (side_q settings bins (ranked_sides t)) slot label
      row_reads slot label h =
          let name = name_of settings.names slot (is_decoy label) in
          go (eqb slot no_part) (λ p. name_reads name (name_in_bounds settings.names slot (is_decoy label) (length column) (h p)))
        where
          go : {x y : Float} (b : Bool) → (b ≡ false → x ≡ y) → cond b f32_one x ≡ cond b f32_one y
          go true k = refl
          go false k = k refl

      pub assigned_all : (q₁ : List Float)
          → q₁ ≡ tabulated (λ i. read_at_name settings.names column (get_or slots i 0) (get_or labels i (pos 0))) 0
          (length slots)
          → (keys₂ spare₂ : List ℕ) → keys₂ ≡ filled 0 (part₁ ++ drop rows keys₁) → spare₂ ≡ filled 0 column
          → (count ≡ passing settings bins t)
          × ((q₁ ≡ rows_q settings bins t slots labels) × ((keys₂ ≡ filled 0 keys₀) × (spare₂ ≡ filled 0 spare₀)))
      unfolding passing rows_q
      assigned_all q₁ reads keys₂ spare₂ k s = (
        r.count_is
            ∙ ap (λ (ls : List ℤ). targets_at_most (one_in 100) ls qs) (labels_same t ks)
            ∙ ap (λ (ss : List Side). targets_at_most (one_in 100) (map side_label ss) (side_q settings bins ss)) ranked_are,
        (
          reads
              ∙ tabulated_same (length slots)
              (λ i h. row_reads (get_or slots i 0) (get_or labels i (pos 0)) (all_at (λ n. eqb n no_part ≡ false → NamesInBounds (length column) n) 0 slots rows_in_bounds i h)),
          (k ∙ same_blank 0 (part₁ ++ drop rows keys₁) keys₀ (length_front keys₁ part₁ rows r.same_keys ∙ w.same), s ∙ same_blank 0 column spare₀ column_length),
        ),
      )
