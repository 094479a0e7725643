-- The seen sides of a table: each has its own payload, which rises down their list, so that their keys in ascending
-- order are those of the ranked sides. At most one side of a slot is a target.
use mathlib.Core.Path.{◌≡◌, refl, sym, ap, ap₂, ◌∙◌, subst}
use mathlib.Core.List.{List, [], ◌∷◌, ◌++◌, map, map-map}
use mathlib.Core.Logic.{inl, inr}
use mathlib.Core.Bool.{Bool, true, false, cond}
use Prim.Native.Nat.{ℕ, zero, suc, ◌+◌, ◌-◌, ◌*◌, ◌≤◌, ◌<◌, suc-le-suc}
use native.Mathlib.Nat.{not-suc-le-zero, le_of_suc-le-suc, le_trans, zero-lt-suc, add-zero, add-suc, suc-add, zero-add, le_refl, add_left_comm}
use native.Mathlib.Omega.{arith}
use lib.Dec.{T, eqb}
use lib.IntN.{pos, negsuc}
use lib.ListN.{length, get_or, length-map}
use lib.Ieee.{Float, nan, binary32, fits}
use Rattle.folds.specs.Inner.Each.{Each}
use Rattle.folds.proofs.Tests.{lt_or_ge}
use Rattle.columns.specs.Refusals.{longest}
use Rattle.counting.specs.Labels.{is_decoy}
use Rattle.ranking.specs.Ranking.{Row, ranked}
use Rattle.ranking.specs.Sorted.{key_inserted, sorted}
use Rattle.ranking.specs.Inner.Layout.{packed, decoy_bit, label_of}
use Rattle.ranking.proofs.Sorted.{insert_here, insert_past}
use Rattle.ranking.proofs.Packed.{place_of_packed, bit_of_packed, decoy_of_packed}
use Rattle.ranking.proofs.Ranks.{AllF32, Rising, packed_from, sorted_ranks, in_list}
use Rattle.competition.specs.Tables.{Table, is_seen}
use Rattle.fdr.specs.Sides.{Side, side_of, sides_from, seen_sides, ranked_sides}
use Rattle.fdr.specs.Inner.Passes.{side_payload, side_key, key_side, target_keys, SlotInBounds, ScoresFit}

-- ---- keys in another order

targets_insert : (n : ℕ) (xs : List ℕ) → target_keys (key_inserted n xs) ≡ target_keys (n ∷ xs)
unfolding target_keys
targets_insert n [] = unfold key_inserted in refl
targets_insert n (x ∷ xs) = elim (lt_or_ge x n) [
  | inl k ↦ rw (insert_past n x xs k, targets_insert n xs) (add_left_comm (1 - decoy_bit x) (1 - decoy_bit n) (target_keys xs))
  | inr k ↦ rw (insert_here n x xs k)
]

pub targets_sorted : (xs : List ℕ) → target_keys (sorted xs) ≡ target_keys xs
unfolding sorted target_keys
targets_sorted [] = refl
targets_sorted (x ∷ xs) = targets_insert x (sorted xs) ∙ ap (λ (n : ℕ). 1 - decoy_bit x + n) (targets_sorted xs)

-- ---- the list of seen sides

-- a side's mark
abbrev pub mark_of : Table → ℕ → Bool → ℕ
mark_of t slot decoy = cond decoy (get_or t.reverse_seen slot 0) (get_or t.forward_seen slot 0)

-- a side's payload is from lo on and below hi; the side is the table's, and seen
pub record OfTable (t : Table) (lo hi : ℕ) (s : Side) : Type 0 where
  pub low : lo ≤ side_payload s
  pub high : side_payload s < hi
  pub of : side_of t s.slot s.decoy ≡ s
  pub seen : T (is_seen (mark_of t s.slot s.decoy))

-- and the payloads rise
abbrev pub Listed : Table → ℕ → ℕ → List Side → Type 0
Listed t lo hi [] = Unit {0}
Listed t lo hi (s ∷ ss) = OfTable t lo hi s × Listed t (suc (side_payload s)) hi ss

listed_down : (t : Table) (lo lo' hi : ℕ) (ss : List Side) → lo' ≤ lo → Listed t lo hi ss → Listed t lo' hi ss
listed_down t lo lo' hi [] h w = tt
listed_down t lo lo' hi (s ∷ ss) h w = let o = w.0 in (record { low = le_trans h o.low; high = o.high; of = o.of; seen = o.seen }, w.1)

of_forward : (t : Table) (slot hi : ℕ) → T (is_seen (mark_of t slot false)) → slot * 2 + 1 < hi
    → OfTable t (slot * 2) hi (side_of t slot false)
of_forward t slot hi m h = record { low = omega arith; high = omega arith; of = refl; seen = m }

of_reverse : (t : Table) (slot lo hi : ℕ) → T (is_seen (mark_of t slot true)) → lo ≤ slot * 2 + 1 → slot * 2 + 1 < hi
    → OfTable t lo hi (side_of t slot true)
of_reverse t slot lo hi m l h = record { low = l; high = h; of = refl; seen = m }

sides_listed : (t : Table) (slot k hi : ℕ) → (slot + k) * 2 ≤ hi → Listed t (slot * 2) hi (sides_from t slot k)
unfolding sides_from
sides_listed t slot zero hi h = tt
sides_listed t slot (suc k) hi h =
    go (is_seen (mark_of t slot false)) (is_seen (mark_of t slot true)) (λ m. m) (λ m. m) (sides_from t (suc slot) k) (sides_listed t (suc slot) k hi (omega arith))
  where
    last : slot * 2 + 1 < hi
    last = omega arith

    go : (f r : Bool) → (T f → T (is_seen (mark_of t slot false))) → (T r → T (is_seen (mark_of t slot true)))
        → (later : List Side) → Listed t (suc slot * 2) hi later
        → Listed t (slot * 2) hi ((cond f (side_of t slot false ∷ []) [] ++ cond r (side_of t slot true ∷ []) []) ++
        later)
    go true true m n later w = (of_forward t slot hi (m tt) last, (of_reverse t slot (suc (slot * 2 + 0)) hi (n tt) (omega arith) last, listed_down t (suc slot * 2) (suc (slot * 2 + 1)) hi later (omega arith) w))
    go true false m n later w = (of_forward t slot hi (m tt) last, listed_down t (suc slot * 2) (suc (slot * 2 + 0)) hi later (omega arith) w)
    go false true m n later w = (of_reverse t slot (slot * 2) hi (n tt) (omega arith) last, listed_down t (suc slot * 2) (suc (slot * 2 + 1)) hi later (omega arith) w)
    go false false m n later w = listed_down t (suc slot * 2) (slot * 2) hi later (omega arith) w

pub seen_listed : (t : Table) → Listed t 0 (length t.forward * 2) (seen_sides t)
seen_listed t = sides_listed t 0 (length t.forward) (length t.forward * 2) (omega arith)

-- ---- one of them

-- whatever the score in its upper half, a key with the side's payload is the side's
bit_is : (key : ℕ) → is_decoy (label_of key) ≡ eqb (decoy_bit key) 1
bit_is key = go (eqb (decoy_bit key) 1)
  where
    go : (b : Bool) → is_decoy (cond b (negsuc 0) (pos 0)) ≡ b
    go true = refl
    go false = refl

key_side_lem : (t : Table) (lo hi : ℕ) (x : Float) (s : Side) → hi ≤ 4294967296 → OfTable t lo hi s
    → key_side t (packed x (side_payload s)) ≡ s
key_side_lem t lo hi x s h w =
    let key = packed x (side_payload s) in
    let small : s.slot < 2147483648 = omega (arith, w.high) in
    ap₂ (side_of t) (place_of_packed x s.slot s.decoy small) (sym (bit_is key) ∙ decoy_of_packed x s.slot s.decoy) ∙ w.of

abbrev pub payload_at : Table → List Side → ℕ → ℕ
payload_at t sides place = side_payload (get_or sides place (side_of t 0 false))

pub listed_at : (t : Table) (lo hi : ℕ) (ss : List Side) → Listed t lo hi ss → (p : ℕ) → p < length ss
    → OfTable t lo hi (get_or ss p (side_of t 0 false))
listed_at t lo hi [] w p h = absurd (not-suc-le-zero h)
listed_at t lo hi (s ∷ ss) w zero h = w.0
listed_at t lo hi (s ∷ ss) w (suc p) h =
    let l : lo ≤ suc (side_payload s) = omega (arith, w.0.low) in
    listed_at t lo hi ss (listed_down t (suc (side_payload s)) lo hi ss l w.1) p (le_of_suc-le-suc h)

pub listed_rises : (t : Table) (lo hi : ℕ) (ss : List Side) → Listed t lo hi ss → (p q : ℕ) → p < q → q < length ss
    → payload_at t ss p < payload_at t ss q
listed_rises t lo hi [] w p q l h = absurd (not-suc-le-zero h)
listed_rises t lo hi (s ∷ ss) w p zero l h = absurd (not-suc-le-zero l)
listed_rises t lo hi (s ∷ ss) w zero (suc q) l h = (listed_at t (suc (side_payload s)) hi ss w.1 q (le_of_suc-le-suc h)).low
listed_rises t lo hi (s ∷ ss) w (suc p) (suc q) l h = listed_rises t (suc (side_payload s)) hi ss w.1 p q (le_of_suc-le-suc l) (le_of_suc-le-suc h)

-- ---- scores of the format

module _ (t : Table) (scores : ScoresFit t (length t.forward)) where
  side_fit : (slot : ℕ) (decoy : Bool) → slot < length t.forward → T (fits binary32 (side_of t slot decoy).score)
  side_fit slot true h = scores.reverse slot h
  side_fit slot false h = scores.forward slot h

  listed_fit : (lo n : ℕ) (ss : List Side) → n ≤ length t.forward → Listed t lo (n * 2) ss
      → AllF32 (map (λ (s : Side). s.score) ss)
  listed_fit lo n [] l w = tt
  listed_fit lo n (s ∷ ss) l w =
      let small : s.slot < length t.forward = omega (arith, w.0.high) in (
        subst (λ (x : Side). T (fits binary32 x.score)) w.0.of (side_fit s.slot s.decoy small),
        listed_fit (suc (side_payload s)) n ss l w.1,
      )

  pub seen_fit : AllF32 (map (λ (s : Side). s.score) (seen_sides t))
  seen_fit = listed_fit 0 (length t.forward) (seen_sides t) (le_refl (length t.forward)) (seen_listed t)

-- ---- the keys

-- each key's slot is one of the table's
pub listed_in_bounds : (t : Table) (lo n : ℕ) (ss : List Side) → n ≤ longest → Listed t lo (n * 2) ss
    → Each (SlotInBounds n) (map side_key ss)
listed_in_bounds t lo n [] l w = tt
listed_in_bounds t lo n (s ∷ ss) l w =
    let small : s.slot < n = omega (arith, w.0.high) in (
      subst (λ (p : ℕ). p < n) (sym (place_of_packed s.score s.slot s.decoy (omega arith))) small,
      listed_in_bounds t (suc (side_payload s)) n ss l w.1,
    )

-- a slot has at most one target
pub few_targets : (t : Table) (slot k : ℕ) → target_keys (map side_key (sides_from t slot k)) ≤ k
unfolding sides_from target_keys
few_targets t slot zero = le_refl 0
few_targets t slot (suc k) = go (is_seen (get_or t.forward_seen slot 0)) (is_seen (get_or t.reverse_seen slot 0)) (sides_from t (suc slot) k) (few_targets t (suc slot) k)
  where
    go : (f r : Bool) (later : List Side) → target_keys (map side_key later) ≤ k
        → target_keys (map side_key ((cond f (side_of t slot false ∷ []) [] ++ cond r (side_of t slot true ∷ []) []) ++
        later)) ≤ suc k
    go true true later h = let d = bit_of_packed (get_or t.reverse slot nan) slot true in omega arith
    go true false later h = omega arith
    go false true later h = let d = bit_of_packed (get_or t.reverse slot nan) slot true in omega arith
    go false false later h = omega arith

-- the list's keys, as the ranking packs them
as_packed : (payloads : ℕ → ℕ) (a : ℕ) (t : Table) (ss : List Side)
    → ((i : ℕ) → i < length ss → payloads (a + i) ≡ payload_at t ss i)
    → map side_key ss ≡ packed_from payloads a (map (λ (s : Side). s.score) ss)
unfolding packed_from
as_packed payloads a t [] h = refl
as_packed payloads a t (s ∷ ss) h =
    ap₂ ◌∷◌ (ap (packed s.score) (sym (ap payloads (sym (add-zero a)) ∙ h 0 (zero-lt-suc (length ss)))))
    (as_packed payloads (suc a) t ss (λ (i : ℕ) (l : i < length ss). ap payloads (suc-add a i ∙ sym (add-suc a i)) ∙ h (suc i) (suc-le-suc l)))

-- ---- ranked rows

-- the keys in ascending order are of the ranked sides
pub sorted_sides : (t : Table) → length t.forward ≤ longest → AllF32 (map (λ (s : Side). s.score) (seen_sides t))
    → map (key_side t) (sorted (map side_key (seen_sides t))) ≡ ranked_sides t
unfolding ranked_sides
sorted_sides t short fit =
    let sides = seen_sides t in
    let hi = length t.forward * 2 in
    let w = seen_listed t in
    let scores = map (λ (s : Side). s.score) sides in
    let many : length scores ≡ length sides = length-map sides (λ (s : Side). s.score) in
    let up : Rising (payload_at t sides) 0 (0 + length scores) = record {
      rises = λ p q a l h. listed_rises t 0 hi sides w p q l (omega arith);
      small = λ p a h. small p (omega arith);
    } in
    ap (λ (ks : List ℕ). map (key_side t) (sorted ks)) (as_packed (payload_at t sides) 0 t sides (λ i l. ap (payload_at t sides) (zero-add i)))
    ∙ ap (map (key_side t)) (sorted_ranks (payload_at t sides) 0 scores up fit)
    ∙ map-map (key_side t) (λ (r : Row). packed r.score (payload_at t sides r.place)) (ranked scores)
    ∙ go (ranked scores) (subst (λ (n : ℕ). Each (λ r. r.place < n) (ranked scores)) many (in_list scores))
  where
    small : (p : ℕ) → p < length (seen_sides t) → payload_at t (seen_sides t) p < 4294967296
    small p h = omega (arith, (listed_at t 0 (length t.forward * 2) (seen_sides t) (seen_listed t) p h).high)

    go : (rows : List Row) → Each (λ r. r.place < length (seen_sides t)) rows
        → map (λ r. key_side t (packed r.score (payload_at t (seen_sides t) r.place))) rows
        ≡ map (λ r. get_or (seen_sides t) r.place (side_of t 0 false)) rows
    go [] v = refl
    go (r ∷ rows) v =
        let hi = length t.forward * 2 in
        ap₂ ◌∷◌ (key_side_lem t 0 hi r.score (get_or (seen_sides t) r.place (side_of t 0 false)) (omega arith) (listed_at t 0 hi (seen_sides t) (seen_listed t) r.place v.0))
        (go rows v.1)
