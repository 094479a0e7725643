-- What a name reads is the q-value of the last ranked side that has it (`q_of_last`). The ranking has each seen side of
-- a table once, so that under two names a side reads its own row, and under one name the later of its slot's rows.
use mathlib.Core.Path.{◌≡◌, refl, sym, ap, ◌∙◌}
use mathlib.Core.Logic.{◌⊎◌, inl, inr}
use mathlib.Core.List.{List, [], ◌∷◌, ◌++◌, map}
use mathlib.Core.Bool.{Bool, true, false, not, cond}
use Prim.Native.Nat.{ℕ, zero, suc, ◌+◌, ◌*◌, ◌≤◌, ◌<◌, max, suc-le-suc}
use native.Mathlib.Nat.{not-suc-le-zero, le_of_suc-le-suc, zero-lt-suc, eq-or-lt_of_le}
use native.Mathlib.Omega.{arith}
use borrow.Author.Tests.{eq-eqb, ne_eqb}
use lib.Dec.{T, T_not, eqb}
use lib.IntN.{ℤ}
use lib.ListN.{length, get_or, length-map}
use lib.Ieee.{Float, nan}
use Rattle.floats.specs.Constants.{f32_one}
use Rattle.counting.specs.Labels.{is_decoy}
use Rattle.counting.proofs.RunningMinimum.{length_running_minimum}
use Rattle.folds.proofs.Tests.{lt_or_ge}
use Rattle.folds.proofs.Writing.{map_at}
use Rattle.ranking.specs.Ranking.{Row, ranked, rank_of}
use Rattle.ranking.proofs.Places.{places, length_ranked, ranked_below, ranked_place, place_below, ranked_there}
use Rattle.competition.specs.Tables.{Table, is_seen}
use Rattle.competition.specs.Batches.{no_part}
use Rattle.fdr.specs.declared.Names.{Names}
use Rattle.fdr.specs.declared.Names.TheVariants.{Two, One}
use Rattle.fdr.specs.declared.Settings.{Settings}
use Rattle.fdr.specs.Sides.{Side, side_of, slot_sides, sides_from, seen_sides, ranked_sides}
use Rattle.fdr.specs.SideQValues.{ratios_from, side_q}
use Rattle.fdr.specs.NameQValues.{name_of, q_of, row_q}
use Rattle.fdr.specs.Inner.Passes.{side_payload}
use Rattle.fdr.proofs.Numbers.{length_ratios}
use Rattle.fdr.proofs.Sides.{mark_of, OfTable, seen_listed, listed_at, listed_rises}

-- ---- what a name reads

abbrev pub side_name : Names → Side → ℕ
side_name names s = name_of names s.slot s.decoy

-- no side from a place on has the name
abbrev pub NoneNamed : Names → List Side → ℕ → ℕ → Side → Type 0
NoneNamed names sides name from d =
    (j : ℕ) → from ≤ j → j < length sides → side_name names (get_or sides j d) ≡ name → ⊥

-- the side at a place has the name, and no later one has
pub record LastNamed (names : Names) (sides : List Side) (name place : ℕ) (d : Side) : Type 0 where
  pub below : place < length sides
  pub named : side_name names (get_or sides place d) ≡ name
  pub last : NoneNamed names sides name (suc place) d

pub q_of_none : (names : Names) (sides : List Side) (qs : List Float) (name : ℕ) (x : Float) (d : Side)
    → NoneNamed names sides name 0 d → q_of names sides qs name x ≡ x
unfolding q_of
q_of_none names [] qs name x d h = refl
q_of_none names (s ∷ ss) [] name x d h = refl
q_of_none names (s ∷ ss) (q ∷ qs) name x d h =
    rw (ne_eqb (side_name names s) name (h 0 (omega arith) (zero-lt-suc (length ss))))
    (q_of_none names ss qs name x d (λ j l b. h (suc j) (omega arith) (suc-le-suc b)))

pub q_of_last : (names : Names) (sides : List Side) (qs : List Float) (name place : ℕ) (x : Float) (d : Side)
    → length qs ≡ length sides → LastNamed names sides name place d
    → q_of names sides qs name x ≡ get_or qs place nan
unfolding q_of
q_of_last names [] qs name place x d e w = absurd (not-suc-le-zero w.below)
q_of_last names (s ∷ ss) [] name place x d e w = absurd (omega arith)
q_of_last names (s ∷ ss) (q ∷ qs) name zero x d e w =
    rw (eq-eqb (side_name names s) name w.named) (q_of_none names ss qs name q d (λ j l b. w.last (suc j) (omega arith) (suc-le-suc b)))
q_of_last names (s ∷ ss) (q ∷ qs) name (suc place) x d e w =
    q_of_last names ss qs name place (cond (eqb (side_name names s) name) q x) d (omega arith)
    (record { below = le_of_suc-le-suc w.below; named = w.named; last = λ j l b. w.last (suc j) (omega arith) (suc-le-suc b) })

-- ---- the ranks of a table's sides

abbrev pub side_at : Table → ℕ → Side
side_at t rank = get_or (ranked_sides t) rank (side_of t 0 false)

-- the slot's side, the reverse one if decoy, stands at a rank
pub record Stands (t : Table) (slot : ℕ) (decoy : Bool) (rank : ℕ) : Type 0 where
  pub below : rank < length (ranked_sides t)
  pub slot_is : (side_at t rank).slot ≡ slot
  pub decoy_is : (side_at t rank).decoy ≡ decoy

-- it stands at one rank, with the table's score
pub record RankedOnce (t : Table) (slot : ℕ) (decoy : Bool) : Type 0 where
  pub rank : ℕ
  pub there : Stands t slot decoy rank
  pub score_is : (side_at t rank).score ≡ cond decoy (get_or t.reverse slot nan) (get_or t.forward slot nan)
  pub only : (other : ℕ) → Stands t slot decoy other → other ≡ rank

-- a seen side of the table
pub record SeenSide (t : Table) (s : Side) : Type 0 where
  pub in_table : s.slot < length t.forward
  pub seen : T (is_seen (mark_of t s.slot s.decoy))
  pub of : s ≡ side_of t s.slot s.decoy

-- a side of a list
record Found (d s : Side) (sides : List Side) : Type 0 where
  place : ℕ
  below : place < length sides
  is : get_or sides place d ≡ s

here : (d s : Side) (ss : List Side) → Found d s (s ∷ ss)
here d s ss = record { place = 0; below = zero-lt-suc (length ss); is = refl }

later : (d s : Side) (xs ys : List Side) → Found d s ys → Found d s (xs ++ ys)
later d s [] ys w = w
later d s (x ∷ xs) ys w =
    let v = later d s xs ys w in record { place = suc v.place; below = suc-le-suc v.below; is = v.is }

found : (t : Table) (d : Side) (slot : ℕ) (decoy : Bool) → T (is_seen (mark_of t slot decoy)) → (first k : ℕ)
    → first ≤ slot → slot < first + k
    → Found d (side_of t slot decoy) (sides_from t first k)
unfolding sides_from
found t d slot decoy m first zero l h = absurd (omega arith)
found t d slot decoy m first (suc k) l h = elim (eq-or-lt_of_le l) [
  | inl e ↦ rw e (go decoy (is_seen (mark_of t slot false)) (is_seen (mark_of t slot true)) (sides_from t (suc slot) k) (mark decoy m))
  | inr g ↦ later d (side_of t slot decoy) (slot_sides t first) (sides_from t (suc first) k) (found t d slot decoy m (suc first) k g (omega arith))
]
  where
    mark : (b : Bool) → T (is_seen (mark_of t slot b))
        → T (cond b (is_seen (mark_of t slot true)) (is_seen (mark_of t slot false)))
    mark true m = m
    mark false m = m

    go : (b f r : Bool) (rest : List Side) → T (cond b r f)
        → Found d (side_of t slot b)
        ((cond f (side_of t slot false ∷ []) [] ++ cond r (side_of t slot true ∷ []) []) ++ rest)
    go true true true rest m = later d (side_of t slot true) (side_of t slot false ∷ []) (side_of t slot true ∷ rest) (here d (side_of t slot true) rest)
    go true false true rest m = here d (side_of t slot true) rest
    go true true false rest m = absurd m
    go true false false rest m = absurd m
    go false true true rest m = here d (side_of t slot false) (side_of t slot true ∷ rest)
    go false true false rest m = here d (side_of t slot false) rest
    go false false true rest m = absurd m
    go false false false rest m = absurd m

-- one number says a side's slot and class
payload_says : (slot slot' : ℕ) (b b' : Bool) → slot * 2 + cond b 1 0 ≡ slot' * 2 + cond b' 1 0
    → (slot ≡ slot') × (b ≡ b')
payload_says slot slot' true true e = (omega arith, refl)
payload_says slot slot' true false e = absurd (omega arith)
payload_says slot slot' false true e = absurd (omega arith)
payload_says slot slot' false false e = (omega arith, refl)

same_or_other : (a b : Bool) → (b ≡ a) ⊎ (b ≡ not a)
same_or_other true true = inl refl
same_or_other true false = inr refl
same_or_other false true = inr refl
same_or_other false false = inl refl

module _ (t : Table) where
  abbrev sides : List Side
  sides = seen_sides t

  abbrev absent : Side
  absent = side_of t 0 false

  abbrev scores : List Float
  scores = map (λ (s : Side). s.score) sides

  many : length scores ≡ length sides
  many = length-map sides (λ (s : Side). s.score)

  -- the place among the seen sides of the side at a rank
  abbrev place_at : ℕ → ℕ
  place_at rank = get_or (places (ranked scores)) rank 0

  length_sides : length (ranked_sides t) ≡ length sides
  unfolding ranked_sides
  length_sides = length-map (ranked scores) (λ r. get_or sides r.place absent) ∙ length_ranked scores ∙ many

  side_there : (rank : ℕ) → rank < length (ranked_sides t) → side_at t rank ≡ get_or sides (place_at rank) absent
  unfolding ranked_sides
  side_there rank h =
      let low : rank < length (ranked scores) = omega (arith, length-map (ranked scores) (λ (r : Row). get_or sides r.place absent)) in
      let nowhere : Row = record { score = nan; place = 0 } in
      map_at (λ (r : Row). get_or sides r.place absent) (ranked scores) rank nowhere absent low
      ∙ ap (λ (p : ℕ). get_or sides p absent) (sym (map_at (λ (r : Row). r.place) (ranked scores) rank nowhere 0 low))

  place_in_bounds : (rank : ℕ) → rank < length (ranked_sides t) → place_at rank < length sides
  place_in_bounds rank h = omega (arith, many, place_below scores rank 0 (omega (arith, many, length_sides)))

  rank_back : (rank : ℕ) → rank < length (ranked_sides t) → rank_of (ranked scores) (place_at rank) ≡ rank
  rank_back rank h = ranked_there scores rank 0 (omega (arith, many, length_sides))

  of_table : (rank : ℕ) → rank < length (ranked_sides t) → OfTable t 0 (length t.forward * 2) (side_at t rank)
  of_table rank h = rw (side_there rank h) (listed_at t 0 (length t.forward * 2) sides (seen_listed t) (place_at rank) (place_in_bounds rank h))

  same_place : (p q : ℕ) → p < length sides → q < length sides
      → side_payload (get_or sides p absent) ≡ side_payload (get_or sides q absent) → p ≡ q
  same_place p q h l e = elim (lt_or_ge p q) [
    | inl a ↦ absurd (omega (arith, listed_rises t 0 (length t.forward * 2) sides (seen_listed t) p q a l))
    | inr a ↦ elim (lt_or_ge q p) [
      | inl b ↦ absurd (omega (arith, listed_rises t 0 (length t.forward * 2) sides (seen_listed t) q p b h))
      | inr b ↦ omega arith
    ]
  ]

  pub one_rank : {slot : ℕ} {decoy : Bool} {i j : ℕ} → Stands t slot decoy i → Stands t slot decoy j → i ≡ j
  one_rank {slot} {decoy} {i} {j} v w =
      let e : side_payload (side_at t i) ≡ side_payload (side_at t j) = rw (v.slot_is, v.decoy_is, w.slot_is, w.decoy_is) in
      let p : place_at i ≡ place_at j = same_place (place_at i) (place_at j) (place_in_bounds i v.below) (place_in_bounds j w.below)
      (ap side_payload (sym (side_there i v.below)) ∙ e ∙ ap side_payload (side_there j w.below)) in
      sym (rank_back i v.below) ∙ ap (rank_of (ranked scores)) p ∙ rank_back j w.below

  -- each seen side has one rank, with the table's score
  pub each_side_ranked_once : (slot : ℕ) (decoy : Bool) → slot < length t.forward → T (is_seen (mark_of t slot decoy))
      → RankedOnce t slot decoy
  each_side_ranked_once slot decoy h m =
      let f = found t absent slot decoy m 0 (length t.forward) (omega arith) (omega arith) in
      let rank = rank_of (ranked scores) f.place in
      let inside : f.place < length scores = omega (arith, many, f.below) in
      let below : rank < length (ranked_sides t) = omega (arith, many, length_sides, ranked_below scores f.place inside) in
      let is : side_at t rank ≡ side_of t slot decoy = side_there rank below ∙ ap (λ (p : ℕ). get_or sides p absent) (ranked_place scores f.place 0 inside) ∙ f.is in
      let there : Stands t slot decoy rank = record { below = below; slot_is = ap (λ (s : Side). s.slot) is; decoy_is = ap (λ (s : Side). s.decoy) is } in
      record { rank = rank; there = there; score_is = ap (λ (s : Side). s.score) is; only = λ other w. one_rank w there }

  -- a side that is not seen has none
  pub unseen_not_ranked : {slot : ℕ} {decoy : Bool} {rank : ℕ} → T (not (is_seen (mark_of t slot decoy)))
      → Stands t slot decoy rank → ⊥
  unseen_not_ranked {slot} {decoy} {rank} m w =
      T_not (is_seen (mark_of t slot decoy)) m (rw (w.slot_is, w.decoy_is) at (of_table rank w.below).seen)

  -- and each rank has a seen side of the table
  pub each_rank_seen : (rank : ℕ) → rank < length (ranked_sides t) → SeenSide t (side_at t rank)
  each_rank_seen rank h =
      let o = of_table rank h in record { in_table = omega (arith, o.high); seen = o.seen; of = sym o.of }

  -- ---- the q-values of names

  abbrev rows : List Side
  rows = ranked_sides t

  module _ (settings : Settings) (bins : List Float) where
    abbrev qs : List Float
    qs = side_q settings bins rows

    length_qs : length qs ≡ length rows
    unfolding side_q
    length_qs = length_running_minimum (ratios_from settings bins f32_one 0 rows) ∙ length_ratios settings bins f32_one 0 rows

    -- "under "two names" each side gets its own row's q"
    pub two_names_own : {slot : ℕ} {decoy : Bool} {i : ℕ} → Stands t slot decoy i → (x : Float)
        → q_of Two rows qs (name_of Two slot decoy) x ≡ get_or qs i nan
    two_names_own {slot} {decoy} {i} w x = q_of_last Two rows qs (name_of Two slot decoy) i x absent length_qs (record {
      below = w.below;
      named = rw (w.slot_is, w.decoy_is);
      last = λ j l h e.
          let s = payload_says (side_at t j).slot slot (side_at t j).decoy decoy e in
          let z = one_rank w (record { below = h; slot_is = s.0; decoy_is = s.1 }) in
          omega arith;
    })

    -- "Under "one name" both sides get the q of the later ranked row"
    pub one_name_later : {slot i j : ℕ} → Stands t slot false i → Stands t slot true j → (x : Float)
        → q_of One rows qs slot x ≡ get_or qs (max i j) nan
    one_name_later {slot} {i} {j} v w x = q_of_last One rows qs slot (max i j) x absent length_qs (record {
      below = omega (arith, v.below, w.below);
      named = elim (lt_or_ge i j) [
        | inl h ↦ let e : max i j ≡ j = omega arith in rw e w.slot_is
        | inr h ↦ let e : max i j ≡ i = omega arith in rw e v.slot_is
      ];
      last = λ k l h e. go k l h e (side_at t k).decoy refl;
    })
      where
        go : (k : ℕ) → suc (max i j) ≤ k → k < length rows → (side_at t k).slot ≡ slot → (b : Bool)
            → (side_at t k).decoy ≡ b → ⊥
        go k l h e false f = let z = one_rank v (record { below = h; slot_is = e; decoy_is = f }) in omega arith
        go k l h e true f = let z = one_rank w (record { below = h; slot_is = e; decoy_is = f }) in omega arith

    -- and of the only one, where the other side is not seen
    pub one_name_only : {slot : ℕ} {decoy : Bool} {i : ℕ} → Stands t slot decoy i
        → T (not (is_seen (mark_of t slot (not decoy)))) → (x : Float)
        → q_of One rows qs slot x ≡ get_or qs i nan
    one_name_only {slot} {decoy} {i} w m x = q_of_last One rows qs slot i x absent length_qs (record {
      below = w.below;
      named = w.slot_is;
      last = λ k l h e. go k l h e (same_or_other decoy (side_at t k).decoy);
    })
      where
        go : (k : ℕ) → suc i ≤ k → k < length rows → (side_at t k).slot ≡ slot
            → ((side_at t k).decoy ≡ decoy) ⊎ ((side_at t k).decoy ≡ not decoy) → ⊥
        go k l h e (inl f) = let z = one_rank w (record { below = h; slot_is = e; decoy_is = f }) in omega arith
        go k l h e (inr f) = unseen_not_ranked m (record { below = h; slot_is = e; decoy_is = f })

    -- a name that no ranked side has gives the fallback
    pub never_ranked : (names : Names) (name : ℕ)
        → ((rank : ℕ) → rank < length rows → side_name names (side_at t rank) ≡ name → ⊥) → (x : Float)
        → q_of names rows qs name x ≡ x
    never_ranked names name h x = q_of_none names rows qs name x absent (λ j l b. h j b)

    -- ---- and so of a feature row

    pub row_two_names : {slot i : ℕ} (label : ℤ) → (slot ≡ no_part → ⊥) → Stands t slot (is_decoy label) i
        → row_q Two rows qs slot label ≡ get_or qs i nan
    row_two_names {slot} label p w = rw (ne_eqb slot no_part p) (two_names_own w f32_one)

    pub row_one_name_later : {slot i j : ℕ} (label : ℤ) → (slot ≡ no_part → ⊥) → Stands t slot false i
        → Stands t slot true j
        → row_q One rows qs slot label ≡ get_or qs (max i j) nan
    row_one_name_later {slot} label p v w = rw (ne_eqb slot no_part p) (one_name_later v w f32_one)

    pub row_one_name_only : {slot : ℕ} {decoy : Bool} {i : ℕ} (label : ℤ) → (slot ≡ no_part → ⊥)
        → Stands t slot decoy i → T (not (is_seen (mark_of t slot (not decoy))))
        → row_q One rows qs slot label ≡ get_or qs i nan
    row_one_name_only {slot} label p w m = rw (ne_eqb slot no_part p) (one_name_only w m f32_one)

    -- "1.0 if its name was never ranked"
    pub row_never_ranked : (names : Names) (slot : ℕ) (label : ℤ)
        → ((rank : ℕ) → rank < length rows → side_name names (side_at t rank) ≡ name_of names slot (is_decoy label) → ⊥)
        → row_q names rows qs slot label ≡ f32_one
    row_never_ranked names slot label h = go (eqb slot no_part) (never_ranked names (name_of names slot (is_decoy label)) h f32_one)
      where
        go : {q : Float} (b : Bool) → q ≡ f32_one → cond b f32_one q ≡ f32_one
        go true e = refl
        go false e = e

    -- under two names where the row's side is not seen, under one name where neither side is
    pub row_two_names_unseen : (slot : ℕ) (label : ℤ) → T (not (is_seen (mark_of t slot (is_decoy label))))
        → row_q Two rows qs slot label ≡ f32_one
    row_two_names_unseen slot label m = row_never_ranked Two slot label
        (λ k h e. let s = payload_says (side_at t k).slot slot (side_at t k).decoy (is_decoy label) e in unseen_not_ranked m (record { below = h; slot_is = s.0; decoy_is = s.1 }))

    pub row_one_name_unseen : (slot : ℕ) (label : ℤ) → T (not (is_seen (mark_of t slot false)))
        → T (not (is_seen (mark_of t slot true)))
        → row_q One rows qs slot label ≡ f32_one
    row_one_name_unseen slot label m n = row_never_ranked One slot label (λ k h e. go k h e (side_at t k).decoy refl)
      where
        go : (k : ℕ) → k < length rows → (side_at t k).slot ≡ slot → (b : Bool) → (side_at t k).decoy ≡ b → ⊥
        go k h e false f = unseen_not_ranked m (record { below = h; slot_is = e; decoy_is = f })
        go k h e true f = unseen_not_ranked n (record { below = h; slot_is = e; decoy_is = f })
