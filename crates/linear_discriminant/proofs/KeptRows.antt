-- The second pass, while rows are kept: what a class's table and its kept rows hold together. `from` is the row up to
-- which the table has been filled; the kept rows are those of the class from there on, so any sum over them is the sum
-- over those.
use mathlib.Core.Path.{◌≡◌, refl, sym, ap, ◌∙◌, subst}
use mathlib.Core.Logic.{◌⊎◌, inl, inr}
use mathlib.Core.List.{List, [], ◌∷◌}
use mathlib.Core.Bool.{Bool, true, false, cond}
use Prim.Native.Nat.{ℕ, zero, suc, ◌+◌, ◌-◌, ◌≤◌, ◌<◌, zero-le}
use native.Mathlib.Nat.{le_refl, ne_of_lt}
use native.Mathlib.Omega.{arith}
use lib.IntN.{ℤ, pos}
use lib.ListN.{length, take, get_or, set, length-set}
use lib.Seq.{get_or-set_same, get_or-set_other, get_or-take, length-take-le}
use lib.Ieee.{Float}
use borrow.Author.Tests.{eq-eqb, ne_eqb}
use Rattle.folds.specs.Walks.{steps, for_range}
use Rattle.folds.specs.Lists.{tabulated}
use Rattle.folds.proofs.Tests.{lt_or_ge}
use Rattle.gauss.specs.Elimination.{Vector, Matrix, row}
use Rattle.linear_discriminant.specs.Fit.{class_of, in_class}
use Rattle.linear_discriminant.specs.Inner.Passes.{kept_added}
use Rattle.folds.proofs.Walks.{for_range_last, for_range_same}
use Rattle.folds.proofs.Stores.{stored_pair}

-- any step h on the first m kept rows gives what it gives on the rows taken from a up to b
abbrev pub KeptRowsAre : (ℕ → Bool) → (ℕ → Vector) → Matrix → ℕ → ℕ → ℕ → Type 0
KeptRowsAre takes r rows m a b =
    (h : Vector → Float → Float) (sum : Float) → for_range (λ g. h (row rows g)) 0 m sum
    ≡ for_range (λ i s. cond (takes i) (h (r i) s) s) a b sum

-- adding them brings the table from a to b
abbrev pub Adds : (ℕ → Bool) → (ℕ → Vector) → (ℕ → Matrix) → Type 0
Adds takes r state =
    (rows : Matrix) (m a b : ℕ) → a ≤ b → KeptRowsAre takes r rows m a b → kept_added rows m (state a) ≡ state b

pub record Kept (takes : ℕ → Bool) (r : ℕ → Vector) (state : ℕ → Matrix) (table rows : Matrix) (m i : ℕ) : Type 0 where
  pub from : ℕ
  pub low : from ≤ i
  pub is : table ≡ state from
  pub tall : length rows ≡ 16
  pub few : m < 16
  pub same : KeptRowsAre takes r rows m from i

pub kept_start : {takes : ℕ → Bool} {r : ℕ → Vector} {state : ℕ → Matrix} {table rows : Matrix} → table ≡ state 0
    → length rows ≡ 16
    → Kept takes r state table rows 0 0
unfolding steps
kept_start e t = record { from = 0; low = zero-le; is = e; tall = t; few = omega arith; same = λ h s. refl }

module _ {takes : ℕ → Bool} {r : ℕ → Vector} {state : ℕ → Matrix} {table rows : Matrix} {m i : ℕ}
    (w : Kept takes r state table rows m i) where
  last : (h : Vector → Float → Float) (b : Bool) → takes i ≡ b → (sum : Float)
      → for_range (λ i s. cond (takes i) (h (r i) s) s) w.from (i + 1) sum
      ≡ cond b (h (r i) (for_range (λ g. h (row rows g)) 0 m sum)) (for_range (λ g. h (row rows g)) 0 m sum)
  last h b e sum =
      for_range_last (λ i s. cond (takes i) (h (r i) s) s) w.from i sum w.low
      ∙ ap (λ (s : Float). cond (takes i) (h (r i) s) s) (sym (w.same h sum))
      ∙ ap (λ (b : Bool). cond b (h (r i) (for_range (λ g. h (row rows g)) 0 m sum)) (for_range (λ g. h (row rows g)) 0 m sum)) e

  -- a row of the other class
  pub kept_skip : takes i ≡ false → Kept takes r state table rows m (i + 1)
  kept_skip e =
      let low = w.low in
      record { from = w.from; low = omega arith; is = w.is; tall = w.tall; few = w.few; same = λ h s. sym (last h false e s) }

  -- a row of this class, in the next place
  more : takes i ≡ true → {v : Vector} → v ≡ r i → KeptRowsAre takes r (set rows m v) (m + 1) w.from (i + 1)
  more e {v} f h sum =
      for_range_last (λ g. h (row (set rows m v) g)) 0 m sum zero-le
      ∙ ap (h (row (set rows m v) m)) (for_range_same 0 m sum (λ g l u s. ap (λ (x : Vector). h x s) (get_or-set_other rows m g v [] (ne_of_lt u))))
      ∙ ap (λ (x : Vector). h x (for_range (λ g. h (row rows g)) 0 m sum)) (get_or-set_same rows m v [] (subst (λ (n : ℕ). m < n) (sym w.tall) w.few) ∙ f)
      ∙ sym (last h true e sum)

  pub kept_keep : takes i ≡ true → {v : Vector} → v ≡ r i → m < 15
      → Kept takes r state table (set rows m v) (m + 1) (i + 1)
  kept_keep e {v} f l =
      let low = w.low in
      record { from = w.from; low = omega arith; is = w.is; tall = length-set rows m v ∙ w.tall; few = omega arith; same = more e f }

  pub kept_add : Adds takes r state → takes i ≡ true → {v : Vector} {table' : Matrix} → v ≡ r i → 15 ≤ m
      → table' ≡ kept_added (set rows m v) (length (set rows m v)) table
      → Kept takes r state table' (set rows m v) 0 (i + 1)
  unfolding steps
  kept_add adds e {v} f l t =
      let low = w.low in
      let few = w.few in
      let long = length-set rows m v ∙ w.tall in
      let z : m + 1 ≡ length (set rows m v) = omega arith in
      record {
        from = i + 1;
        low = le_refl (i + 1);
        is = t
            ∙ ap (kept_added (set rows m v) (length (set rows m v))) w.is
            ∙ adds (set rows m v) (length (set rows m v)) w.from (i + 1) (omega arith) (subst (λ (n : ℕ). KeptRowsAre takes r (set rows m v) n w.from (i + 1)) z (more e f));
        tall = long;
        few = omega arith;
        same = λ h s. sym (none h s);
      }
    where
      none : (h : Vector → Float → Float) (s : Float)
          → for_range (λ i s. cond (takes i) (h (r i) s) s) (i + 1) (i + 1) s ≡ s
      none h s =
          let z : i + 1 - (i + 1) ≡ 0 = omega arith in
          ap (λ (k : ℕ). steps (λ i s. cond (takes i) (h (r i) s) s) (i + 1) k s) z

  -- what is still kept is added in the end
  pub kept_end : Adds takes r state → {table' : Matrix} → table' ≡ kept_added (take m rows) (length (take m rows)) table
      → table' ≡ state i
  kept_end adds t =
      let few = w.few in
      let long : length (take m rows) ≡ m = length-take-le m rows (omega (arith, w.tall)) in
      t
      ∙ ap (kept_added (take m rows) (length (take m rows))) w.is
      ∙ adds (take m rows) (length (take m rows)) w.from i w.low
      (subst (λ (n : ℕ). KeptRowsAre takes r (take m rows) n w.from i) (sym long) part)
    where
      part : KeptRowsAre takes r (take m rows) m w.from i
      part h sum =
          for_range_same 0 m sum (λ g l u s. ap (λ (x : Vector). h x s) (get_or-take m rows g [] u))
          ∙ w.same h sum

-- ---- both classes

module _ (labels : List ℤ) (r : ℕ → ℕ → Vector) (state : ℕ → ℕ → Matrix) where
  pub record Gathered (tables kept : List Matrix) (filled : List ℕ) (i : ℕ) : Type 0 where
    pub high : i ≤ length labels
    pub two : length tables ≡ 2
    pub pair : length kept ≡ 2
    pub both : length filled ≡ 2
    pub each_class : (c : ℕ) → c < 2
        → Kept (in_class labels c) (r c) (state c) (get_or tables c []) (get_or kept c []) (get_or filled c 0) i

pub gathered_start : {labels : List ℤ} {r : ℕ → ℕ → Vector} {state : ℕ → ℕ → Matrix} {s t k l : Matrix} → s ≡ state 0 0
    → t ≡ state 1 0
    → length k ≡ 16 → length l ≡ 16 → Gathered labels r state (s ∷ t ∷ []) (k ∷ l ∷ []) (0 ∷ 0 ∷ []) 0
gathered_start {labels} {r} {state} {s} {t} {k} {l} e f g h = record { high = zero-le; two = refl; pair = refl; both = refl; each_class = at }
  where
    at : (c : ℕ) → c < 2
        → Kept (in_class labels c) (r c) (state c) (get_or (s ∷ t ∷ []) c []) (get_or (k ∷ l ∷ []) c [])
        (get_or (0 ∷ 0 ∷ []) c 0) 0
    at zero p = kept_start e g
    at (suc zero) p = kept_start f h
    at (suc (suc c)) p = absurd (no c p)
      where
        no : (c : ℕ) → suc (suc c) < 2 → ⊥
        no c p = omega arith

module _ {labels : List ℤ} {r : ℕ → ℕ → Vector} {state : ℕ → ℕ → Matrix} {tables kept : List Matrix} {filled : List ℕ}
    {i c : ℕ}
    (w : Gathered labels r state tables kept filled i) (below : i < length labels) (small : c < 2)
    (own : c ≡ class_of (get_or labels i (pos 0))) {v : Vector}
    (centred : v ≡ r c i) where
  mine : in_class labels c i ≡ true
  mine = eq-eqb (class_of (get_or labels i (pos 0))) c (sym own)

  theirs : (d : ℕ) → (d ≡ c → ⊥) → in_class labels d i ≡ false
  theirs d p = ne_eqb (class_of (get_or labels i (pos 0))) d (λ e. p (sym (own ∙ e)))

  fits : {A : Type 0} (l : List A) → length l ≡ 2 → c < length l
  fits l e = subst (λ (n : ℕ). c < n) (sym e) small

  -- an entry of a list after a store at c, mine or the other's
  module _ (tables' kept' : List Matrix) (filled' : List ℕ) where
    each : Kept (in_class labels c) (r c) (state c) (get_or tables' c []) (get_or kept' c []) (get_or filled' c 0)
        (i + 1)
        → ((d : ℕ) → (d ≡ c → ⊥) → get_or tables' d [] ≡ get_or tables d [])
        → ((d : ℕ) → (d ≡ c → ⊥) → get_or kept' d [] ≡ get_or kept d [])
        → ((d : ℕ) → (d ≡ c → ⊥) → get_or filled' d 0 ≡ get_or filled d 0) → (d : ℕ) → d < 2
        → Kept (in_class labels d) (r d) (state d) (get_or tables' d []) (get_or kept' d []) (get_or filled' d 0)
        (i + 1)
    each s t k f d h = go (lt_or_ge d c) (lt_or_ge c d)
      where
        other : (d ≡ c → ⊥)
            → Kept (in_class labels d) (r d) (state d) (get_or tables' d []) (get_or kept' d []) (get_or filled' d 0)
            (i + 1)
        other p = rw (t d p, k d p, f d p) (kept_skip (w.each_class d h) (theirs d p))

        go : (d < c) ⊎ (c ≤ d) → (c < d) ⊎ (d ≤ c)
            → Kept (in_class labels d) (r d) (state d) (get_or tables' d []) (get_or kept' d []) (get_or filled' d 0)
            (i + 1)
        go (inl a) b = other (λ e. omega arith)
        go (inr a) (inl b) = other (λ e. omega arith)
        go (inr a) (inr b) =
            let z : c ≡ d = omega arith in
            subst (λ (n : ℕ). Kept (in_class labels n) (r n) (state n) (get_or tables' n []) (get_or kept' n []) (get_or filled' n 0) (i + 1)) z s

  abbrev kept_now : List Matrix
  kept_now = set kept c (set (get_or kept c []) (get_or filled c 0) v)

  pub gathered_keep : get_or filled c 0 < 15
      → Gathered labels r state tables kept_now (set filled c (get_or filled c 0 + 1)) (i + 1)
  gathered_keep l = record {
    high = omega arith;
    two = w.two;
    pair = length-set kept c (set (get_or kept c []) (get_or filled c 0) v) ∙ w.pair;
    both = length-set filled c (get_or filled c 0 + 1) ∙ w.both;
    each_class = each tables kept_now (set filled c (get_or filled c 0 + 1))
        (rw (get_or-set_same kept c (set (get_or kept c []) (get_or filled c 0) v) [] (fits kept w.pair), get_or-set_same filled c (get_or filled c 0 + 1) 0 (fits filled w.both))
        (kept_keep (w.each_class c small) mine centred l))
        (λ d p. refl)
        (λ d p. get_or-set_other kept c d (set (get_or kept c []) (get_or filled c 0) v) [] p)
        (λ d p. get_or-set_other filled c d (get_or filled c 0 + 1) 0 p);
  }

  pub gathered_add : Adds (in_class labels c) (r c) (state c) → {t : Matrix} → 15 ≤ get_or filled c 0
      → t ≡ kept_added (get_or kept_now c []) (length (get_or kept_now c [])) (get_or tables c [])
      → Gathered labels r state (set tables c t) kept_now (set filled c 0) (i + 1)
  gathered_add adds {t} l e = record {
    high = omega arith;
    two = length-set tables c t ∙ w.two;
    pair = length-set kept c (set (get_or kept c []) (get_or filled c 0) v) ∙ w.pair;
    both = length-set filled c 0 ∙ w.both;
    each_class = each (set tables c t) kept_now (set filled c 0)
        (rw (get_or-set_same tables c t [] (fits tables w.two), now, get_or-set_same filled c 0 0 (fits filled w.both))
        (kept_add (w.each_class c small) adds mine centred l (e ∙ ap (λ (k : Matrix). kept_added k (length k) (get_or tables c [])) now)))
        (λ d p. get_or-set_other tables c d t [] p)
        (λ d p. get_or-set_other kept c d (set (get_or kept c []) (get_or filled c 0) v) [] p)
        (λ d p. get_or-set_other filled c d 0 0 p);
  }
    where
      now : get_or kept_now c [] ≡ set (get_or kept c []) (get_or filled c 0) v
      now = get_or-set_same kept c (set (get_or kept c []) (get_or filled c 0) v) [] (fits kept w.pair)

-- what class c still keeps
abbrev pub still : List Matrix → List ℕ → ℕ → Matrix
still kept filled c = take (get_or filled c 0) (get_or kept c [])

-- what both classes still keep is added
pub gathered_end : {labels : List ℤ} {r : ℕ → ℕ → Vector} {state : ℕ → ℕ → Matrix} {tables kept : List Matrix}
    {filled : List ℕ} {i : ℕ}
    → Gathered labels r state tables kept filled i → length labels ≤ i
    → ((c : ℕ) → Adds (in_class labels c) (r c) (state c)) → {s t : Matrix}
    → s ≡ kept_added (still kept filled 0) (length (still kept filled 0)) (get_or tables 0 [])
    → t ≡ kept_added (still kept filled 1) (length (still kept filled 1)) (get_or (set tables 0 s) 1 [])
    → set (set tables 0 s) 1 t ≡ tabulated (λ c. state c (length labels)) 0 2
unfolding tabulated
gathered_end {labels} {r} {state} {tables} {kept} {filled} {i} w h adds {s} {t} e f =
    let high = w.high in
    let z : i ≡ length labels = omega arith in
    stored_pair tables s t w.two
    ∙ ap (λ (x : Matrix). x ∷ t ∷ []) (kept_end (w.each_class 0 (omega arith)) (adds 0) e ∙ ap (state 0) z)
    ∙ ap (λ (x : Matrix). state 0 (length labels) ∷ x ∷ [])
    (kept_end (w.each_class 1 (omega arith)) (adds 1) (f ∙ ap (kept_added (still kept filled 1) (length (still kept filled 1))) (get_or-set_other tables 0 1 s [] (λ e. omega arith))) ∙ ap (state 1) z)
