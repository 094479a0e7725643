-- The invariants of loops that walk a range, as records whose parameters are inferred: what is left to do of the walk,
-- from the state at hand, gives what the whole walk gives. A loop opens with `start`, takes a turn by `step`, and ends
-- by `done`.
use mathlib.Core.Path.{◌≡◌, refl, sym, ap, ◌∙◌, subst}
use mathlib.Core.Logic.{◌⊎◌, inl, inr}
use Prim.Native.Nat.{ℕ, zero, suc, ◌+◌, ◌-◌, ◌≤◌, ◌<◌, zero-le}
use native.Mathlib.Nat.{le_refl}
use native.Mathlib.Numerals.{add-one}
use native.Mathlib.Omega.{arith}
use mathlib.Core.Bool.{Bool, true, false, cond}
use lib.Dec.{T}
use lib.Ieee.Fits.{and_l, and_r}
use Rattle.folds.proofs.Tests.{lt_or_ge, no_truth}
use Rattle.folds.specs.Walks.{steps, for_range, for_range_down, first, find_in_range, every}

none_left : (j n : ℕ) → n ≤ j → n - j ≡ 0
none_left j n h = omega arith

minus_next : (j n : ℕ) → j < n → n - j ≡ suc (n - suc j)
minus_next j n h = omega arith

-- ---- upwards

pub record Walk {S : Type 0} (f : ℕ → S → S) (a j n : ℕ) (s₀ s : S) : Type 0 where
  pub low : a ≤ j
  pub high : j ≤ n
  pub is : for_range f j n s ≡ for_range f a n s₀

module _ {S : Type 0} (f : ℕ → S → S) where
  steps_none : (a k : ℕ) (s : S) → k ≡ 0 → steps f a k s ≡ s
  unfolding steps
  steps_none a zero s e = refl
  steps_none a (suc k) s e = absurd (no e)
    where
      no : suc k ≡ 0 → ⊥
      no p = omega arith

  steps_more : (a k l : ℕ) (s : S) → k ≡ suc l → steps f a k s ≡ steps f (suc a) l (f a s)
  unfolding steps
  steps_more a k l s e = ap (λ (x : ℕ). steps f a x s) e

  pub for_range_step : (j n : ℕ) (s : S) → j < n → for_range f j n s ≡ for_range f (j + 1) n (f j s)
  for_range_step j n s h = steps_more j (n - j) (n - suc j) s (minus_next j n h) ∙ ap (λ (x : ℕ). steps f x (n - x) (f j s)) (sym (add-one j))

  pub for_range_done : (j n : ℕ) (s : S) → n ≤ j → for_range f j n s ≡ s
  for_range_done j n s h = steps_none j (n - j) s (none_left j n h)

pub start : {S : Type 0} {f : ℕ → S → S} {a n : ℕ} {s : S} → a ≤ n → Walk f a a n s s
start {a = a} h = record { low = le_refl a; high = h; is = refl }

pub step : {S : Type 0} {f : ℕ → S → S} {a j n : ℕ} {s₀ s : S} → Walk f a j n s₀ s → j < n
    → Walk f a (j + 1) n s₀ (f j s)
step {f = f} {j = j} {n = n} {s = s} w h =
    let l = w.low in
    record { low = omega arith; high = omega arith; is = sym (for_range_step f j n s h) ∙ w.is }

-- a turn whose new state is f's by an equation
pub step_by : {S : Type 0} {f : ℕ → S → S} {a j n : ℕ} {s₀ s t : S} → Walk f a j n s₀ s → j < n → t ≡ f j s
    → Walk f a (j + 1) n s₀ t
step_by {S} {f} {a} {j} {n} {s₀} w h e = subst (λ (x : S). Walk f a (j + 1) n s₀ x) (sym e) (step w h)

pub done : {S : Type 0} {f : ℕ → S → S} {a j n : ℕ} {s₀ s : S} → Walk f a j n s₀ s → n ≤ j → s ≡ for_range f a n s₀
done {f = f} {j = j} {n = n} {s = s} w h = sym (for_range_done f j n s h) ∙ w.is

-- ---- downwards

pub record WalkDown {S : Type 0} (f : ℕ → S → S) (i n : ℕ) (s₀ s : S) : Type 0 where
  pub high : i ≤ n
  pub is : for_range_down f i s ≡ for_range_down f n s₀

for_range_down_more : {S : Type 0} (f : ℕ → S → S) (j : ℕ) (s : S)
    → for_range_down f (suc j) s ≡ for_range_down f j (f j s)
unfolding for_range_down
for_range_down_more f j s = refl

for_range_down_none : {S : Type 0} (f : ℕ → S → S) (s : S) → for_range_down f 0 s ≡ s
unfolding for_range_down
for_range_down_none f s = refl

pub walk_down_step : {S : Type 0} {f : ℕ → S → S} {i n : ℕ} {s₀ s : S} (j : ℕ) → WalkDown f i n s₀ s → i ≡ j + 1
    → WalkDown f j n s₀ (f j s)
walk_down_step {f = f} {i = i} {s = s} j w e =
    let l = w.high in
    record { high = omega arith; is = sym (for_range_down_more f j s) ∙ ap (λ (x : ℕ). for_range_down f x s) (sym (e ∙ add-one j)) ∙ w.is }

pub walk_down_done : {S : Type 0} {f : ℕ → S → S} {i n : ℕ} {s₀ s : S} → WalkDown f i n s₀ s → i ≡ 0
    → s ≡ for_range_down f n s₀
walk_down_done {f = f} {s = s} w e = sym (for_range_down_none f s) ∙ ap (λ (x : ℕ). for_range_down f x s) (sym e) ∙ w.is

-- ---- a search

pub record Finding (p : ℕ → Bool) (a j n : ℕ) : Type 0 where
  pub low : a ≤ j
  pub high : j ≤ n
  pub is : find_in_range p j n ≡ find_in_range p a n

first_more : (p : ℕ → Bool) (a k l : ℕ) → k ≡ suc l → first p a k ≡ cond (p a) a (first p (suc a) l)
unfolding first
first_more p a k l e = ap (first p a) e

first_none : (p : ℕ → Bool) (a k : ℕ) → k ≡ 0 → first p a k ≡ a
unfolding first
first_none p a k e = ap (first p a) e

pub finding_start : {p : ℕ → Bool} {a n : ℕ} → a ≤ n → Finding p a a n
finding_start {a = a} h = record { low = le_refl a; high = h; is = refl }

pub finding_step : {p : ℕ → Bool} {a j n : ℕ} → Finding p a j n → j < n → p j ≡ false → Finding p a (j + 1) n
finding_step {p} {a} {j} {n} w h e =
    let l = w.low in
    record {
      low = omega arith;
      high = omega arith;
      is = ap (λ (x : ℕ). first p x (n - x)) (add-one j)
          ∙ sym (ap (λ (b : Bool). cond b j (first p (suc j) (n - suc j))) e)
          ∙ sym (first_more p j (n - j) (n - suc j) (minus_next j n h))
          ∙ w.is;
    }

pub finding_found : {p : ℕ → Bool} {a j n : ℕ} → Finding p a j n → j < n → p j ≡ true → j ≡ find_in_range p a n
finding_found {p} {a} {j} {n} w h e =
    sym (ap (λ (b : Bool). cond b j (first p (suc j) (n - suc j))) e)
    ∙ sym (first_more p j (n - j) (n - suc j) (minus_next j n h))
    ∙ w.is

pub finding_none : {p : ℕ → Bool} {a j n : ℕ} → Finding p a j n → n ≤ j → j ≡ find_in_range p a n
finding_none {p} {a} {j} {n} w h = sym (first_none p j (n - j) (none_left j n h)) ∙ w.is

-- ---- all of them

pub every_at : (p : ℕ → Bool) (n i : ℕ) → T (every p n) → i < n → T (p i)
unfolding every
every_at p zero i t h = absurd (none i h)
  where
    none : (i : ℕ) → i < 0 → ⊥
    none i h = omega arith
every_at p (suc n) i t h = go (every_at p n i (and_l (every p n) (p n) t)) (lt_or_ge i n)
  where
    last : n ≤ i → i < suc n → n ≡ i
    last g k = omega arith

    go : (i < n → T (p i)) → (i < n) ⊎ (n ≤ i) → T (p i)
    go below (inl g) = below g
    go below (inr g) = subst (λ (x : ℕ). T (p x)) (last g h) (and_r (every p n) (p n) t)

-- ---- up to the first number that fails a test: every number before j passes

pub record Passing (p : ℕ → Bool) (j n : ℕ) : Type 0 where
  pub high : j ≤ n
  pub is : every p j ≡ true

pub passing_start : {p : ℕ → Bool} {n : ℕ} → Passing p 0 n
unfolding every
passing_start = record { high = zero-le; is = refl }

every_more : (p : ℕ → Bool) (j : ℕ) → every p j ≡ true → p j ≡ true → every p (suc j) ≡ true
unfolding every
every_more p j e f = rw (e, f)

pub passing_step : {p : ℕ → Bool} {j n : ℕ} → Passing p j n → j < n → p j ≡ true → Passing p (j + 1) n
passing_step {p} {j} w h e = record { high = omega arith; is = ap (every p) (add-one j) ∙ every_more p j w.is e }

pub passing_done : {p : ℕ → Bool} {j n : ℕ} → Passing p j n → n ≤ j → every p n ≡ true
passing_done {p} {j} {n} w h =
    let l = w.high in
    let e : n ≡ j = omega arith in
    ap (every p) e ∙ w.is

-- one that fails
pub failing : (p : ℕ → Bool) {j n : ℕ} → j < n → p j ≡ false → every p n ≡ false
failing p {j} {n} h e = no_truth (every p n) (λ t. subst T e (every_at p n j t h))

-- ---- the last turn, two walks end to end, and turns that are the same

module _ {S : Type 0} (f : ℕ → S → S) where
  steps_last : (a k : ℕ) (s : S) → steps f a (suc k) s ≡ f (a + k) (steps f a k s)
  unfolding steps
  steps_last a zero s =
      let e : a ≡ a + 0 = omega arith in
      ap (λ (i : ℕ). f i s) e
  steps_last a (suc k) s =
      let e : suc a + k ≡ a + suc k = omega arith in
      steps_last (suc a) k (f a s) ∙ ap (λ (i : ℕ). f i (steps f (suc a) k (f a s))) e

  pub for_range_last : (a b : ℕ) (s : S) → a ≤ b → for_range f a (b + 1) s ≡ f b (for_range f a b s)
  for_range_last a b s h =
      let e : b + 1 - a ≡ suc (b - a) = omega arith in
      let e' : a + (b - a) ≡ b = omega arith in
      ap (λ (k : ℕ). steps f a k s) e ∙ steps_last a (b - a) s ∙ ap (λ (i : ℕ). f i (steps f a (b - a) s)) e'

  steps_join : (a k l : ℕ) (s : S) → steps f (a + k) l (steps f a k s) ≡ steps f a (k + l) s
  unfolding steps
  steps_join a zero l s =
      let e : a + 0 ≡ a = omega arith in
      let e' : 0 + l ≡ l = omega arith in
      ap (λ (i : ℕ). steps f i l s) e ∙ ap (λ (k : ℕ). steps f a k s) (sym e')
  steps_join a (suc k) l s =
      let e : a + suc k ≡ suc a + k = omega arith in
      let e' : suc k + l ≡ suc (k + l) = omega arith in
      ap (λ (i : ℕ). steps f i l (steps f (suc a) k (f a s))) e ∙ steps_join (suc a) k l (f a s) ∙ ap (λ (k : ℕ). steps f a k s) (sym e')

  pub for_range_join : (a b c : ℕ) (s : S) → a ≤ b → b ≤ c → for_range f b c (for_range f a b s) ≡ for_range f a c s
  for_range_join a b c s h l =
      let e : b ≡ a + (b - a) = omega arith in
      let e' : b - a + (c - b) ≡ c - a = omega arith in
      ap (λ (i : ℕ). steps f i (c - b) (steps f a (b - a) s)) e ∙ steps_join a (b - a) (c - b) s ∙ ap (λ (k : ℕ). steps f a k s) e'

module _ {S : Type 0} {f g : ℕ → S → S} where
  steps_same : (a k : ℕ) (s : S) → ((i : ℕ) → a ≤ i → i < a + k → (s : S) → f i s ≡ g i s)
      → steps f a k s ≡ steps g a k s
  unfolding steps
  steps_same a zero s e = refl
  steps_same a (suc k) s e =
      ap (steps f (suc a) k) (e a (le_refl a) (omega arith) s)
      ∙ steps_same (suc a) k (g a s) (λ i l u. e i (omega arith) (omega arith))

  pub for_range_same : (a b : ℕ) (s : S) → ((i : ℕ) → a ≤ i → i < b → (s : S) → f i s ≡ g i s)
      → for_range f a b s ≡ for_range g a b s
  unfolding steps
  for_range_same a b s e = go (lt_or_ge b a)
    where
      none : b < a → b - a ≡ 0
      none h = omega arith

      go : (b < a) ⊎ (a ≤ b) → for_range f a b s ≡ for_range g a b s
      go (inl h) = rw (none h)
      go (inr h) = steps_same a (b - a) s (λ i l u. e i l (omega arith))

-- ---- walks whose every turn keeps P

module _ {S : Type 0} (P : ℕ → S → Type 0) (f : ℕ → S → S) where
  pub steps_keep : (a k : ℕ) (s : S) → P a s
      → ((i : ℕ) → a ≤ i → i < a + k → (s : S) → P i s → P (suc i) (f i s))
      → P (a + k) (steps f a k s)
  unfolding steps
  steps_keep a zero s p turn =
      let e : a ≡ a + 0 = omega arith in
      subst (λ (n : ℕ). P n s) e p
  steps_keep a (suc k) s p turn =
      let e : suc a + k ≡ a + suc k = omega arith in
      subst (λ (n : ℕ). P n (steps f (suc a) k (f a s))) e
      (steps_keep (suc a) k (f a s) (turn a (omega arith) (omega arith) s p) (λ i l u. turn i (omega arith) (omega arith)))

  pub for_range_keeps : (a b : ℕ) (s : S) → a ≤ b → P a s
      → ((i : ℕ) → a ≤ i → i < b → (s : S) → P i s → P (suc i) (f i s))
      → P b (for_range f a b s)
  for_range_keeps a b s h p turn =
      let e : a + (b - a) ≡ b = omega arith in
      subst (λ (n : ℕ). P n (for_range f a b s)) e (steps_keep a (b - a) s p (λ i l u. turn i l (omega arith)))

  -- and where P holds, a turn of g is one of f
  module _ (g : ℕ → S → S) where
    steps_alike : (a k : ℕ) (s : S) → P a s
        → ((i : ℕ) → a ≤ i → i < a + k → (s : S) → P i s → (g i s ≡ f i s) × P (suc i) (f i s))
        → steps g a k s ≡ steps f a k s
    unfolding steps
    steps_alike a zero s p turn = refl
    steps_alike a (suc k) s p turn =
        let t = turn a (omega arith) (omega arith) s p in
        ap (steps g (suc a) k) t.0 ∙ steps_alike (suc a) k (f a s) t.1 (λ i l u. turn i (omega arith) (omega arith))

    pub for_range_alike : (a b : ℕ) (s : S) → P a s
        → ((i : ℕ) → a ≤ i → i < b → (s : S) → P i s → (g i s ≡ f i s) × P (suc i) (f i s))
        → for_range g a b s ≡ for_range f a b s
    for_range_alike a b s p turn = steps_alike a (b - a) s p (λ i l u. turn i l (omega arith))
