-- Lists that a loop reads from the front: folded, or counted by adding each test's bit, so that no element takes a
-- branch.
use mathlib.Core.Path.{◌≡◌, refl, sym, ap, ◌∙◌}
use mathlib.Core.List.{List, [], ◌∷◌}
use mathlib.Core.Bool.{Bool, true, false, cond}
use Prim.Native.Nat.{ℕ, suc, ◌+◌, ◌≤◌, ◌<◌, zero-le}
use native.Mathlib.Numerals.{add-one}
use native.Mathlib.Omega.{arith}
use lib.Dec.{T}
use lib.ListN.{length, get_or, drop}
use lib.Seq.{drop-cons, drop-length}
use mir.Val.{bool_byte}
use Rattle.folds.specs.Lists.{folded, how_many}
use Rattle.folds.proofs.Tests.{byte_is, byte_most}

-- ---- folded

pub record Folding {A B : Type 0} (f : B → A → B) (b₀ : B) (l : List A) (i : ℕ) (b : B) : Type 0 where
  pub high : i ≤ length l
  pub is : folded f b (drop i l) ≡ folded f b₀ l

pub folding_start : {A B : Type 0} (f : B → A → B) (b : B) (l : List A) → Folding f b l 0 b
folding_start f b l = record { high = zero-le; is = refl }

pub folding_step : {A B : Type 0} {f : B → A → B} {b₀ : B} {l : List A} {i : ℕ} {b : B} (d : A) (c : B)
    → Folding f b₀ l i b → i < length l → c ≡ f b (get_or l i d) → Folding f b₀ l (i + 1) c
unfolding folded
folding_step {A} {B} {f} {b₀} {l} {i} {b} d c w h e = record {
  high = omega arith;
  is = rw (add-one, e) (ap (folded f b) (sym (drop-cons l i d h)) ∙ w.is);
}

pub folding_done : {A B : Type 0} {f : B → A → B} {b₀ : B} {l : List A} {i : ℕ} {b : B} → Folding f b₀ l i b
    → length l ≤ i → b ≡ folded f b₀ l
unfolding folded
folding_done {A} {B} {f} {b₀} {l} {i} {b} w h =
    let g = w.high in
    let e : i ≡ length l = omega arith in
    rw (e, drop-length) at w.is

-- ---- counted

pub record Counting {A : Type 0} (p : A → Bool) (l : List A) (i n : ℕ) : Type 0 where
  pub high : i ≤ length l
  pub few : n ≤ i
  pub is : n + how_many p (drop i l) ≡ how_many p l

pub counting_step : {A : Type 0} {p : A → Bool} {l : List A} {i n : ℕ} (d : A) (b : Bool)
    → Counting p l i n → i < length l → b ≡ p (get_or l i d) → Counting p l (i + 1) (n + bool_byte b)
unfolding how_many
counting_step {A} {p} {l} {i} {n} d b w h e =
    let few = w.few in
    let is = w.is in
    let more : how_many p (drop i l) ≡ cond (p (get_or l i d)) 1 0 + how_many p (drop (suc i) l) = ap (how_many p) (drop-cons l i d h) in
    let bit : bool_byte b ≡ cond (p (get_or l i d)) 1 0 = byte_is b ∙ ap (λ (x : Bool). cond x 1 0) e in
    let bound : bool_byte b ≤ 1 = byte_most b in
    let next : how_many p (drop (i + 1) l) ≡ how_many p (drop (suc i) l) = rw add-one in
    record { high = omega arith; few = omega arith; is = omega arith }

pub counting_done : {A : Type 0} {p : A → Bool} {l : List A} {i n : ℕ} → Counting p l i n → length l ≤ i
    → n ≡ how_many p l
unfolding how_many
counting_done {A} {p} {l} {i} {n} w h =
    let high = w.high in
    let is = w.is in
    let e : i ≡ length l = omega arith in
    let none : how_many p (drop i l) ≡ 0 = rw (e, drop-length) in
    omega arith

-- two tests of which no element passes both
module _ {A : Type 0} (p q : A → Bool) (no : (a : A) → T (p a) → T (q a) → ⊥) where
  pub counts_le : (l : List A) → how_many p l + how_many q l ≤ length l
  unfolding how_many
  counts_le [] = zero-le
  counts_le (a ∷ l) = go (p a) (q a) (how_many p l) (how_many q l) (no a) (counts_le l)
    where
      go : (a b : Bool) (m n : ℕ) → (T a → T b → ⊥) → m + n ≤ length l
          → (cond a 1 0 + m) + (cond b 1 0 + n) ≤ suc (length l)
      go true true m n never h = absurd (never tt tt)
      go true false m n never h = omega arith
      go false true m n never h = omega arith
      go false false m n never h = omega arith
