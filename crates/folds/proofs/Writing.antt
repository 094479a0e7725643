-- Columns that a loop writes from the front or from the back, one place a turn.
use mathlib.Core.Path.{◌≡◌, refl, sym, ap, ◌∙◌, subst}
use mathlib.Core.Logic.{◌⊎◌, inl, inr}
use mathlib.Core.List.{List, [], ◌∷◌, ◌++◌, map, append_assoc}
use Prim.Native.Nat.{ℕ, zero, suc, ◌+◌, ◌≤◌, ◌<◌, zero-le}
use native.Mathlib.Nat.{not-suc-le-zero, le_of_suc-le-suc, lt_of_lt_of_le, ne_of_lt, ne_of_gt, le_refl, zero-add, add_comm, add-suc, suc-add}
use native.Mathlib.Numerals.{add-one}
use native.Mathlib.Omega.{arith}
use mathlib.Core.Bool.{Bool, true, false, cond}
use lib.Dec.{ltb, eqb}
use lib.ListN.{length, take, set, get_or, replicate, length-set}
use lib.Seq.{take-suc-set, get_or-set_same, get_or-set_other, ext_get_or}
use borrow.Author.Count.{below_more}
use borrow.Author.Tests.{lt-ltb, le-ltb, eqb-true, eqb-false}
use Rattle.folds.proofs.Tests.{lt_or_ge}
use Rattle.folds.specs.Lists.{filled, tabulated}
use Rattle.folds.specs.Inner.Each.{Each}

-- columns of one length have one blank
pub same_blank : {A : Type 0} (v : A) (c d : List A) → length c ≡ length d → filled v c ≡ filled v d
same_blank v c d e = ap (λ (n : ℕ). replicate n v) e

module _ {A : Type 0} where
  -- ---- a store at the front's end

  pub front_write : (k : ℕ) (l rest : List A) (a : A) → k < length l
      → take (k + 1) (set l k a) ++ rest ≡ take k l ++ (a ∷ rest)
  front_write k l rest a h = rw (add-one, take-suc-set l k a, append_assoc)

  -- what a column reads after a store
  pub set_reads : (column : List A) (n : ℕ) (v : A) (i : ℕ) (d : A) → n < length column
      → get_or (set column n v) i d ≡ cond (eqb n i) v (get_or column i d)
  set_reads column n v i d h = go (eqb n i) (eqb-true n i) (eqb-false n i)
    where
      go : (b : Bool) → (b ≡ true → n ≡ i) → (b ≡ false → n ≡ i → ⊥)
          → get_or (set column n v) i d ≡ cond b v (get_or column i d)
      go true e o = ap (λ (m : ℕ). get_or (set column n v) m d) (sym (e refl)) ∙ get_or-set_same column n v d h
      go false e o = get_or-set_other column n i v d (λ p. o refl (sym p))

-- ---- tabulated columns

pub length_tabulated : {A : Type 0} (f : ℕ → A) (a k : ℕ) → length (tabulated f a k) ≡ k
unfolding tabulated
length_tabulated f a zero = refl
length_tabulated f a (suc k) = ap suc (length_tabulated f (suc a) k)

get_d_tabulated_from : {A : Type 0} (f : ℕ → A) (a k i : ℕ) (d : A) → i < k → get_or (tabulated f a k) i d ≡ f (i + a)
unfolding tabulated
get_d_tabulated_from f a zero i d h = absurd (not-suc-le-zero h)
get_d_tabulated_from f a (suc k) zero d h = ap f (sym (zero-add a))
get_d_tabulated_from f a (suc k) (suc i) d h = get_d_tabulated_from f (suc a) k i d (le_of_suc-le-suc h) ∙ ap f (add-suc i a ∙ sym (suc-add i a))

pub get_d_tabulated : {A : Type 0} (f : ℕ → A) (a k i : ℕ) (d : A) → i < k → get_or (tabulated f a k) i d ≡ f (a + i)
get_d_tabulated f a k i d h = get_d_tabulated_from f a k i d h ∙ ap f (add_comm i a)

tabulated_from : {A : Type 0} {f g : ℕ → A} (a k : ℕ) → ((i : ℕ) → a ≤ i → i < a + k → f i ≡ g i)
    → tabulated f a k ≡ tabulated g a k
unfolding tabulated
tabulated_from a zero e = refl
tabulated_from {A} {f} {g} a (suc k) e =
    rw (e a (le_refl a) (omega arith)) (ap (λ (l : List A). g a ∷ l) (tabulated_from (suc a) k (λ i l u. e i (omega arith) (omega arith))))

pub tabulated_same : {A : Type 0} {f g : ℕ → A} (n : ℕ) → ((i : ℕ) → i < n → f i ≡ g i)
    → tabulated f 0 n ≡ tabulated g 0 n
tabulated_same n e = tabulated_from 0 n (λ i l u. e i (omega arith))

pub tabulated_at : {A : Type 0} (f : ℕ → A) (n i : ℕ) (d : A) → i < n → get_or (tabulated f 0 n) i d ≡ f i
tabulated_at f n i d h = get_d_tabulated f 0 n i d h ∙ ap f (zero-add i)

-- one entry stored
pub tabulated_set : {A : Type 0} (f : ℕ → A) (n c : ℕ) (v d : A) {t : ℕ → A} → c < n → t c ≡ v
    → ((i : ℕ) → i < n → (i ≡ c → ⊥) → t i ≡ f i)
    → set (tabulated f 0 n) c v ≡ tabulated t 0 n
tabulated_set {A} f n c v d {t} h e o =
    ext_get_or d (set (tabulated f 0 n) c v) (tabulated t 0 n) same (λ i l. at i (subst (λ (m : ℕ). i < m) long l) (lt_or_ge i c) (lt_or_ge c i))
  where
    long : length (set (tabulated f 0 n) c v) ≡ n
    long = length-set (tabulated f 0 n) c v ∙ length_tabulated f 0 n

    same : length (set (tabulated f 0 n) c v) ≡ length (tabulated t 0 n)
    same = long ∙ sym (length_tabulated t 0 n)

    inside : c < length (tabulated f 0 n)
    inside = subst (λ (m : ℕ). c < m) (sym (length_tabulated f 0 n)) h

    other : (i : ℕ) → i < n → (i ≡ c → ⊥) → get_or (set (tabulated f 0 n) c v) i d ≡ get_or (tabulated t 0 n) i d
    other i l p = get_or-set_other (tabulated f 0 n) c i v d p ∙ tabulated_at f n i d l ∙ sym (o i l p) ∙ sym (tabulated_at t n i d l)

    at : (i : ℕ) → i < n → (i < c) ⊎ (c ≤ i) → (c < i) ⊎ (i ≤ c)
        → get_or (set (tabulated f 0 n) c v) i d ≡ get_or (tabulated t 0 n) i d
    at i l (inl p) q = other i l (ne_of_lt p)
    at i l (inr p) (inl q) = other i l (ne_of_gt q)
    at i l (inr p) (inr q) =
        let z : i ≡ c = omega arith in
        ap (λ (m : ℕ). get_or (set (tabulated f 0 n) c v) m d) z ∙ get_or-set_same (tabulated f 0 n) c v d inside ∙ sym e ∙ ap t (sym z)
        ∙ sym (tabulated_at t n i d l)

pub tabulated_constant : {A : Type 0} (f : ℕ → A) (v : A) → ((i : ℕ) → f i ≡ v) → (a k : ℕ)
    → tabulated f a k ≡ replicate k v
unfolding tabulated
tabulated_constant f v h a zero = refl
tabulated_constant {A} f v h a (suc k) = rw (h a, tabulated_constant f v h (suc a) k)

-- a column of blanks
pub tabulated_blank : {A : Type 0} (f : ℕ → A) (v : A) (column : List A) (n : ℕ) → ((i : ℕ) → f i ≡ v)
    → length column ≡ n → tabulated f 0 n ≡ filled v column
tabulated_blank f v column n e l = tabulated_constant f v e 0 n ∙ ap (λ (k : ℕ). replicate k v) (sym l)

tabulated_shift : {A : Type 0} (f : ℕ → A) (a k : ℕ) → tabulated f (suc a) k ≡ tabulated (λ (i : ℕ). f (suc i)) a k
unfolding tabulated
tabulated_shift f a zero = refl
tabulated_shift {A} f a (suc k) = ap (λ (t : List A). f (suc a) ∷ t) (tabulated_shift f (suc a) k)

-- of a list's elements
pub tabulated_map : {A B : Type 0} (g : A → B) (d : A) (l : List A)
    → tabulated (λ (i : ℕ). g (get_or l i d)) 0 (length l) ≡ map g l
unfolding tabulated
tabulated_map g d [] = refl
tabulated_map {A} {B} g d (x ∷ l) =
    ap (λ (t : List B). g x ∷ t) (tabulated_shift (λ (i : ℕ). g (get_or (x ∷ l) i d)) 0 (length l) ∙ tabulated_map g d l)

-- an entry of a list to which a function is applied, whatever stands past either's end
pub map_at : {A B : Type 0} (g : A → B) (l : List A) (i : ℕ) (d : A) (e : B) → i < length l
    → get_or (map g l) i e ≡ g (get_or l i d)
map_at {A} {B} g l i d e h =
    ap (λ (x : List B). get_or x i e) (sym (tabulated_map g d l)) ∙ tabulated_at (λ k. g (get_or l k d)) (length l) i e h

pub get_d_constant : {A : Type 0} (n i : ℕ) (v : A) → get_or (replicate n v) i v ≡ v
get_d_constant zero i v = refl
get_d_constant (suc n) zero v = refl
get_d_constant (suc n) (suc i) v = get_d_constant n i v

-- ---- written from the front with f of each place: the first i of n places are

pub record Writing {A : Type 0} (f : ℕ → A) (d : A) (n : ℕ) (column : List A) (i : ℕ) : Type 0 where
  pub same : length column ≡ n
  pub high : i ≤ n
  pub is : (k : ℕ) → k < i → get_or column k d ≡ f k

pub writing_start : {A : Type 0} {f : ℕ → A} {d : A} {n : ℕ} {column : List A} → length column ≡ n
    → Writing f d n column 0
writing_start e = record { same = e; high = zero-le; is = λ k h. absurd (not-suc-le-zero h) }

pub writing_step : {A : Type 0} {f : ℕ → A} {d : A} {n : ℕ} {column : List A} {i : ℕ} {v : A} → Writing f d n column i
    → i < n → v ≡ f i
    → Writing f d n (set column i v) (i + 1)
writing_step {A} {f} {d} {n} {column} {i} {v} w h e = record {
  same = length-set column i v ∙ w.same;
  high = omega arith;
  is = below_more (λ k. get_or (set column i v) k d ≡ f k) i
      (λ k g. get_or-set_other column i k v d (ne_of_lt g) ∙ w.is k g)
      (get_or-set_same column i v d (omega (arith, w.same)) ∙ e);
}

pub writing_done : {A : Type 0} {f : ℕ → A} {d : A} {n : ℕ} {column : List A} {i : ℕ} → Writing f d n column i → n ≤ i
    → column ≡ tabulated f 0 n
writing_done {A} {f} {d} {n} {column} {i} w h =
    ext_get_or d column (tabulated f 0 n) (w.same ∙ sym (length_tabulated f 0 n))
    (λ (k : ℕ) (l : k < length column).
    let g : k < n = subst (λ (m : ℕ). k < m) w.same l in
    w.is k (lt_of_lt_of_le g h) ∙ ap f (sym (zero-add k)) ∙ sym (get_d_tabulated f 0 n k d g))

-- the same where the loop asks for the column's own length
pub writing_next : {A : Type 0} {f : ℕ → A} {d : A} {n : ℕ} {column : List A} {i : ℕ} (v : A) → Writing f d n column i
    → i < length column → v ≡ f i
    → Writing f d n (set column i v) (i + 1)
writing_next {i = i} v w h e = writing_step w (subst (λ (m : ℕ). i < m) w.same h) e

pub writing_all : {A : Type 0} {f : ℕ → A} {d : A} {n : ℕ} {column : List A} {i : ℕ} → Writing f d n column i
    → length column ≤ i → column ≡ tabulated f 0 n
writing_all {i = i} w h = writing_done w (subst (λ (m : ℕ). m ≤ i) w.same h)

-- with one value
pub writing_filled : {A : Type 0} {v d : A} {n : ℕ} {column : List A} {i : ℕ} → Writing (λ k. v) d n column i
    → length column ≤ i → column ≡ replicate n v
writing_filled {v = v} {n = n} w h = writing_all w h ∙ tabulated_constant (λ k. v) v (λ k. refl) 0 n

-- with a function of another column's entries
pub writing_mapped : {A B : Type 0} (g : A → B) (c : A) {d : B} {n : ℕ} (l : List A) {column : List B} {i : ℕ}
    → Writing (λ k. g (get_or l k c)) d n column i → n ≡ length l → length column ≤ i → column ≡ map g l
writing_mapped g c l w e h = writing_all w h ∙ rw e (tabulated_map g c l)

-- ---- entries rewritten from the front, up to a width

pub record Rewriting {A : Type 0} (old new : ℕ → A) (d : A) (n : ℕ) (column : List A) (i : ℕ) : Type 0 where
  pub front : Writing new d n column i
  pub after : (k : ℕ) → i ≤ k → get_or column k d ≡ old k

pub rewriting_start : {A : Type 0} {new : ℕ → A} {d : A} {n : ℕ} (column : List A) → length column ≡ n
    → Rewriting (λ k. get_or column k d) new d n column 0
rewriting_start column e = record { front = writing_start e; after = λ k h. refl }

pub rewriting_step : {A : Type 0} {old new : ℕ → A} {d : A} {n : ℕ} {column : List A} {i : ℕ} {v : A}
    → Rewriting old new d n column i → i < n → v ≡ new i
    → Rewriting old new d n (set column i v) (i + 1)
rewriting_step {d = d} {column = column} {i = i} {v = v} w h e = record {
  front = writing_step w.front h e;
  after = λ k l. get_or-set_other column i k v d (ne_of_gt (omega arith)) ∙ w.after k (omega arith);
}

pub rewriting_done : {A : Type 0} {old new : ℕ → A} {d : A} {n : ℕ} {column : List A} {i width : ℕ}
    → Rewriting old new d n column i → i ≤ width → width ≤ i
    → column ≡ tabulated (λ k. cond (ltb k width) (new k) (old k)) 0 n
rewriting_done {A} {old} {new} {d} {n} {column} {i} {width} w h l =
    ext_get_or d column (tabulated t 0 n) (w.front.same ∙ sym (length_tabulated t 0 n))
    (λ (k : ℕ) (g : k < length column). at k (lt_or_ge k width) ∙ sym (tabulated_at t n k d (subst (λ (m : ℕ). k < m) w.front.same g)))
  where
    t : ℕ → A
    t k = cond (ltb k width) (new k) (old k)

    at : (k : ℕ) → (k < width) ⊎ (width ≤ k) → get_or column k d ≡ t k
    at k (inl g) = w.front.is k (omega arith) ∙ rw (lt-ltb k width g)
    at k (inr g) = w.after k (omega arith) ∙ rw (le-ltb k width g)

-- ---- what each element has

module _ {A : Type 0} (P : A → Type 0) where
  pub all_map : (Q : A → Type 0) → ((x : A) → P x → Q x) → (xs : List A) → Each P xs → Each Q xs
  all_map Q f [] w = tt
  all_map Q f (x ∷ xs) w = (f x w.0, all_map Q f xs w.1)

  pub all_mapped : {B : Type 0} (Q : B → Type 0) (f : A → B) → ((x : A) → P x → Q (f x)) → (xs : List A) → Each P xs
      → Each Q (map f xs)
  all_mapped Q f g [] w = tt
  all_mapped Q f g (x ∷ xs) w = (g x w.0, all_mapped Q f g xs w.1)

  pub all_append : (xs ys : List A) → Each P xs → Each P ys → Each P (xs ++ ys)
  all_append [] ys w v = v
  all_append (x ∷ xs) ys w v = (w.0, all_append xs ys w.1 v)

  pub all_at : (d : A) (xs : List A) → Each P xs → (i : ℕ) → i < length xs → P (get_or xs i d)
  all_at d [] w i h = absurd (not-suc-le-zero h)
  all_at d (x ∷ xs) w zero h = w.0
  all_at d (x ∷ xs) w (suc i) h = all_at d xs w.1 i (le_of_suc-le-suc h)

  pub all_set : (xs : List A) (i : ℕ) (v : A) → Each P xs → P v → Each P (set xs i v)
  all_set [] i v w h = tt
  all_set (x ∷ xs) zero v w h = (h, w.1)
  all_set (x ∷ xs) (suc i) v w h = (w.0, all_set xs i v w.1 h)
