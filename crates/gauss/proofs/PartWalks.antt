-- A walk over a list that is made within a part of it, which the loop has borrowed: each turn changes its own place.
use mathlib.Core.Path.{◌≡◌, sym, ap, ◌∙◌, subst}
use mathlib.Core.List.{List, [], ◌∷◌, ◌++◌}
use Prim.Native.Nat.{ℕ, ◌+◌, ◌≤◌, ◌<◌}
use native.Mathlib.Nat.{zero-add, suc-add}
use native.Mathlib.Omega.{arith}
use lib.ListN.{length, get_or, set, take, drop, length-drop}
use lib.Seq.{get_or-append-add, set-append_left, length-take-le}
use borrow.Rule.Slice.PartMut.{mid_of, post_of, put_mid, put_same}
use Rattle.std.proofs.lemmas.List.{get_or_append_left}
use Rattle.folds.specs.Walks.{for_range}
use Rattle.folds.proofs.Walks.{Walk, start, step_by, done}

module _ {A : Type 0} where
  -- of the k places from a on, j were walked, and `part` is in them
  pub record PartWalk (f : ℕ → List A → List A) (a k n : ℕ) (l part : List A) (j : ℕ) : Type 0 where
    pub whole : a + k ≡ n
    pub long : n ≤ length l
    pub i : ℕ
    pub at : i ≡ a + j
    pub walk : Walk f a i n l (put_mid a k l part)

  part_length : (a k : ℕ) (l : List A) → a + k ≤ length l → length (mid_of a k l) ≡ k
  part_length a k l h = length-take-le k (drop a l) (omega (arith, length-drop a l))

  pub part_start : {f : ℕ → List A → List A} {a k n : ℕ} {l : List A} → a + k ≡ n → n ≤ length l
      → PartWalk f a k n l (mid_of a k l) 0
  part_start {f} {a} {k} {n} {l} e h =
      record {
        whole = e;
        long = h;
        i = a;
        at = omega arith;
        walk = subst (Walk f a a n l) (sym (put_same a k l)) (start (omega arith));
      }

  -- what stands in the part, and a store there
  set_past_front : (p q : List A) (j : ℕ) (x : A) → set (p ++ q) (length p + j) x ≡ p ++ set q j x
  set_past_front [] q j x = ap (λ (i : ℕ). set q i x) (zero-add j)
  set_past_front (y ∷ p) q j x =
      ap (λ (i : ℕ). set (y ∷ (p ++ q)) i x) (suc-add (length p) j)
      ∙ ap (λ (rest : List A). y ∷ rest) (set_past_front p q j x)

  module _ (a k : ℕ) (l part : List A) (j : ℕ) (h : a ≤ length l) (inside : j < length part) where
    part_entry : (d : A) → get_or (put_mid a k l part) (a + j) d ≡ get_or part j d
    part_entry d =
        ap (λ (x : ℕ). get_or (put_mid a k l part) (x + j) d) (sym (length-take-le a l h))
        ∙ get_or-append-add (take a l) (part ++ post_of a k l) j d
        ∙ get_or_append_left part (post_of a k l) d j inside

    part_store : (x : A) → set (put_mid a k l part) (a + j) x ≡ put_mid a k l (set part j x)
    part_store x =
        ap (λ (y : ℕ). set (put_mid a k l part) (y + j) x) (sym (length-take-le a l h))
        ∙ set_past_front (take a l) (part ++ post_of a k l) j x
        ∙ ap (λ (q : List A). take a l ++ q) (set-append_left part (post_of a k l) j x inside)

  -- a turn makes g's value of its place and of what stands there
  pub part_step : (g : ℕ → A → A) (d : A) (i : ℕ) {f : ℕ → List A → List A} {a k n j : ℕ} {l part : List A} {x : A}
      → ((i : ℕ) (l : List A) → f i l ≡ set l i (g i (get_or l i d)))
      → PartWalk f a k n l part j → i ≡ a + j → j < length (mid_of a k l) → length part ≡ length (mid_of a k l)
      → x ≡ g i (get_or part j d)
      → PartWalk f a k n l (set part j x) (j + 1)
  part_step g d i {f} {a} {k} {n} {j} {l} {part} {x} law w is h s e =
      let whole = w.whole in
      let long = w.long in
      let at = w.at in
      let parts = part_length a k l (omega arith) in
      let list = put_mid a k l part in
      let turn : f w.i list ≡ put_mid a k l (set part j x) =
      law w.i list
      ∙ ap (λ (i : ℕ). set list i (g i (get_or list i d))) (at ∙ sym is)
      ∙ ap (λ (y : ℕ). set list y (g i (get_or list y d))) is
      ∙ ap (λ (y : A). set list (a + j) (g i y)) (part_entry a k l part j (omega arith) (omega arith) d)
      ∙ ap (set list (a + j)) (sym e)
      ∙ part_store a k l part j (omega arith) (omega arith) x in
      record {
        whole = whole;
        long = long;
        i = w.i + 1;
        at = omega arith;
        walk = step_by w.walk (omega arith) (sym turn);
      }

  pub part_done : {f : ℕ → List A → List A} {a k n : ℕ} {l part : List A} {j : ℕ} → PartWalk f a k n l part j
      → length (mid_of a k l) ≤ j
      → put_mid a k l part ≡ for_range f a n l
  part_done {a = a} {k = k} {l = l} w h =
      let whole = w.whole in
      let long = w.long in
      let at = w.at in
      let parts = part_length a k l (omega arith) in
      done w.walk (omega arith)
