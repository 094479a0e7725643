-- Parts of a list: a slice by its first, its last and a place between, and what a list has where its front or its rest
-- is known. `d` is what is read past the end.
use mathlib.Core.Path.{◌≡◌, sym, ap, ◌∙◌}
use mathlib.Core.List.{List, [], ◌∷◌, ◌++◌}
use Prim.Native.Nat.{ℕ, ◌+◌, ◌≤◌, ◌<◌}
use native.Mathlib.Nat.{add-zero}
use native.Mathlib.Numerals.{add-one}
use native.Mathlib.Omega.{arith}
use lib.ListN.{length, take, drop, get_or, length-append, take-append-drop}
use lib.Seq.{slice, slice-cons, drop-drop, drop-append-le, take-suc, take-take, length-take-le, get_or-drop, get_or-take, take_at, get_or_at}

pub slices : {A : Type 0} (lo mid end : ℕ) (s : List A) → lo ≤ mid → mid ≤ end → end ≤ length s
    → slice lo mid s ++ slice mid end s ≡ slice lo end s
slices lo mid end s h k l =
    let n = length-take-le mid s (omega arith) in
    rw (← take-take mid end s k, ← drop-append-le lo (take mid (take end s)) (drop mid (take end s)) (rw (take-take mid end s k) (omega arith)), take-append-drop)

module _ {A : Type 0} (d : A) where
  pub slice_head : (p q : ℕ) (s : List A) → p < q → q ≤ length s → slice p q s ≡ get_or s p d ∷ slice (p + 1) q s
  slice_head p q s h k = rw (add-one p) (slice-cons p q s d h k)

  pub slice_last : (p q : ℕ) (s : List A) → p ≤ q → q < length s
      → slice p (q + 1) s ≡ slice p q s ++ (get_or s q d ∷ [])
  slice_last p q s h k =
      let l = length-take-le q s (omega arith) in
      rw (add-one q, take-suc s q d k) (drop-append-le p (take q s) (get_or s q d ∷ []) (omega arith))

  -- lists that are alike from a place on are alike there
  pub same_at : (a b : List A) (j : ℕ) → drop j a ≡ drop j b → get_or a j d ≡ get_or b j d
  same_at a b j e = rw (get_or-drop, get_or-drop, add-zero) at (ap (λ (l : List A). get_or l 0 d) e)

  -- the first of the rest, and the last of the front
  pub uncons : (T S : List A) (v : A) (k : ℕ) → drop k T ≡ v ∷ S → (v ≡ get_or T k d) × (drop (k + 1) T ≡ S)
  uncons T S v k e =
      (sym (ap (λ (l : List A). get_or l 0 d) e) ∙ get_or-drop k T 0 d ∙ rw add-zero, sym (drop-drop 1 k T) ∙ ap (drop 1) e)

  pub unsnoc : (T S : List A) (v : A) (c : ℕ) → c < length T → take (c + 1) T ≡ S ++ (v ∷ [])
      → (v ≡ get_or T c d) × (take c T ≡ S)
  unsnoc T S v c h e =
      let n : length S ≡ c = omega (arith, length-take-le (c + 1) T (omega arith), simp length-append at (ap length e)) in (
        sym (get_or_at S v [] d c n) ∙ sym (ap (λ (l : List A). get_or l c d) e) ∙ get_or-take (c + 1) T c d (omega arith),
        sym (take-take c (c + 1) T (omega arith)) ∙ ap (take c) e ∙ take_at S (v ∷ []) c n,
      )
