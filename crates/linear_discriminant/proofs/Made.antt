-- Arrays that are made place by place, by a closure that changes nothing it captures: each place has what a call gives.
use mathlib.Core.Path.{◌≡◌, refl, ◌∙◌, subst}
use mathlib.Core.Logic.{◌⊎◌, inl, inr}
use mathlib.Core.List.{List}
use Prim.Native.Nat.{ℕ, zero, suc, ◌+◌, ◌≤◌, ◌<◌, zero-le}
use native.Mathlib.Nat.{le_refl}
use native.Mathlib.Omega.{arith}
use denote.Param.Members.{Mut}
use lib.ListN.{length, get_or}
use Rattle.std.specs.Fn.{Called}
use Rattle.std.specs.Array.{IsFromFnResult, IsFromFnResultFrom}
use Rattle.folds.specs.Lists.{tabulated}
use Rattle.folds.proofs.Tests.{lt_or_ge}
use Rattle.folds.proofs.Writing.{writing_done}

-- a fact of place i, and of each later one
place_or_later : (P : ℕ → Type 0) (i k : ℕ) → i ≤ k → (i + 1 ≤ k → P k) → P i → P k
place_or_later P i k l later this = go (lt_or_ge i k)
  where
    go : (i < k) ⊎ (k ≤ i) → P k
    go (inl h) = later (omega arith)
    go (inr h) =
        let z : i ≡ k = omega arith in
        subst P z this

no_place : {i k : ℕ} → i ≤ k → k < i + 0 → ⊥
no_place l u = omega arith

-- every place is written
all_places : {B : Type 0} {xs : List B} {n : ℕ} (f : ℕ → B) (d : B) → length xs ≡ n
    → ((k : ℕ) → k < n → get_or xs k d ≡ f k) → xs ≡ tabulated f 0 n
all_places {xs = xs} {n = n} f d long is =
    writing_done {f = f} {d = d} {n = n} {column = xs} {i = n} (record { same = long; high = le_refl n; is = is }) (le_refl n)

-- what a call at each place gives
abbrev pub Gives : {F B : Type 0} → Mut F (ℕ × Unit {0}) B → F → ℕ → (ℕ → B) → Type 0
Gives {F} {B} g s n f = (i : ℕ) (y : B) (q : F) → i < n → Called g s (i, tt) y q → (q ≡ s) × (y ≡ f i)

module _ {F B : Type 0} (g : Mut F (ℕ × Unit {0}) B) (s : F) (n : ℕ) (f : ℕ → B) (e : Gives g s n f) (xs : List B)
    (d : B) where
  made_from : (i m : ℕ) (p : F) → p ≡ s → i + m ≤ n → IsFromFnResultFrom g p xs i m → (k : ℕ) → i ≤ k → k < i + m
      → get_or xs k d ≡ f k
  made_from i zero p same h w k l u = absurd (no_place l u)
  made_from i (suc m) p same h w k l u =
      let here = e i w.1 w.0 (omega arith) (subst (λ (x : F). Called g x (i, tt) w.1 w.0) same w.3) in
      place_or_later (λ k. get_or xs k d ≡ f k) i k l
      (λ later. made_from (i + 1) m w.0 here.0 (omega arith) w.4 k later (omega arith))
      (w.2.1 d ∙ here.1)

pub made_tabulated : {F B : Type 0} {g : Mut F (ℕ × Unit {0}) B} {s : F} {xs : List B} {n : ℕ} (f : ℕ → B) (d : B)
    → IsFromFnResult g s xs n → Gives g s n f → xs ≡ tabulated f 0 n
made_tabulated {g = g} {s = s} {xs = xs} {n = n} f d w e =
    all_places f d w.long (λ k h. made_from g s n f e xs d 0 n s refl (omega arith) w.each k zero-le (omega arith))
