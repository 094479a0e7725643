-- The loop of the running maximum: the places from i on are done, and `most` is the greatest of the bins from there on.
use mathlib.Core.Path.{◌≡◌, refl, sym, ◌∙◌, subst}
use mathlib.Core.List.{List, ◌∷◌}
use Prim.Native.Nat.{ℕ, suc, ◌+◌, ◌≤◌, ◌<◌}
use native.Mathlib.Nat.{le_refl}
use native.Mathlib.Omega.{arith}
use lib.ListN.{length, get_or, take, drop, set, length-set}
use lib.Seq.{take-set-le, take-take, lt-length-set, drop-set-lt, drop-cons, drop-length, get_or-take, get_or-set_same}
use lib.Ieee.{Float, nan}
use Rattle.floats.specs.MinMax.{max_number}
use Rattle.kde.specs.Bins.{maximum_from, raised_from}

pub record Raising (start : Float) (column₀ column : List Float) (i : ℕ) (most : Float) : Type 0 where
  pub high : i ≤ length column₀
  pub same : length column ≡ length column₀
  pub front : take i column ≡ take i column₀
  pub back : drop i column ≡ raised_from start (drop i column₀)
  pub most_is : most ≡ maximum_from start (drop i column₀)

pub raising_start : (start : Float) (column : List Float) → Raising start column column (length column) start
unfolding raised_from maximum_from
raising_start start column = record { high = le_refl (length column); same = refl; front = refl; back = rw drop-length; most_is = rw drop-length }

pub raising_step : {start : Float} {column₀ column : List Float} {i : ℕ} {most : Float} (j : ℕ) (v : Float)
    → Raising start column₀ column i most → i ≡ j + 1 → v ≡ max_number most (get_or column j nan)
    → Raising start column₀ (set column j v) j v
unfolding raised_from maximum_from
raising_step {start} {column₀} {column} {i} {most} j v w e n =
    let h = w.high in
    let b = get_or column₀ j nan in
    let l : j < length column₀ = omega arith in
    let l' : j < length column = rw w.same l in
    let s : suc j ≡ i = omega arith in
    let p : drop j column₀ ≡ b ∷ drop i column₀ = rw (drop-cons column₀ j nan l, s) in
    let g : get_or column j nan ≡ b = sym (get_or-take i column j nan (omega arith)) ∙ rw w.front (get_or-take i column₀ j nan (omega arith)) in
    let m : v ≡ max_number (maximum_from start (drop i column₀)) b = n ∙ rw (w.most_is, g) in
    record {
      high = omega arith;
      same = length-set column j v ∙ w.same;
      front = take-set-le j column j v (le_refl j) ∙ sym (take-take j i column (omega arith)) ∙ rw w.front (take-take j i column₀ (omega arith));
      back = rw (drop-cons (set column j v) j nan (lt-length-set column j v l'), get_or-set_same column j v nan l')
          (rw (drop-set-lt (suc j) column j v (le_refl (suc j)), s, w.back, p, m));
      most_is = rw p m;
    }

pub raising_done : {start : Float} {column₀ column : List Float} {i : ℕ} {most : Float}
    → Raising start column₀ column i most → i ≡ 0
    → column ≡ raised_from start column₀
raising_done {start} {column₀} {column} w e = subst (λ (n : ℕ). drop n column ≡ raised_from start (drop n column₀)) e w.back
