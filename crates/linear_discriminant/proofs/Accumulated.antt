-- Kept rows added to a table: what `add_pair` has in its two rows after g of them, and what `add_kept` makes of a whole
-- table, entry by entry.
use mathlib.Core.Path.{◌≡◌, refl, sym, ap, ◌∙◌}
use mathlib.Core.Bool.{Bool, true, false, cond}
use Prim.Native.Nat.{ℕ, ◌+◌, ◌*◌, ◌/◌, ◌≤◌, ◌<◌, zero-le}
use native.Mathlib.Omega.{arith}
use lib.Dec.{ltb}
use lib.ListN.{length, get_or, set}
use lib.Ieee.{Float, nan}
use Rattle.folds.specs.Walks.{steps, for_range}
use Rattle.folds.specs.Lists.{tabulated}
use Rattle.folds.proofs.Writing.{length_tabulated, tabulated_same, tabulated_at}
use Rattle.gauss.specs.Elimination.{Vector, Matrix, row, entry}
use Rattle.linear_discriminant.specs.Inner.Passes.{add_kept_product, accumulated_at, accumulated, pair_added, kept_added, stored_width, half_table}
use Rattle.folds.proofs.Walks.{Walk, step_by, done, for_range_last}

module _ (w : ℕ) (kept : Matrix) (j start : ℕ) (table : Matrix) where
  pub length_accumulated : (g : ℕ) {a : Vector} → a ≡ accumulated w kept g j start table → length a ≡ 12
  unfolding accumulated
  length_accumulated g e = ap length e ∙ length_tabulated (accumulated_at w kept g j start table) 0 12

  pub accumulated_none : {a : Vector} → a ≡ tabulated (entry table j) 0 12 → a ≡ accumulated w kept 0 j start table
  unfolding accumulated steps
  accumulated_none e = e ∙ tabulated_same 12 (λ d h. go (ltb d w) (entry table j d))
    where
      go : (b : Bool) (x : Float) → x ≡ cond b x x
      go true x = refl
      go false x = refl

  -- a row with one kept row more, r
  abbrev added : Vector → Vector → Vector
  added r a = tabulated (λ d. cond (ltb d w) (add_kept_product j (start + d) r (get_or a d nan)) (get_or a d nan)) 0 12

  pub accumulated_more : (g : ℕ) {a₀ a : Vector} → a₀ ≡ accumulated w kept g j start table
      → a ≡ added (row kept g) a₀
      → a ≡ accumulated w kept (g + 1) j start table
  unfolding accumulated
  accumulated_more g {a₀ = a₀} p e = e ∙ tabulated_same 12 (λ d h. at d h)
    where
      go : (b : Bool) (f : Float → Float) (x y z v : Float) → v ≡ cond b x z → y ≡ f x → cond b (f v) v ≡ cond b y z
      go true f x y z v q r = ap f q ∙ sym r
      go false f x y z v q r = q

      at : (d : ℕ) → d < 12
          → cond (ltb d w) (add_kept_product j (start + d) (row kept g) (get_or a₀ d nan)) (get_or a₀ d nan)
          ≡ accumulated_at w kept (g + 1) j start table d
      at d h =
          let sum : ℕ → Float → Float = λ g. add_kept_product j (start + d) (row kept g) in
          go (ltb d w) (sum g) (for_range sum 0 g (entry table j d)) (for_range sum 0 (g + 1) (entry table j d)) (entry table j d) (get_or a₀ d nan)
          (ap (λ (l : Vector). get_or l d nan) p ∙ tabulated_at (accumulated_at w kept g j start table) 12 d nan h)
          (for_range_last sum 0 g (entry table j d) zero-le)

pub pair_done : (w : ℕ) (kept : Matrix) (j : ℕ) (table : Matrix) (g m : ℕ) {a b : Vector} → g ≤ m → m ≤ g
    → a ≡ accumulated w kept g j j table
    → b ≡ accumulated w kept g (j + 1) j table → set (set table j a) (j + 1) b ≡ pair_added w kept m j table
unfolding pair_added
pair_done w kept j table g m h l p q =
    let z : g ≡ m = omega arith in
    rw (p, q, z)

-- ---- every second number, as a walk over the places counted in pairs

pub record Evens {S : Type 0} (f : ℕ → S → S) (a j n : ℕ) (s₀ s : S) : Type 0 where
  pub pair : ℕ
  pub twice : j ≡ 2 * pair
  pub walk : Walk (λ p. f (2 * p)) a pair n s₀ s

pub evens_step : {S : Type 0} {f : ℕ → S → S} {a j n : ℕ} {s₀ s t : S} → Evens f a j n s₀ s → j < 2 * n → t ≡ f j s
    → Evens f a (j + 2) n s₀ t
evens_step {f = f} {n = n} {s = s} w h e =
    let z = w.twice in
    let l : w.pair < n = omega arith in
    record { pair = w.pair + 1; twice = omega arith; walk = step_by w.walk l (e ∙ ap (λ (i : ℕ). f i s) z) }

pub evens_done : {S : Type 0} {f : ℕ → S → S} {a j n : ℕ} {s₀ s : S} → Evens f a j n s₀ s → 2 * n ≤ j
    → s ≡ for_range (λ p. f (2 * p)) a n s₀
evens_done w h =
    let z = w.twice in
    done w.walk (omega arith)

-- ---- a whole table

pub kept_added_lem : (kept : Matrix) (m : ℕ) (f : ℕ → ℕ → Float)
    → kept_added kept m (half_table f)
    ≡ half_table (λ j d. cond (ltb d (stored_width j))
    (for_range (λ g. add_kept_product j (2 * (j / 2) + d) (row kept g)) 0
    m (f j d)) (f j d))
unfolding kept_added pair_added accumulated steps tabulated
kept_added_lem kept m f = refl
