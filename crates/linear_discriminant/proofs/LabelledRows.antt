-- Feature rows read beside their labels: what is to come of each is what it has from one place on.
use mathlib.Core.Path.{◌≡◌, refl, sym, ap, ◌∙◌}
use mathlib.Core.Logic.{◌⊎◌, inl, inr}
use mathlib.Core.List.{List, [], ◌∷◌}
use mathlib.Core.Bool.{Bool, true, false, cond}
use Prim.Native.Nat.{ℕ, zero, suc, ◌+◌, ◌-◌, ◌*◌, ◌/◌, ◌^◌, ◌≤◌, ◌<◌}
use native.Mathlib.Omega.{arith}
use lib.Dec.{ltb}
use lib.IntN.{ℤ, pos}
use lib.Signed.{mag}
use lib.ListN.{length, get_or, drop}
use lib.Seq.{get_or-take, get_or-drop}
use lib.Ieee.{Float, nan, binary64, add, sub}
use mir.Syntax.{w32}
use mir.Val.{of_z, to_z}
use borrow.Author.Tests.{ltb-true}
use Rattle.std.specs.Simd.{first_chunks}
use Rattle.folds.proofs.Parts.{uncons}
use Rattle.folds.proofs.Writing.{tabulated_same}
use Rattle.gauss.specs.Elimination.{Vector}
use Rattle.linear_discriminant.specs.Rows.{feature}
use Rattle.linear_discriminant.specs.Fit.{class_of}
use Rattle.linear_discriminant.specs.Inner.Passes.{added_row, wrap, centred_row}
use Rattle.linear_discriminant.proofs.Classes.{class_given}
use Rattle.linear_discriminant.proofs.Products.{some_left, none_left}

-- the rows of a feature column
abbrev pub rows_of : List Float → List Vector
rows_of features = first_chunks 20 (length features / 20) features

length_chunks : (k : ℕ) (xs : List Float) → length (first_chunks 20 k xs) ≡ k
length_chunks zero xs = refl
length_chunks (suc k) xs = ap suc (length_chunks k (drop 20 xs))

chunk_at : (k : ℕ) (xs : List Float) (i j : ℕ) → i < k → j < 20
    → get_or (get_or (first_chunks 20 k xs) i []) j nan ≡ get_or xs (20 * i + j) nan
chunk_at zero xs i j h l = absurd (none i h)
  where
    none : (i : ℕ) → i < 0 → ⊥
    none i h = omega arith
chunk_at (suc k) xs zero j h l =
    let z : j ≡ 20 * zero + j = omega arith in
    get_or-take 20 xs j nan l ∙ ap (λ (n : ℕ). get_or xs n nan) z
chunk_at (suc k) xs (suc i) j h l =
    let z : 20 + (20 * i + j) ≡ 20 * suc i + j = omega arith in
    chunk_at k (drop 20 xs) i j (omega arith) l ∙ get_or-drop 20 xs (20 * i + j) nan ∙ ap (λ (n : ℕ). get_or xs n nan) z

-- a number of a row, as the only one of a feature column
only_row : (r : Vector) (j : ℕ) → get_or r j nan ≡ feature r 0 j
only_row r j =
    let z : j ≡ 20 * 0 + j = omega arith in
    ap (λ (k : ℕ). get_or r k nan) z

-- columns 20 to 27 are 0 to 7 once more
wrap_below : (q : ℕ) → q < 28 → wrap q < 20
wrap_below q h = go (ltb q 20) refl
  where
    go : (b : Bool) → ltb q 20 ≡ b → cond b q (q - 20) < 20
    go true e = ltb-true q 20 e
    go false e = omega arith

-- the rows before a place are read, and P holds of the place
pub record Reading (features : List Float) (labels : List ℤ) (P : ℕ → Type 0) (rows : List Vector) (ls : List ℤ)
    : Type 0 where
  pub place : ℕ
  pub left : rows ≡ drop place (rows_of features)
  pub right : ls ≡ drop place labels
  pub is : P place

module _ {features : List Float} {labels : List ℤ} {P : ℕ → Type 0} {rows : List Vector} {ls : List ℤ}
    (w : Reading features labels P rows ls) where
  -- where one of them has come to its end, all rows are read
  pub reading_done : length features ≡ 20 * length labels → (length rows ≡ 0) ⊎ (length ls ≡ 0)
      → length labels ≤ w.place
  reading_done twenty (inl e) =
      let chunks = length_chunks (length features / 20) features in
      let n = none_left (rows_of features) w.place (sym (ap length w.left) ∙ e) chunks in
      omega arith
  reading_done twenty (inr e) = none_left labels w.place (sym (ap length w.right) ∙ e) refl

  module _ {r : Vector} {rows' : List Vector} {l : ℤ} {ls' : List ℤ} (rows_are : rows ≡ r ∷ rows')
      (labels_are : ls ≡ l ∷ ls') where
    pub reading_step : {Q : ℕ → Type 0} → Q (w.place + 1) → Reading features labels Q rows' ls'
    reading_step q =
        let a = uncons [] (rows_of features) rows' r w.place (sym w.left ∙ rows_are) in
        let b = uncons (pos 0) labels ls' l w.place (sym w.right ∙ labels_are) in
        record { place = w.place + 1; left = sym a.1; right = sym b.1; is = q }

    pub reading_below : w.place < length labels
    reading_below = some_left labels w.place l ls' (sym w.right ∙ labels_are) refl

    -- the class of its label, as the code finds it
    pub reading_class : {c : ℕ} → mag l < 2 ^ 31 → (c ≡ class_of (to_z w32 (of_z w32 l))) × (c < 2)
        → c ≡ class_of (get_or labels w.place (pos 0))
    reading_class f e =
        class_given l f e
        ∙ ap class_of (uncons (pos 0) labels ls' l w.place (sym w.right ∙ labels_are)).0

    -- a number of the row
    reading_number : (j : ℕ) → j < 20 → feature r 0 j ≡ feature features w.place j
    reading_number j h =
        let e = sym w.left ∙ rows_are in
        let chunks = length_chunks (length features / 20) features in
        sym (only_row r j)
        ∙ ap (λ (v : Vector). get_or v j nan) (uncons [] (rows_of features) rows' r w.place e).0
        ∙ chunk_at (length features / 20) features w.place j (some_left (rows_of features) w.place r rows' e chunks) h

    pub reading_added : (sum : Vector) → added_row r 0 sum ≡ added_row features w.place sum
    unfolding added_row
    reading_added sum = tabulated_same 20 (λ j h. ap (add binary64 (get_or sum j nan)) (reading_number j h))

    pub reading_centred : (mean : Vector) → centred_row r 0 mean ≡ centred_row features w.place mean
    unfolding centred_row
    reading_centred mean =
        tabulated_same 28
        (λ q h. ap (λ (x : Float). sub binary64 x (get_or mean (wrap q) nan)) (reading_number (wrap q) (wrap_below q h)))
