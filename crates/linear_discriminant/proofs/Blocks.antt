-- A column written block by block: with the block from a to b back in its place it holds f's values up to b, where the
-- block's are f's.
use mathlib.Core.Path.{◌≡◌, ap, ◌∙◌}
use mathlib.Core.Logic.{◌⊎◌, inl, inr}
use mathlib.Core.List.{List, ◌++◌}
use Prim.Native.Nat.{ℕ, ◌+◌, ◌-◌, ◌*◌, ◌≤◌, ◌<◌}
use native.Mathlib.Omega.{arith}
use Rattle.std.specs.Prelude.{min}
use lib.ListN.{length, get_or, take, drop, get_or-append}
use lib.Seq.{length-take-le, get_or-take, get_or-drop, get_or-append_right}
use lib.Ieee.{Float, nan, binary64, add, mul}
use borrow.Rule.Slice.PartMut.{put_mid, post_of, mid_len, same_len_mid}
use Rattle.folds.specs.Lists.{tabulated}
use Rattle.folds.proofs.Tests.{lt_or_ge}
use Rattle.folds.proofs.Walks.{for_range_same}
use Rattle.folds.proofs.Writing.{Writing, writing_done, length_tabulated, tabulated_at}
use Rattle.floats.specs.Constants.{f64_zero}
use Rattle.linear_discriminant.specs.Rows.{feature, scored}
use Rattle.linear_discriminant.specs.Scores.{score_at}

-- number i of the part of a column from a to b
pub part_at : {A : Type 0} (xs : List A) (a b i : ℕ) (d : A) → i < b - a
    → get_or (take (b - a) (drop a xs)) i d ≡ get_or xs (a + i) d
part_at xs a b i d h = get_or-take (b - a) (drop a xs) i d h ∙ get_or-drop a xs i d

-- the score of row i of the block from a to b
pub block_score : (coefficients features : List Float) (a b i : ℕ) → i < b - a
    → score_at coefficients (take (20 * b - 20 * a) (drop (20 * a) features)) i
    ≡ score_at coefficients features (a + i)
unfolding scored
block_score coefficients features a b i h =
    for_range_same 0 20 f64_zero
    (λ j l u s. ap (λ (x : Float). add binary64 s (mul binary64 (get_or coefficients j nan) x)) (at j u))
  where
    at : (j : ℕ) → j < 20
        → feature (take (20 * b - 20 * a) (drop (20 * a) features)) i j ≡ feature features (a + i) j
    at j u =
        let z : 20 * a + (20 * i + j) ≡ 20 * (a + i) + j = omega arith in
        part_at features (20 * a) (20 * b) (20 * i + j) nan (omega arith) ∙ ap (λ (k : ℕ). get_or features k nan) z

-- a column with a part put back: before the part, and in it
module _ {A : Type 0} (xs ys : List A) (a k : ℕ) (d : A) (low : a ≤ length xs) where
  put_before : (i : ℕ) → i < a → get_or (put_mid a k xs ys) i d ≡ get_or xs i d
  put_before i h =
      let n = length-take-le a xs low in
      get_or-append (take a xs) (ys ++ post_of a k xs) d i (omega arith) ∙ get_or-take a xs i d h

  put_in : (i : ℕ) → a ≤ i → i - a < length ys → get_or (put_mid a k xs ys) i d ≡ get_or ys (i - a) d
  put_in i l h =
      let n = length-take-le a xs low in
      get_or-append_right (take a xs) (ys ++ post_of a k xs) i d (omega arith)
      ∙ ap (λ (m : ℕ). get_or (ys ++ post_of a k xs) (i - m) d) n
      ∙ get_or-append ys (post_of a k xs) d (i - a) h

-- a column written up to the block that starts at a, or to its end
abbrev pub WrittenTo : (ℕ → Float) → ℕ → List Float → ℕ → Type 0
WrittenTo f n column a = Writing f nan n column (min a n)

pub block_written : {f g : ℕ → Float} {n a b : ℕ} {column block : List Float} → WrittenTo f n column a → a < n
    → b ≡ a + min (n - a) 128
    → ((i : ℕ) → i < b - a → g i ≡ f (a + i)) → block ≡ tabulated g 0 (length (take (b - a) (drop a column)))
    → WrittenTo f n (put_mid a (b - a) column block) (a + 128)
block_written {f} {g} {n} {a} {b} {column} {block} w l h e c =
    let same = w.same in
    let z : min (a + 128) n ≡ b = omega arith in
    rw z (record { same = same_len_mid a (b - a) column block long ∙ same; high = omega arith; is = λ i u. at i u (lt_or_ge i a) })
  where
    long : length block ≡ length (take (b - a) (drop a column))
    long = ap length c ∙ length_tabulated g 0 (length (take (b - a) (drop a column)))

    few : length (take (b - a) (drop a column)) ≡ b - a
    few = mid_len a b column (omega (arith, w.same))

    at : (i : ℕ) → i < b → (i < a) ⊎ (a ≤ i) → get_or (put_mid a (b - a) column block) i nan ≡ f i
    at i u (inl p) = put_before column block a (b - a) nan (omega (arith, w.same)) i p ∙ w.is i (omega arith)
    at i u (inr p) =
        let z : a + (i - a) ≡ i = omega arith in
        put_in column block a (b - a) nan (omega (arith, w.same)) i p (omega (arith, long, few))
        ∙ ap (λ (x : List Float). get_or x (i - a) nan) c
        ∙ tabulated_at g (length (take (b - a) (drop a column))) (i - a) nan (omega (arith, few))
        ∙ e (i - a) (omega arith)
        ∙ ap f z

pub all_written : {f : ℕ → Float} {n a : ℕ} {column : List Float} → WrittenTo f n column a → n ≤ a
    → column ≡ tabulated f 0 n
all_written {n = n} {a = a} w h =
    let z : min a n ≡ n = omega arith in
    writing_done (rw z at w) (omega arith)
