-- Ratios of two counts, as f32. Counts up to 2^24 are f32 exactly, so their ratio is one rounding of the true ratio,
-- and rounding keeps the order: whether a ratio d/t is at most the f32 nearest to 1/k is then the question of whole
-- numbers whether k·d ≤ t.
use Rattle.std.proofs.Common.{◌≡◌, ℕ, zero, suc, ◌+◌, ◌-◌, ◌*◌, ◌^◌, ◌<◌, ◌≤◌, Bool, true, false, T, leb, pos, refl, ◌∙◌, zero-lt-suc, mul_assoc, mul_comm, mul-pos, mul-one, mul_left_comm, arith, lit≤, ltb→lt, ne_eqb, leb-false, leb-true}
use borrow.Author.Tests.{lt-leb}
use lib.Ieee.{Float, nan, inf, fin, binary32, round, of_int, of_bits, add, div, lt, le}
use lib.Ieee.Bits.{is_true}
use lib.Ieee.Exact.{HasValue}
use lib.Ieee.Back.{round_whole}
use lib.Ieee.Order.{round_mono}
use lib.Ieee.Positive.{positive, positive_of_value}
use Rattle.folds.proofs.Tests.{no_truth}
use Rattle.floats.specs.Ratio.{one_in}
use Rattle.floats.proofs.Fractions.{div_at, add_at}
use Rattle.floats.proofs.Order.{lt→not_le, le_trans, lt_of_le_of_lt}

pub one_in_100 : one_in 100 ≡ of_bits binary32 0x3C23D70A
unfolding one_in round of_bits
one_in_100 = refl

pub one_in_20 : one_in 20 ≡ of_bits binary32 0x3D4CCCCD
unfolding one_in round of_bits
one_in_20 = refl

-- a count up to 2^24 is an f32 exactly
pub count_value : (n : ℕ) → n ≤ 2 ^ 24 → HasValue (of_int binary32 (pos n)) false n 1
unfolding of_int
count_value n h = round_whole binary32 false n h

-- the ratio of two counts up to 2^24 is one rounding
pub one_rounding : (d t : ℕ) → d ≤ 2 ^ 24 → 0 < t → t ≤ 2 ^ 24
    → div binary32 (of_int binary32 (pos d)) (of_int binary32 (pos t)) ≡ round binary32 false d t
one_rounding d t h p k =
    div_at false false d 1 t 1 (lit≤ tt) (lit≤ tt) binary32 (of_int binary32 (pos d)) (of_int binary32 (pos t)) p (count_value d h) (count_value t k)
    ∙ rw (mul-one d, mul-one t)

-- a ratio to a count of none
pub ratio_none : (d : ℕ) → 0 < d → d ≤ 2 ^ 24
    → div binary32 (of_int binary32 (pos d)) (of_int binary32 (pos 0)) ≡ inf false
unfolding of_int div
ratio_none d p h = over_zero (of_int binary32 (pos d)) (positive_of_value (of_int binary32 (pos d)) d 1 (count_value d h) p)
  where
    over_zero : (x : Float) → T (positive x) → div binary32 x (fin false 0 (pos 0)) ≡ inf false
    over_zero nan h = elim h [ ]
    over_zero (inf _) h = elim h [ ]
    over_zero (fin true m e) h = elim h [ ]
    over_zero (fin false m e) h = rw (ne_eqb m 0 (λ (z : m ≡ 0). omega (arith, ltb→lt 0 m h)))

-- Rust counts by adding 1.0 in f32
pub count_next : (n : ℕ) → n < 2 ^ 24
    → add binary32 (of_int binary32 (pos n)) (of_bits binary32 0x3F800000) ≡ of_int binary32 (pos (n + 1))
unfolding of_int of_bits
count_next n h =
    add_at binary32 (of_int binary32 (pos n)) (fin false 1 (pos 0)) false n 1 1 1 (lit≤ tt) (lit≤ tt) (count_value n (omega arith)) (refl, refl)
    ∙ rw (mul-one n)

-- a larger ratio rounds to no smaller float
pub ratio_mono : (d t c u : ℕ) → 0 < t → 0 < u → d * u ≤ c * t
    → T (le (round binary32 false d t) (round binary32 false c u))
ratio_mono = round_mono binary32

-- ---- a ratio against one in k

inf_lt : (y : Float) → lt (inf false) y ≡ false
unfolding lt
inf_lt nan = refl
inf_lt (inf t) = refl
inf_lt (fin t n d) = refl

inf_le : (x y : Float) → T (lt x y) → le (inf false) x ≡ false
inf_le x y h = no_truth (le (inf false) x) (λ t. rw inf_lt at (lt_of_le_of_lt (inf false) x y t h))

-- The next ratio above 1/k that two counts below 2^24 can have is 2^24 / (k·(2^24 − 1)) or more: the format tells it
-- from 1/k.
abbrev pub Sharp : ℕ → Type 0
Sharp k = T (lt (one_in k) (round binary32 false (2 ^ 24) (k * (2 ^ 24 - 1))))

pub sharp_100 : Sharp 100
unfolding one_in round lt
sharp_100 = tt

pub sharp_20 : Sharp 20
unfolding one_in round lt
sharp_20 = tt

one_in_is : (k : ℕ) → one_in k ≡ round binary32 false 1 k
unfolding one_in
one_in_is k = refl

-- a ratio of counts is at most the f32 nearest to 1/k where k·d ≤ t, and only there; a t of 0 included
pub ratio_at_most : (k : ℕ) → 0 < k → Sharp k → (d t : ℕ) → 0 < d → d ≤ 2 ^ 24 → t < 2 ^ 24
    → le (div binary32 (of_int binary32 (pos d)) (of_int binary32 (pos t))) (one_in k) ≡ leb (k * d) t
ratio_at_most k K sharp d zero p h q =
    rw (ratio_none d p h, lt-leb (k * d) 0 (mul-pos K p)) (inf_le (one_in k) (round binary32 false (2 ^ 24) (k * (2 ^ 24 - 1))) sharp)
ratio_at_most k K sharp d (suc t) p h q = go (leb (k * d) (suc t)) refl
  where
    r : Float
    r = div binary32 (of_int binary32 (pos d)) (of_int binary32 (pos (suc t)))

    is : r ≡ round binary32 false d (suc t)
    is = one_rounding d (suc t) h (zero-lt-suc t) (omega arith)

    go : (b : Bool) → leb (k * d) (suc t) ≡ b → le r (one_in k) ≡ b
    go true e =
        is_true (le r (one_in k))
        (rw (is, one_in_is) (round_mono binary32 d (suc t) 1 k (zero-lt-suc t) K (omega (arith, leb-true (k * d) (suc t) e, mul_comm k d))))
    go false e =
        let w : d * (k * (2 ^ 24 - 1)) ≡ k * d * (2 ^ 24 - 1) = simp (mul_assoc, mul_left_comm) in
        let B = round binary32 false (2 ^ 24) (k * (2 ^ 24 - 1)) in
        no_truth (le r (one_in k)) (λ u. lt→not_le (one_in k) B sharp (le_trans B r (one_in k)
        (rw is (round_mono binary32 (2 ^ 24) (k * (2 ^ 24 - 1)) d (suc t) (mul-pos K (lit≤ tt)) (zero-lt-suc t)
        (omega (arith, leb-false (k * d) (suc t) e)))) u))
