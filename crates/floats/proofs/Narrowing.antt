-- Narrowing by a sum. A magnitude is N units of 2 ^ -1074, the smallest f64. Its f32 keeps 24 digits, or what lies
-- above 2 ^ -149: that is rounding N to a multiple of 2 ^ (925 + i) units. Adding 2 ^ 52 such multiples leaves an f64
-- no digit below them, so the sum rounds just there, and, 2 ^ 52 being even, ties go where narrowing has them go.
use Rattle.std.proofs.Common.{◌≡◌, ℕ, suc, ◌+◌, ◌-◌, ◌*◌, ◌/◌, ◌%◌, ◌^◌, ◌<◌, ◌≤◌, true, false, T, ◌⊎◌, sym, refl, ap, ◌∙◌, subst, inl, inr, le_trans, le_of_eq, lt_of_lt_of_le, lt_of_le_of_lt, le_of_lt, mul-le-mul_right, mul_assoc, div-lt_iff_lt-mul, add-mul, mul-le-mul, le_antisymm, mul-pos, lt_of_not-le, le-div_iff_mul-le, mul-one, not-le_of_lt, div-one, mul-div_cancel, add-sub_cancel, arith, lit<, lit≤, pow_pos, pow_mono, pow-add}
use Prim.Native.Nat.{compare, Ordering}
use native.Mathlib.Nat.{mod-one, add-mul-div_right, add-mul-mod_self_right, two-pow-succ}
use lib.Ieee.{Float, nan, inf, fin, Format, binary32, binary64, prec, low, size, nearest, round, add, sub, le}
use lib.Ieee.Digits.{size-lt, size-le, size_reaches}
use lib.Ieee.Fits.{round-fits, sub-fits, fits_widens}
use lib.Ieee.Exact.{HasValue, round_exact}
use lib.Ieee.Nearest.{closest, closest_mono, closest_same, div_same}
use lib.Ieee.Order.{drop, round_mono}
use lib.Ieee.Scale.{grid, round_val}
use Rattle.floats.proofs.Values.{value_unique}
use Rattle.floats.proofs.Fractions.{rescale, add_values, sub_values}

-- ---- rounding to a whole number

nearest_even : (q j : ℕ) (o : Ordering) → nearest (q + 2 * j) o ≡ nearest q o + 2 * j
nearest_even q j Ordering.lt = refl
nearest_even q j Ordering.eq = omega arith
nearest_even q j Ordering.gt = omega arith

-- an even number of divisors more moves the rounded quotient by as many
closest_even : (a b j : ℕ) → 0 < b → closest (a + 2 * j * b) b ≡ closest a b + 2 * j
closest_even a b j B =
    ap (λ (q : ℕ). nearest q (compare ((a + 2 * j * b) % b * 2) b)) (add-mul-div_right a (2 * j) B)
    ∙ ap (λ (r : ℕ). nearest (a / b + 2 * j) (compare (r * 2) b)) (add-mul-mod_self_right a (2 * j) b)
    ∙ nearest_even (a / b) j (compare (a % b * 2) b)

closest_whole : (n : ℕ) → closest n 1 ≡ n
closest_whole n =
    ap (λ (r : ℕ). nearest (n / 1) (compare (r * 2) 1)) (mod-one n) ∙ div-one n

closest_le : (a b n : ℕ) → 0 < b → a ≤ n * b → closest a b ≤ n
closest_le a b n B h =
    le_trans (closest_mono a b n 1 B (lit< tt) (le_trans (le_of_eq (mul-one a)) h)) (le_of_eq (closest_whole n))

-- ---- digits

size_is : (n j : ℕ) → 2 ^ j ≤ n → n < 2 ^ suc j → size n ≡ suc j
size_is n j l h =
    le_antisymm (size-le n (suc j) h) (lt_of_not-le (λ (g : size n ≤ j). not-le_of_lt (lt_of_lt_of_le (size-lt n) (pow_mono g)) l))

-- what `round` keeps, where it drops j digits
grid_at : (f : Format) (a c j : ℕ) → drop (prec f) (a * 2 ^ low f) c ≡ j
    → grid f a c ≡ closest (a * 2 ^ low f) (c * 2 ^ j) * 2 ^ j
grid_at f a c j e = ap (λ (k : ℕ). closest (a * 2 ^ low f) (c * 2 ^ k) * 2 ^ k) e

-- ---- the two roundings of N

-- `place` is where its last kept digit stands: at 2 ^ (925 + i), and i is 0 unless N has 949 digits or more

pub record Place (N i : ℕ) : Type 0 where
  pub under : N < 2 ^ (949 + i)
  pub reached : (i ≡ 0) ⊎ (2 ^ (948 + i) ≤ N)
  pub most : i ≤ 253

-- what the last kept digit weighs, and the power of two that is added
abbrev pub last_digit : ℕ → ℕ
last_digit i = 2 ^ (925 + i)

abbrev pub added_power : ℕ → ℕ
added_power i = 4503599627370496 * last_digit i

module _ (N i : ℕ) (h : Place N i) where
  last_digit_pos : 0 < last_digit i
  last_digit_pos = pow_pos (925 + i)

  few : closest N (last_digit i) ≤ 16777216
  few = closest_le N (last_digit i) 16777216 last_digit_pos (le_trans (le_of_lt h.under) (le_of_eq (ap (λ (x : ℕ). 2 ^ x) split ∙ pow-add 2 24 (925 + i))))
    where
      split : 949 + i ≡ 24 + (925 + i)
      split = omega arith

  added_power_is : added_power i ≡ 2 ^ (977 + i)
  added_power_is = sym (pow-add 2 52 (925 + i)) ∙ ap (λ (x : ℕ). 2 ^ x) join
    where
      join : 52 + (925 + i) ≡ 977 + i
      join = omega arith

  sum_size : size (N + added_power i) ≡ 978 + i
  sum_size = size_is (N + added_power i) (977 + i) low_end high_end ∙ next
    where
      next : suc (977 + i) ≡ 978 + i
      next = omega arith

      low_end : 2 ^ (977 + i) ≤ N + added_power i
      low_end = omega (arith, added_power_is)

      twice : 2 ^ suc (977 + i) ≡ 2 ^ (977 + i) + 2 ^ (977 + i)
      twice = two-pow-succ (977 + i)

      high_end : N + added_power i < 2 ^ suc (977 + i)
      high_end =
          let a : 2 ^ (949 + i) ≤ 2 ^ (977 + i) = pow_mono (shift i) in
          let b = h.under in
          omega (arith, added_power_is, twice)
        where
          shift : (k : ℕ) → 949 + k ≤ 977 + k
          shift k = omega arith

  sum_grid : grid binary64 (N + added_power i) (2 ^ 1074) ≡ (closest N (last_digit i) + 4503599627370496) * last_digit i
  sum_grid =
      let S = N + added_power i in
      grid_at binary64 S (2 ^ 1074) (925 + i) (ap (λ (x : ℕ). size x - 53) (mul-div_cancel S (pow_pos 1074)) ∙ ap (λ (x : ℕ). x - 53) sum_size ∙ back i)
      ∙ ap (λ (x : ℕ). x * last_digit i)
      (closest_same (S * 2 ^ 1074) (2 ^ 1074 * last_digit i) S (last_digit i) (mul-pos (pow_pos 1074) last_digit_pos) last_digit_pos (mul_assoc S (2 ^ 1074) (last_digit i))
      ∙ closest_even N (last_digit i) 2251799813685248 last_digit_pos)
    where
      back : (k : ℕ) → 978 + k - 53 ≡ 925 + k
      back k = omega arith

  -- digits of N's whole part in units of 2 ^ -149
  kept_digits : size (N / 2 ^ 925) - 24 ≡ i
  kept_digits = go h.reached
    where
      over : (j : ℕ) → N < 2 ^ (j + 925) → N / 2 ^ 925 < 2 ^ j
      over j g = (div-lt_iff_lt-mul (pow_pos 925)).1 (lt_of_lt_of_le g (le_of_eq (pow-add 2 j 925)))

      under : (j : ℕ) → 2 ^ (j + 925) ≤ N → 2 ^ j ≤ N / 2 ^ 925
      under j g = (le-div_iff_mul-le (pow_pos 925)).1 (le_trans (le_of_eq (sym (pow-add 2 j 925))) g)

      none : (z : ℕ) → z ≤ 24 → i ≡ 0 → z - 24 ≡ i
      none z g e = omega arith

      top : 949 + i ≡ suc (23 + i) + 925
      top = omega arith

      start : (k : ℕ) → k ≡ 0 → 949 + k ≡ 24 + 925
      start k e = omega arith

      foot : 948 + i ≡ 23 + i + 925
      foot = omega arith

      left : suc (23 + i) - 24 ≡ i
      left = omega arith

      go : (i ≡ 0) ⊎ (2 ^ (948 + i) ≤ N) → size (N / 2 ^ 925) - 24 ≡ i
      go (inl e) = none (size (N / 2 ^ 925)) (size-le (N / 2 ^ 925) 24 (over 24 (subst (λ (x : ℕ). N < 2 ^ x) (start i e) h.under))) e
      go (inr g) =
          ap (λ (x : ℕ). x - 24)
          (size_is (N / 2 ^ 925) (23 + i) (under (23 + i) (subst (λ (x : ℕ). 2 ^ x ≤ N) foot g)) (over (suc (23 + i)) (subst (λ (x : ℕ). N < 2 ^ x) top h.under)))
          ∙ left

  narrow_grid : grid binary32 N (2 ^ 1074) ≡ closest N (last_digit i) * 2 ^ i
  narrow_grid =
      grid_at binary32 N (2 ^ 1074) i (ap (λ (x : ℕ). size x - 24) (div_same (N * 2 ^ 149) (2 ^ 1074) N (2 ^ 925) (pow_pos 1074) (pow_pos 925) (mul_assoc N (2 ^ 149) (2 ^ 925))) ∙ kept_digits)
      ∙ ap (λ (x : ℕ). x * 2 ^ i)
      (closest_same (N * 2 ^ 149) (2 ^ 1074 * 2 ^ i) N (last_digit i) (mul-pos (pow_pos 1074) (pow_pos i)) last_digit_pos
      (mul_assoc N (2 ^ 149) (last_digit i) ∙ ap (λ (x : ℕ). N * x) (sym (pow-add 2 149 (925 + i)) ∙ ap (λ (x : ℕ). 2 ^ x) join ∙ pow-add 2 1074 i)))
    where
      join : 149 + (925 + i) ≡ 1074 + i
      join = omega arith

  -- nothing here comes near an f64's end
  below_f64_end : (a : ℕ) → a ≤ 9007199254740992 → a * last_digit i < 2 ^ 2098
  below_f64_end a g = lt_of_le_of_lt (mul-le-mul g (pow_mono (high h.most))) (lit< tt)
    where
      high : i ≤ 253 → 925 + i ≤ 1178
      high e = omega arith

  -- the sum, minus the power of two that was added, is N rounded to an f32
  pub rounded : (x y : Float) → HasValue x false N (2 ^ 1074) → HasValue y false (added_power i) (2 ^ 1074)
      → closest N (last_digit i) * 2 ^ i < 2 ^ 277
      → sub binary64 (add binary64 x y) y ≡ round binary32 false N (2 ^ 1074)
  rounded x y v w fine =
      let c = closest N (last_digit i) in
      let u = last_digit i in
      let L = 2 ^ 1074 in
      let S = N + added_power i in
      let g = (c + 4503599627370496) * u in
      let total : HasValue (add binary64 x y) false g L =
      subst (λ (z : Float). HasValue z false g L) (sym (add_values binary64 x y N (added_power i) L (pow_pos 1074) v w))
      (subst (λ (z : ℕ). HasValue (round binary64 false S L) false z L) sum_grid
      (round_val binary64 S L (subst (λ (z : ℕ). z < 2 ^ 2098) (sym sum_grid) (below_f64_end (c + 4503599627370496) (more few))))) in
      let parts : g ≡ c * u + added_power i = add-mul c 4503599627370496 u in
      let left : sub binary64 (add binary64 x y) y ≡ round binary64 false (c * u) L =
      sub_values binary64 (add binary64 x y) y g (added_power i) L (pow_pos 1074) (ge (c * u) (added_power i) g parts) total w
      ∙ ap (λ (z : ℕ). round binary64 false z L) (ap (λ (z : ℕ). z - added_power i) parts ∙ add-sub_cancel (c * u) (added_power i)) in
      value_unique binary64 (sub binary64 (add binary64 x y) y) (round binary32 false N L) false (c * u) L
      (sub-fits binary64 (add binary64 x y) y)
      (fits_widens (round binary32 false N L) (round-fits binary32 false N L))
      (pow_pos 1074)
      (subst (λ (z : Float). HasValue z false (c * u) L) (sym left)
      (round_exact binary64 false (c * u) L c (925 + i) (pow_pos 1074) (small few) (below_f64_end c (fewer few)) refl))
      (rescale (round binary32 false N L) false (c * 2 ^ i) (2 ^ 149) (c * u) L (pow_pos 149) (same c)
      (subst (λ (z : ℕ). HasValue (round binary32 false N L) false z (2 ^ 149)) narrow_grid
      (round_val binary32 N L (subst (λ (z : ℕ). z < 2 ^ 277) (sym narrow_grid) fine))))
    where
      more : {c : ℕ} → c ≤ 16777216 → c + 4503599627370496 ≤ 9007199254740992
      more g = omega arith

      fewer : {c : ℕ} → c ≤ 16777216 → c ≤ 9007199254740992
      fewer g = omega arith

      small : {c : ℕ} → c ≤ 16777216 → c < 9007199254740992
      small g = omega arith

      ge : (a b g : ℕ) → g ≡ a + b → b ≤ g
      ge a b g e = omega arith

      powers : 2 ^ i * 2 ^ 1074 ≡ last_digit i * 2 ^ 149
      powers = sym (pow-add 2 i 1074) ∙ ap (λ (x : ℕ). 2 ^ x) shift ∙ pow-add 2 (925 + i) 149
        where
          shift : i + 1074 ≡ 925 + i + 149
          shift = omega arith

      same : (c : ℕ) → c * 2 ^ i * 2 ^ 1074 ≡ c * last_digit i * 2 ^ 149
      same c = mul_assoc c (2 ^ i) (2 ^ 1074) ∙ ap (λ (x : ℕ). c * x) powers ∙ sym (mul_assoc c (last_digit i) (2 ^ 149))

-- ---- where f32 ends: at 2 ^ 128 - 2 ^ 103, which is halfway from its greatest value to 2 ^ 128

abbrev pub end : ℕ
end = 33554431 * 2 ^ 1177

pub rounded_below : (N i : ℕ) → Place N i → N < end → closest N (last_digit i) * 2 ^ i < 2 ^ 277
rounded_below N i h l = go (native.Mathlib.Nat.eq-or-lt_of_le h.most)
  where
    last : i ≡ 253 → closest N (last_digit 253) ≤ 16777215
    last e = closest_mono N (2 ^ 1178) (end - 1) (2 ^ 1178) (pow_pos 1178) (pow_pos 1178) (mul-le-mul_right (2 ^ 1178) (one_less N end l))
      where
        one_less : (a b : ℕ) → a < b → a ≤ b - 1
        one_less a b g = omega arith

    go : (i ≡ 253) ⊎ (i < 253) → closest N (last_digit i) * 2 ^ i < 2 ^ 277
    go (inl e) = subst (λ (k : ℕ). closest N (last_digit k) * 2 ^ k < 2 ^ 277) (sym e) (lt_of_le_of_lt (mul-le-mul_right (2 ^ 253) (last e)) (lit< tt))
    go (inr g) = lt_of_le_of_lt (mul-le-mul (few N i h) (pow_mono (one_less g))) (lit< tt)
      where
        one_less : i < 253 → i ≤ 252
        one_less e = omega arith

above_all : (y : Float) → T (le (inf false) y) → y ≡ inf false
unfolding le
above_all nan t = absurd t
above_all (inf true) t = absurd t
above_all (inf false) t = refl
above_all (fin s m e) t = absurd t

end_is : round binary32 false end (2 ^ 1074) ≡ inf false
unfolding round
end_is = refl

pub out_of_range : (N : ℕ) → end ≤ N → round binary32 false N (2 ^ 1074) ≡ inf false
out_of_range N h =
    above_all (round binary32 false N (2 ^ 1074))
    (subst (λ (z : Float). T (le z (round binary32 false N (2 ^ 1074)))) end_is
    (round_mono binary32 end (2 ^ 1074) N (2 ^ 1074) (pow_pos 1074) (pow_pos 1074) (mul-le-mul_right (2 ^ 1074) h)))

pub place_of_lem : (N : ℕ) → N < end → Place N (size N - 949)
place_of_lem N l = record { under = lt_of_lt_of_le (size-lt N) (pow_mono (cover (size N))); reached = go (size N) refl; most = few_digits (size-le N 1202 (lt_of_lt_of_le l (lit≤ tt))) }
  where
    cover : (z : ℕ) → z ≤ 949 + (z - 949)
    cover z = omega arith

    few_digits : {z : ℕ} → z ≤ 1202 → z - 949 ≤ 253
    few_digits g = omega arith

    go : (z : ℕ) → size N ≡ z → (z - 949 ≡ 0) ⊎ (2 ^ (948 + (z - 949)) ≤ N)
    go z e = elim (native.Mathlib.Nat.eq-zero-or-pos (z - 949)) [
      | inl n ↦ inl n
      | inr p ↦ inr (size_reaches N (948 + (z - 949)) (subst (λ (x : ℕ). 948 + (z - 949) < x) (sym e) (inside z p)))
    ]
      where
        inside : (z : ℕ) → 0 < z - 949 → 948 + (z - 949) < z
        inside z p = omega arith
