-- Walks over a range of whole numbers, as loops make them. A definition that states an order of operations is written
-- with these.
use Rattle.std.specs.Prelude.{ℕ, zero, suc, ◌-◌, Bool, true, cond, ◌&&◌}

-- f at a, then at a + 1, and so on, k times
unfoldable pub steps : {S : Type 0} → (ℕ → S → S) → ℕ → ℕ → S → S
steps f a zero s = s
steps f a (suc k) s = steps f (suc a) k (f a s)

-- what `for i in a..n` makes of s: f at a, a + 1, …, n − 1
abbrev pub for_range : {S : Type 0} → (ℕ → S → S) → ℕ → ℕ → S → S
for_range f a n s = steps f a (n - a) s

-- what `for i in (0..n).rev()` makes of s: f at n − 1, …, 1, 0
unfoldable pub for_range_down : {S : Type 0} → (ℕ → S → S) → ℕ → S → S
for_range_down f zero s = s
for_range_down f (suc n) s = for_range_down f n (f n s)

-- the first of a, a + 1, …, a + k − 1 that meets p, and a + k where none does
unfoldable pub first : (ℕ → Bool) → ℕ → ℕ → ℕ
first p a zero = a
first p a (suc k) = let later = first p (suc a) k in cond (p a) a later

-- the first of a, …, n − 1 that meets p, and n where none does
abbrev pub find_in_range : (ℕ → Bool) → ℕ → ℕ → ℕ
find_in_range p a n = first p a (n - a)

-- whether each of 0, …, n − 1 meets p
unfoldable pub every : (ℕ → Bool) → ℕ → Bool
every p zero = true
every p (suc n) = every p n && p n
