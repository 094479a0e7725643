-- Columns as lists. Document 01: a refusal "fills each lent result column, at its own length, with NaN (floats) or
-- 4,294,967,295 (32-bit whole numbers)", and working columns "hold 0 in every place afterwards".
use Rattle.std.specs.Prelude.{List, [], ◌∷◌, Bool, cond, ℕ, zero, suc, ◌+◌, length, replicate}

-- the column with v in every place
abbrev pub filled : {A : Type 0} → A → List A → List A
filled v column = replicate (length column) v

-- f a, f (a + 1), and so on, k numbers
unfoldable pub tabulated : {A : Type 0} → (ℕ → A) → ℕ → ℕ → List A
tabulated f a zero = []
tabulated f a (suc k) = f a ∷ tabulated f (suc a) k

-- f over a list in its order, from the value b on
unfoldable pub folded : {A B : Type 0} → (B → A → B) → B → List A → B
folded f b [] = b
folded f b (a ∷ l) = folded f (f b a) l

-- how many of a list pass a test
unfoldable pub how_many : {A : Type 0} → (A → Bool) → List A → ℕ
how_many p [] = 0
how_many p (a ∷ l) = cond (p a) 1 0 + how_many p l
