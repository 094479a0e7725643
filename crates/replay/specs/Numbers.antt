-- The numbers at the head of some bytes, each of which has the same width.
use Rattle.std.specs.Prelude.{ℕ, zero, suc, List, [], ◌∷◌, drop}

abbrev pub numbers : {X : Type 0} → (List ℕ → X) → ℕ → ℕ → List ℕ → List X
numbers number width zero bytes = []
numbers number width (suc n) bytes = number bytes ∷ numbers number width n (drop width bytes)
