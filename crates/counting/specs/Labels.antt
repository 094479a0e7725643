-- Labels. Document 01: "A label is a signed 32-bit number: −1 is a decoy, every other number a target."
use Rattle.std.specs.Prelude.{List, [], ◌∷◌, Bool, false, cond, ℕ, suc, ◌-◌, eqb, ℤ, pos, negsuc, get_or, set}

abbrev pub is_decoy : ℤ → Bool
is_decoy (pos n) = false
is_decoy (negsuc n) = eqb n 0

-- Module 7: "Up to a row, itself included, labels −1 are its decoys and the rest its targets."
unfoldable pub decoys : List ℤ → ℕ
decoys [] = 0
decoys (l ∷ ls) = cond (is_decoy l) (suc (decoys ls)) (decoys ls)

unfoldable pub targets : List ℤ → ℕ
targets [] = 0
targets (l ∷ ls) = cond (is_decoy l) (targets ls) (suc (targets ls))

-- a label turned into one of the other class: a decoy becomes 1, anything else −1
abbrev pub flip : ℤ → ℤ
flip label = cond (is_decoy label) (pos 1) (negsuc 0)

-- the list with the label of one row flipped; rows count from 1
unfoldable pub flip_row : ℕ → List ℤ → List ℤ
flip_row row labels = set labels (row - 1) (flip (get_or labels (row - 1) (pos 0)))
