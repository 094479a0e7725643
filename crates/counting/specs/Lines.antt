-- Lines. Document 01, module 7, and demand 3. Rows count from 1; a line is the number of a row, or 0.
use Rattle.std.specs.Prelude.{◌≡◌, ◌⊎◌, List, Bool, true, false, cond, ℕ, zero, suc, ◌+◌, ◌*◌, ◌<◌, ◌≤◌, leb, ℤ, length, take}
use Rattle.counting.specs.Labels.{decoys, targets}

-- "It qualifies when 100 (or 20) times (decoys plus one) is at most the targets."
abbrev pub qualifies : ℕ → List ℤ → ℕ → Bool
qualifies rate labels row = leb (rate * (decoys (take row labels) + 1)) (targets (take row labels))

-- Demand 3: "no later row has 100 times (decoys so far plus one) at most the targets so far, and the line is zero or
-- its own row has"
pub record RightLine (rate : ℕ) (labels : List ℤ) (line : ℕ) : Type 0 where
  pub none_later : (row : ℕ) → line < row → row ≤ length labels → qualifies rate labels row ≡ false
  pub own : (line ≡ 0) ⊎ (qualifies rate labels line ≡ true)

-- the last of the rows 1 to n that meets p, and 0 where none does
unfoldable pub last_row_of : (ℕ → Bool) → ℕ → ℕ
last_row_of p zero = zero
last_row_of p (suc n) = let earlier = last_row_of p n in cond (p (suc n)) (suc n) earlier

-- the one line that is right: theorem `right_line_lem`
abbrev pub right_line : ℕ → List ℤ → ℕ
right_line rate labels = last_row_of (qualifies rate labels) (length labels)
