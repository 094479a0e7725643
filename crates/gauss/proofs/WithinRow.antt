-- A row that is changed by itself, and put back: what a turn of `joined`, `row_subtracted` and `row_divided` make of
-- the table. Past the table's last row nothing is changed.
use mathlib.Core.Path.{◌≡◌, refl, sym, ap, ◌∙◌}
use mathlib.Core.List.{[], ◌∷◌, ◌++◌, append_assoc}
use Prim.Native.Nat.{ℕ, zero, suc, ◌+◌, ◌-◌, ◌≤◌, zero-le}
use native.Mathlib.Numerals.{add-one}
use native.Mathlib.Omega.{arith}
use lib.ListN.{length, get_or, set, take, drop}
use lib.Seq.{set-get_or, set_at, length-take-le}
use lib.Ieee.{Float, nan, binary64, div}
use Rattle.std.proofs.lemmas.List.{take_more, drop_more}
use Rattle.folds.specs.Walks.{steps, for_range}
use Rattle.folds.proofs.Walks.{for_range_last, for_range_done}
use Rattle.floats.specs.Constants.{f64_zero}
use Rattle.gauss.specs.Elimination.{Vector, Matrix, row, entry, row_subtracted, clear_row, row_divided, clear_row_above}
use Rattle.gauss.specs.Solutions.{join_row}
use Rattle.gauss.specs.Inner.Rows.{row_joined, subtract_at, subtracted, divide_at, divided}

-- f, of row i of a table
abbrev pub within : (Vector → Vector) → ℕ → Matrix → Matrix
within f i m = set m i (f (row m i))

twice : (f g : Vector → Vector) (i : ℕ) (m : Matrix) → within g i (within f i m) ≡ within (λ r. g (f r)) i m
twice f g i [] = refl
twice f g zero (r ∷ m) = refl
twice f g (suc i) (r ∷ m) = ap (λ (rest : Matrix). r ∷ rest) (twice f g i m)

steps_within : (f : ℕ → Vector → Vector) (i a k : ℕ) (m : Matrix)
    → steps (λ j. within (f j) i) a k m ≡ within (steps f a k) i m
unfolding steps
steps_within f i a zero m = sym (set-get_or m i [])
steps_within f i a (suc k) m = steps_within f i (suc a) k (within (f a) i m) ∙ twice (f a) (steps f (suc a) k) i m

-- the front of a row copied to another, as a walk
pub copied : (n : ℕ) (l r : Vector) → n ≤ length l → n ≤ length r
    → take n l ++ drop n r ≡ for_range (λ j r. set r j (get_or l j nan)) 0 n r
copied zero l r h k = sym (for_range_done (λ j r. set r j (get_or l j nan)) 0 0 r zero-le)
copied (suc n) l r h k =
    let f : ℕ → Vector → Vector = λ j r. set r j (get_or l j nan) in
    let x = get_or l n nan in
    let e = take_more l n nan (omega arith) in
    let e' = drop_more r n nan (omega arith) in
    let e'' = set_at (take n l) (get_or r n nan) (drop (n + 1) r) x n (length-take-le n l (omega arith)) in
    let before = copied n l r (omega arith) (omega arith) in
    rw (← add-one n, for_range_last f 0 n r zero-le, ← before, e', e'', e, append_assoc) refl

pub join_row_within : (left : Matrix) (right : Vector) (size i : ℕ) (m : Matrix)
    → join_row left right size i m ≡ within (row_joined (row left i) (get_or right i nan) size) i m
unfolding row_joined
join_row_within left right size i m =
    let copy : ℕ → Vector → Vector = λ j r. set r j (entry left i j) in
    let last : Vector → Vector = λ r. set r 20 (get_or right i nan) in
    ap (within last i) (steps_within copy i 0 (size - 0) m) ∙ twice (for_range copy 0 size) last i m

row_subtracted_within : (p : Vector) (size i start : ℕ) (factor : Float) (m : Matrix)
    → row_subtracted p size i start factor m ≡ within (subtracted p size start factor) i m
unfolding row_subtracted subtracted
row_subtracted_within p size i start factor m =
    let f = subtract_at p factor in
    ap (within (f 20) i) (steps_within f i start (size - start) m) ∙ twice (for_range f start size) (f 20) i m

row_divided_within : (size i j : ℕ) (x : Float) (m : Matrix)
    → row_divided size i j x m ≡ within (divided size j x) i m
unfolding row_divided divided
row_divided_within size i j x m =
    let f = divide_at x in
    ap (within (f 20) i) (steps_within f i j (size - j) m) ∙ twice (for_range f j size) (f 20) i m

-- the row that `divide` leaves, put back
pub divided_back : (size i j : ℕ) (x : Float) (m : Matrix) {r : Vector}
    → r ≡ divided size j x (row m i)
    → set m i r ≡ row_divided size i j x m
divided_back size i j x m e = ap (set m i) e ∙ sym (row_divided_within size i j x m)

-- what a turn of `clear_below` makes of its row, and a turn of `clear_above`
abbrev pub below : Vector → ℕ → ℕ → Vector → Vector
below p size k r = subtracted p size (k + 1) (div binary64 (get_or r k nan) (get_or p k nan)) (set r k f64_zero)

abbrev pub above : Vector → ℕ → ℕ → Vector → Vector
above p size j r = subtracted p size 0 (div binary64 (get_or r j nan) (get_or p j nan)) r

pub clear_row_within : (p : Vector) (size k i : ℕ) (m : Matrix) → clear_row p size k i m ≡ within (below p size k) i m
clear_row_within p size k i m =
    let factor = div binary64 (entry m i k) (get_or p k nan) in
    let clear : Vector → Vector = λ r. set r k f64_zero in
    row_subtracted_within p size i (k + 1) factor (within clear i m) ∙ twice clear (subtracted p size (k + 1) factor) i m

pub clear_row_above_within : (p : Vector) (size j i : ℕ) (m : Matrix)
    → clear_row_above p size j i m ≡ within (above p size j) i m
clear_row_above_within p size j i m =
    row_subtracted_within p size i 0 (div binary64 (entry m i j) (get_or p j nan)) m
