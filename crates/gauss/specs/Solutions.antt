-- What `solve` answers. Document 01, module 2: "A system has size 1 to 20 and one right-hand column. … Try eps = 1E-8,
-- then eps times 10 while eps ≤ 1.0. The rounded products decide the number of tries. Each try starts from the original
-- system."
use Rattle.std.specs.Prelude.{ℕ, zero, suc, Bool, cond, ◌&&◌, ltb, leb, get_or, set, replicate, Float, Result, Ok, Err}
use Rattle.std.specs.Float.{nan, binary64}
use Rattle.std.specs.Float.Ieee.{of_bits, mul}
use Rattle.folds.specs.Walks.{for_range, find_in_range}
use Rattle.columns.specs.declared.Refusal.{Refusal}
use Rattle.columns.specs.declared.Refusal.TheVariants.{OutOfRange, Unsolved}
use Rattle.columns.specs.Refusals.{Asked, if_not, answered}
use Rattle.floats.specs.Constants.{f64_zero}
use Rattle.gauss.specs.Elimination.{Vector, Matrix, entry, set_entry, small}
use Rattle.gauss.specs.Elimination.{diagonal_filled, left_solved, echeloned, reduced, backfilled}

-- ---- answers

-- the twenty numbers that a call returns: those of the answer; after a refusal, "Floats returned by value are then NaN"
abbrev pub solved_values : Result Vector Refusal → Vector
solved_values (Ok v) = v
solved_values (Err refusal) = replicate 20 nan

-- ---- the system

-- row i of the table: its entries below the size, and its right-hand number
abbrev pub join_row : Matrix → Vector → ℕ → ℕ → Matrix → Matrix
join_row left right size i m =
    set_entry i 20 (get_or right i nan) (for_range (λ j. set_entry i j (entry left i j)) 0 size m)

-- "Entries past the size are not read": the table has 0 there
unfoldable pub joined : Matrix → Vector → ℕ → Matrix
joined left right size = for_range (join_row left right size) 0 size (replicate 20 (replicate 21 f64_zero))

-- "answer places past it hold 0"
unfoldable pub values : ℕ → Matrix → Vector
values size m = for_range (λ i v. set v i (entry m i 20)) 0 size (replicate 20 f64_zero)

-- ---- the tries

-- solve_inner, up to its question
unfoldable pub eliminated : ℕ → Float → Matrix → Matrix
eliminated size eps m = backfilled size (reduced size (echeloned size (diagonal_filled size eps m)))

-- solve_inner
unfoldable pub attempt : ℕ → Float → Matrix → Result Vector Refusal
attempt size eps m =
    let done = eliminated size eps m in
    cond (left_solved size done) (Ok (values size done)) (Err Unsolved)

abbrev pub ten : Float
ten = of_bits binary64 0x4024000000000000

-- eps of try n: let mut eps = 1E-8, then eps *= 10.0
unfoldable pub epsilon : ℕ → Float
epsilon zero = small
epsilon (suc n) = mul binary64 (epsilon n) ten

-- The number of tries. The theorem `nine_tries` says that eps ≤ 1.0 at try 0 to 8 and not at try 9.
abbrev pub tries : ℕ
tries = 9

-- whether try n solves the system m
abbrev pub solves : ℕ → Matrix → ℕ → Bool
solves size m n = left_solved size (eliminated size (epsilon n) m)

-- the answer of the first try that does; "Did some eps solve the system? If not: 7."
unfoldable pub first_answer : ℕ → Matrix → Result Vector Refusal
first_answer size m =
    let n = find_in_range (solves size m) 0 tries in
    cond (ltb n tries) (attempt size (epsilon n) m) (Err Unsolved)

-- ---- solve

-- "Is the system's size 1 to 20 …? If not: 3."
abbrev pub size_asked : ℕ → Asked
size_asked size = if_not (leb 1 size && leb size 20) OutOfRange (Ok tt)

unfoldable pub solution : Matrix → Vector → ℕ → Result Vector Refusal
solution left right size = answered (size_asked size) (first_answer size (joined left right size)) Err
