-- `kde::write_each` meets its contract: the column is written from the front (`Writing`), each place by `f`.
use mathlib.Core.Path.{◌≡◌}
use Prim.Native.Nat.{ℕ}
use lib.ListN.{length, get_or}
use lib.Ieee.{Float, nan}
use Rattle.folds.proofs.Writing.{Writing}
use Rattle.kde.proofs.write_each.Given as goal

abbrev pub invariant-loop-i : goal.invariant-loop-i
invariant-loop-i g l =
    (h : Float → _) → ((x : Float) (y : _) → goal.F-post g l.f x y → y ≡ h x)
    → Writing (λ (k : ℕ). h (get_or l.from k nan)) (h nan) (length l.initial.to) l.to l.i
