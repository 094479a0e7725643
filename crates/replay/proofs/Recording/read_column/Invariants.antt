-- With the numbers still to be read the column is the whole one.
use Rattle.std.proofs.Common.{◌≡◌, ◌+◌, ◌*◌, ◌++◌, ℕ, drop}
use Rattle.replay.specs.Numbers.{numbers}
use Rattle.replay.proofs.Recording.read_column.Given as goal

abbrev pub invariant-loop-i : goal.invariant-loop-i
invariant-loop-i g l = record {
  column : (k : ℕ) → l.i + k ≡ l.fn.n
      → l.column.items ++ numbers g.T.Recorded.number g.T.Recorded.width k l.self
      ≡ numbers g.T.Recorded.number g.T.Recorded.width l.fn.n l.fn.self;
  rest : l.self ≡ drop (l.i * g.T.Recorded.width) l.fn.self;
}
