-- The places before this one hold the numbers that are read, and with those still to be read they are all.
use Rattle.std.proofs.Common.{◌≡◌, ◌+◌, ◌*◌, ◌++◌, ℕ, length, take, drop}
use Rattle.replay.specs.Numbers.{numbers}
use Rattle.replay.proofs.Recording.read_into.Given as goal

abbrev pub invariant-loop-place : goal.invariant-loop-place
invariant-loop-place g l = record {
  column : (k : ℕ) → l.place-index + k ≡ length l.fn.column
      → take l.place-index l.place-items ++ numbers g.T.Recorded.number g.T.Recorded.width k l.self
      ≡ numbers g.T.Recorded.number g.T.Recorded.width (length l.fn.column) l.fn.self;
  rest : l.self ≡ drop (l.place-index * g.T.Recorded.width) l.fn.self;
}
