-- The column is the recorded one exactly where its places so far are, and those to come are.
use Rattle.std.proofs.Common.{◌≡◌, ◌+◌, ◌*◌, ◌↔◌, ℕ, IsTrue, length, map, drop}
use Rattle.replay.specs.Numbers.{numbers}
use Rattle.replay.proofs.Recording.same_column.Given as goal

abbrev pub invariant-loop-x : goal.invariant-loop-x
invariant-loop-x g l =
    let bits = map g.T.Recorded.bits in
    let recorded = numbers g.T.Recorded.pattern g.T.Recorded.width in
    record {
      same : (k : ℕ) → l.x-index + k ≡ length l.column
          → (IsTrue l.same × (bits (drop l.x-index l.column) ≡ recorded k l.self))
          ↔ (bits l.column ≡ recorded (length l.column) l.fn.self);
      rest : l.self ≡ drop (l.x-index * g.T.Recorded.width) l.fn.self;
    }
