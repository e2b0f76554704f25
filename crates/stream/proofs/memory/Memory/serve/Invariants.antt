use Prim.Native.Nat.{◌-◌, ◌≤◌}
use Rattle.stream.specs.Size.{columns_of, rows_of}
use Rattle.stream.specs.Memory.{kept_in}
use Rattle.stream.proofs.Turns.{ServedTo}
use Rattle.stream.proofs.memory.Memory.serve.Given as goal

abbrev pub invariant-loop-k : goal.invariant-loop-k
invariant-loop-k l = (l.k ≤ l.n) × ServedTo l.q (kept_in l.initial.self) l.initial.a l.k (columns_of l.self.size) (rows_of l.self.size l.self.rows) l.self.weights l.self.table l.a

abbrev pub decreases-loop-k : goal.decreases-loop-k
decreases-loop-k l = l.n - l.k
