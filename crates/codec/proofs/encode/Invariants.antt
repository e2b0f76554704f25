use Prim.Native.Nat.{◌*◌}
use Rattle.rules.specs.Host.{bytes_of}
use Rattle.cells.proofs.Upto.{Upto}
use Rattle.codec.proofs.encode.Given as goal

abbrev pub invariant-loop-k : goal.invariant-loop-k
invariant-loop-k l = Upto 0 (bytes_of l.s) l.b (2 * l.k)
