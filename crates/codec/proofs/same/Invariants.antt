use mathlib.Core.Path.{◌≡◌}
use mathlib.Core.Bool.{Bool}
use mathlib.Core.List.{List}
use Prim.Native.Nat.{ℕ}
use lib.IntN.{ℤ, pos}
use lib.ListN.{get_or}
use Rattle.rules.specs.Tests.{every, eq_z}
use Rattle.rules.specs.Host.{weights_of}
use Rattle.codec.proofs.same.Given as goal

abbrev pub item : List ℕ → List ℤ → ℕ → Bool
item b s k = eq_z (get_or s k (pos 0)) (get_or (weights_of b) k (pos 0))

abbrev pub invariant-loop-k : goal.invariant-loop-k
invariant-loop-k l = l.ok ≡ every l.k (item l.b l.s)
