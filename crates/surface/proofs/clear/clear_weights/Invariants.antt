use mathlib.Core.Path.{◌≡◌}
use Prim.Native.Nat.{◌*◌}
use lib.ListN.{take}
use Rattle.rules.specs.Calls.{cleared_weights}
use Rattle.surface.proofs.clear.clear_weights.Given as goal

abbrev pub invariant-loop-y : goal.invariant-loop-y
invariant-loop-y l = take (l.y * l.w) l.s ≡ cleared_weights l.w l.y
