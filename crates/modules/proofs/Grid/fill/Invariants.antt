use Prim.Native.Nat.{◌-◌}
use Rattle.modules.specs.Grid.{Kept}
use Rattle.modules.specs.Walk.{Filled}
use Rattle.modules.proofs.Grid.fill.Given as goal

-- the promise itself, as far as the loop has come
abbrev pub invariant-loop-r : goal.invariant-loop-r
invariant-loop-r l = Kept l.initial.self l.self × Filled l.self.w l.c l.y (l.r - l.y) l.v l.initial.self.weights.now l.self.weights.now
