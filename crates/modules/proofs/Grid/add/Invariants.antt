use Prim.Native.Nat.{◌+◌, ◌-◌}
use Rattle.modules.specs.Grid.{Kept}
use Rattle.modules.proofs.Plane.{Adding}
use Rattle.modules.proofs.Grid.add.Given as goal

-- column c's cells get the number of a module there, in whichever slot (`returns`)
abbrev pub invariant-loop-c : goal.invariant-loop-c
invariant-loop-c l = Kept l.initial.self l.self × Adding l.self.w l.self.h l.m (λ c. l.m.x + l.m.w - c) l.c l.initial.self.weights.now l.self.weights.now
