use Rattle.modules.specs.Grid.{Kept}
use Rattle.modules.proofs.Plane.{Removing}
use Rattle.modules.proofs.Grid.remove.Given as goal

abbrev pub invariant-loop-c : goal.invariant-loop-c
invariant-loop-c l = Kept l.initial.self l.self × Removing l.self.w l.self.h l.m l.c l.initial.self.weights.now l.self.weights.now
