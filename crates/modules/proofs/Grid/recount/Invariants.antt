use Rattle.modules.specs.Grid.{Kept}
use Rattle.modules.proofs.Walks.{Counting}
use Rattle.modules.proofs.Grid.recount.Given as goal

abbrev pub invariant-loop-r : goal.invariant-loop-r
invariant-loop-r l = Kept l.initial.self l.self × Counting l.self.w l.self.h l.c l.a l.k l.r l.n l.initial.self.weights.now l.self.weights.now
