use Rattle.surface.specs.Slots.{Under}
use Rattle.surface.proofs.MarkLaws.{Reached}
use Rattle.surface.proofs.marks.take_all.Given as goal

abbrev pub invariant-loop-k : goal.invariant-loop-k
invariant-loop-k l = Reached l.w l.h l.t l.ids l.k l.m × Under l.ids l.k l.top
