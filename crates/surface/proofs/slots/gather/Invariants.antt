use Rattle.surface.specs.Slots.{Gathered}
use Rattle.surface.proofs.slots.gather.Given as goal

abbrev pub invariant-loop-i : goal.invariant-loop-i
invariant-loop-i l = Gathered l.t l.used l.i l.n
