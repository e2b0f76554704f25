use mathlib.Core.Path.{◌≡◌}
use lib.Dec.{eqb}
use lib.ListN.{get_or}
use Rattle.rules.specs.Tests.{any}
use Rattle.surface.proofs.slots.seen.Given as goal

abbrev pub invariant-loop-other : goal.invariant-loop-other
invariant-loop-other l = l.found ≡ any l.other-index (λ j. eqb (get_or l.ids j 0) l.id)
