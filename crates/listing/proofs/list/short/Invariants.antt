use Rattle.listing.proofs.Counted.{Found}
use Rattle.listing.proofs.list.short.Given as goal

abbrev pub invariant-loop-y : goal.invariant-loop-y
invariant-loop-y l = Found l.surface.w l.surface.h l.surface.table.now l.found l.y
