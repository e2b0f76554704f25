use Rattle.rules.specs.Surface.{occupied}
use Rattle.listing.specs.Listed.{height_of}
use Rattle.choice.proofs.Room.{Runs}
use Rattle.choice.proofs.row_has_room.Given as goal

abbrev pub invariant-loop-weight : goal.invariant-loop-weight
invariant-loop-weight l = Runs (height_of (occupied l.surface.table.now) l.surface.w l.y) l.wanted.h l.wanted.w l.run l.weight-index
