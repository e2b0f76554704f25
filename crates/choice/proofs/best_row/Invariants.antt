use Rattle.std.specs.Prelude.{◌≡◌, map, take}
use Rattle.listing.specs.Listed.{entry_rect}
use Rattle.choice.specs.Best.{best_of}
use Rattle.choice.proofs.best_row.Given as goal

abbrev pub invariant-loop-entry : goal.invariant-loop-entry
invariant-loop-entry l = l.best ≡ best_of l.surface.w l.surface.h l.wanted l.initial.best (map (entry_rect l.y) (take l.entry-index l.entry-items))
