use Rattle.std.specs.Prelude.{◌≡◌, length}
use Rattle.rules.specs.Surface.{occupied}
use Rattle.choice.proofs.Walk.{BestAbove}
use Rattle.choice.proofs.choose.Given as goal

abbrev pub invariant-loop-y : goal.invariant-loop-y
invariant-loop-y l = (length l.entries ≡ 64) × BestAbove (occupied l.surface.table.now) l.surface.w l.surface.h l.wanted l.y l.best
