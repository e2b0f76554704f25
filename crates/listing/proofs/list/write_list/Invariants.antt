use Prim.Native.Nat.{◌*◌, ◌≤◌}
use Rattle.rules.specs.Surface.{occupied}
use Rattle.listing.proofs.Counted.{Turned}
use Rattle.listing.proofs.Written.{Wrote}
use Rattle.listing.proofs.list.write_list.Given as goal

abbrev pub invariant-loop-y : goal.invariant-loop-y
invariant-loop-y l = record {
  wrote : Wrote (occupied l.surface.table.now) l.surface.w l.surface.h l.initial.room l.room l.y (8 * l.found);
  turned : Turned l.surface.w l.surface.h l.surface.table.now l.turned l.y;
  few : l.found ≤ 64 * l.y;
}
