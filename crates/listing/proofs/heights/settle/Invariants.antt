use mathlib.Core.Path.{◌≡◌}
use Prim.Native.Nat.{◌≤◌}
use Rattle.rules.specs.Surface.{occupied}
use Rattle.listing.specs.Row.{reach}
use Rattle.listing.specs.Listed.{support}
use Rattle.listing.proofs.heights.settle.Given as goal

abbrev pub invariant-loop-c : goal.invariant-loop-c
invariant-loop-c l =
    let held = support (occupied l.surface.table.now) l.surface.w l.surface.h l.y in
    record { from : l.lo ≤ l.c; same : reach held l.x ≡ reach held l.c }
