use mathlib.Core.Path.{◌≡◌}
use Prim.Native.Nat.{◌-◌}
use lib.ListN.{length}
use Rattle.rules.specs.Surface.{occupied}
use Rattle.listing.specs.Listed.{height_of, support}
use Rattle.listing.proofs.Walks.{Going}
use Rattle.listing.proofs.row.walk.Given as goal

abbrev pub invariant-loop-x : goal.invariant-loop-x
invariant-loop-x l =
    let s = l.surface in
    let occ = occupied s.table.now in
    record {
      going : Going (height_of occ s.w l.y) (support occ s.w s.h l.y) s.w l.stairs l.entries l.n l.m l.falls l.end l.before l.lo l.x;
      long : length l.stairs ≡ length l.initial.stairs;
    }

abbrev pub decreases-loop-x : goal.decreases-loop-x
decreases-loop-x l = l.w - l.x
