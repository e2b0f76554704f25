use Rattle.listing.proofs.Cuts.{Emitted}
use Rattle.listing.proofs.stairs.emit.Given as goal

abbrev pub invariant-loop-stair : goal.invariant-loop-stair
invariant-loop-stair l = Emitted l.stairs l.height l.end l.right l.n l.initial.entries l.entries l.m l.stair-index
