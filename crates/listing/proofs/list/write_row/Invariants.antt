use Rattle.listing.proofs.Written.{Recorded}
use Rattle.listing.proofs.list.write_row.Given as goal

abbrev pub invariant-loop-i : goal.invariant-loop-i
invariant-loop-i l = Recorded l.y l.at l.entries l.initial.room l.room l.i
