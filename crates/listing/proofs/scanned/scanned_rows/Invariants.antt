use Rattle.listing.proofs.ScanLaws.{Marked}
use Rattle.listing.proofs.scanned.scanned_rows.Given as goal

abbrev pub invariant-loop-i : goal.invariant-loop-i
invariant-loop-i l = Marked l.h l.table l.scans l.i
