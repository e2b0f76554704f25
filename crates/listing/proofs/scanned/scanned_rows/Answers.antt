-- `listing::scanned::scanned_rows` meets its contract. Assumes nothing.
use native.Mathlib.Omega.{arith}
use Rattle.listing.proofs.ScanLaws.{mark_start, mark_more, mark_end}
use Rattle.listing.proofs.scanned.scanned_rows.Goals as goal

pub loop-i-init : goal.loop-i-init
loop-i-init c = mark_start _ _ _ _ c.requires.le_h.1 (c.fill.ensures.after (λ y e. e))

pub loop-i-preserved : goal.loop-i-preserved
loop-i-preserved c = mark_more _ _ c.loop-i.scans _ _ c.loop-i.invariant c.mark.auto.scans c.mark.ensures

pub returns : goal.returns
returns c = mark_end _ _ _ _ c.loop-i.invariant (omega arith) c.requires.le_h.0
