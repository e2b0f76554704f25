-- `listing::list::write_row` meets its contract. Assumes nothing.
use mathlib.Core.Path.{refl}
use Rattle.listing.proofs.Written.{record_none, record_more}
use Rattle.listing.proofs.list.write_row.Goals as goal

pub loop-i-init : goal.loop-i-init
loop-i-init c = record_none _ _ _ _ c.requires.in_bounds

pub loop-i-preserved : goal.loop-i-preserved
loop-i-preserved c = record_more _ _ _ _ c.requires.in_bounds _ _ _ _ c.loop-i.invariant c.loop-i-test.true c.put_entry.ensures refl
