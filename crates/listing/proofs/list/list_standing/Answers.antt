-- `listing::list::list_standing` meets its contract. Assumes nothing.
use mathlib.Core.Path.{sym, ap, ◌∙◌}
use Rattle.listing.specs.Listed.{listing_number}
use Rattle.listing.proofs.Counted.{too_short, all_listed, number_listed}
use Rattle.listing.proofs.list.list_standing.Goals as goal

pub returns-then-short : goal.returns-then-short
returns-then-short c =
    let s = c.args.surface.now in
    let r = too_short s.w s.h s.table.now c.args.room.now (sym c.short.ensures ∙ c.if-short.true) in
    record { result_value = r.0; number = ap listing_number r.0 ∙ number_listed s.w s.h s.table.now c.args.room.now; room_after = r.1 }

pub returns : goal.returns
returns c =
    let s = c.args.surface.now in
    let w = c.write_list.ensures in
    let r = all_listed s.w s.h s.table.now c.args.room.now c.write_list.result w.entries_value w.corners_value (sym c.short.ensures ∙ c.if-short.false) in
    record { result_value = r.0; number = ap listing_number r.0 ∙ number_listed s.w s.h s.table.now c.args.room.now; room_after = w.room_after ∙ r.1 }
