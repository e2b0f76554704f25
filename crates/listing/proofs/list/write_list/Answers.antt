-- `listing::list::write_list` meets its contract. Assumes nothing.
use mathlib.Core.Path.{sym, ap, ◌∙◌}
use Prim.Native.Nat.{◌+◌, ◌*◌}
use native.Mathlib.Omega.{arith}
use Rattle.std.proofs.lemmas.List.{length-take-le}
use Rattle.rules.specs.Surface.{occupied}
use Rattle.listing.specs.Listed.{height_of, written}
use Rattle.listing.proofs.ListLaws.{all_drawn, unscanned_rects}
use Rattle.listing.proofs.Corners.{turns_le}
use Rattle.listing.proofs.Counted.{turned_none, turned_more, turned_skip, turned_all}
use Rattle.listing.proofs.Written.{row_records, row_bytes, wrote_none, wrote_fits, wrote_more, wrote_skip, wrote_all, wrote_count}
use Rattle.listing.proofs.list.write_list.Goals as goal
use Rattle.listing.proofs.list.write_list.Goals.{then-scans-y, else-scans-y}

pub loop-y-init : goal.loop-y-init
loop-y-init c = record { wrote = wrote_none _ _ _ _ c.requires.in_bounds; turned = turned_none _ _ _; few = omega arith }

pub write_row-requires-clause-drawn : goal.write_row-requires-clause-drawn
write_row-requires-clause-drawn c =
    let s = c.args.surface.now in
    all_drawn (occupied s.table.now) s.w s.h c.loop-y.y _ c.loop-y-test.true s.standing.sides.widest s.standing.sides.highest c.row-here.ensures.entries_after

pub write_row-requires-clause-in_bounds : goal.write_row-requires-clause-in_bounds
write_row-requires-clause-in_bounds c =
    let s = c.args.surface.now in
    let n = c.row-here.result.entries in
    let e = c.row-here.ensures.entries_value in
    let long = length-take-le n c.row-here.new.entries (omega (arith, e.1, s.standing.sides.widest)) in
    omega (arith, long, row_bytes (occupied s.table.now) s.w s.h c.loop-y.y n e.0, wrote_fits _ _ _ _ c.requires.in_bounds _ _ _ c.loop-y.invariant.wrote c.loop-y-test.true)

pub overflow_add-turned : goal.overflow_add-turned
overflow_add-turned c =
    let s = c.args.surface.now in
    omega (arith, c.row-here.ensures.corners_value, turns_le (height_of (occupied s.table.now) s.w c.loop-y.y) (s.w + 1), c.loop-y.invariant.turned.few, c.loop-y-test.true)

pub loop-y-preserved : goal.loop-y-preserved
loop-y-preserved c =
    let s = c.args.surface.now in
    let occ = occupied s.table.now in
    let y = c.loop-y.y in
    let i = c.loop-y.invariant in
    let h = c.loop-y-test.true in
    let wide = s.standing.sides.widest in
    let fits = c.requires.in_bounds in
    elim c.if-scans-y.branch [
      | then-scans-y w ↦ rw (w.room-is, w.found-is, w.turned-is) (let r = w.row-here.ensures in record {
        wrote = wrote_more _ _ _ _ fits _ _ _ _ _ i.wrote h (omega (arith, row_bytes occ s.w s.h y _ r.entries_value.0))
            (w.write_row.ensures ∙ ap (λ t. written (8 * c.loop-y.found) t c.loop-y.room) (row_records occ s.w s.h y _ r.entries_after));
        turned = turned_more _ _ _ _ _ _ i.turned wide (sym (c.requires.scans.marks y h) ∙ w.if-scans-y.true) r.corners_value;
        few = omega (arith, i.few, r.entries_value.1);
      })
      | else-scans-y w ↦ rw (w.room-is, w.found-is, w.turned-is) (let bare = sym (c.requires.scans.marks y h) ∙ w.if-scans-y.false in record {
        wrote = wrote_skip _ _ _ _ fits _ _ _ i.wrote h (unscanned_rects _ s.w _ _ h bare);
        turned = turned_skip _ _ _ _ _ i.turned wide bare;
        few = omega (arith, i.few);
      })
    ]

pub returns-clause-room_after : goal.returns-clause-room_after
returns-clause-room_after c = wrote_all _ _ _ _ c.requires.in_bounds _ _ _ c.loop-y.invariant.wrote c.loop-y-test.false

pub returns-clause-entries_value : goal.returns-clause-entries_value
returns-clause-entries_value c = wrote_count _ _ _ _ c.requires.in_bounds _ _ _ c.loop-y.invariant.wrote c.loop-y-test.false

pub returns-clause-corners_value : goal.returns-clause-corners_value
returns-clause-corners_value c = turned_all _ _ _ _ _ c.loop-y.invariant.turned (omega (arith, c.loop-y.invariant.wrote.upto, c.loop-y-test.false))
