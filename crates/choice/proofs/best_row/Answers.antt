-- `choice::best_row` meets its contract. Assumes nothing.
use mathlib.Core.Path.{refl, sym, ap, ap₂, ◌∙◌}
use mathlib.Core.List.{map}
use native.Mathlib.Omega.{arith}
use lib.ListN.{get_or, take}
use Rattle.std.proofs.lemmas.List.{take_all}
use Rattle.rules.specs.Surface.{occupied}
use Rattle.listing.specs.Listed.{no_entry, Drawn, entry_rect, rects_in}
use Rattle.listing.proofs.ListLaws.{all_drawn}
use Rattle.choice.specs.Best.{better, best_of}
use Rattle.choice.proofs.Walk.{best_more}
use Rattle.choice.proofs.Room.{best_unfit}
use Rattle.choice.proofs.best_row.Goals as goal
use Rattle.choice.proofs.best_row.Goals.{In-loop-entry}

pub returns-then-not-row_has_room : goal.returns-then-not-row_has_room
returns-then-not-row_has_room c = best_unfit _ _ _ _ _ (c.row_has_room.ensures c.if-not-row_has_room.true)

pub loop-entry-init : goal.loop-entry-init
unfolding best_of
loop-entry-init c = refl

-- the entry that the walk has come to
drawn : (c : In-loop-entry) → Drawn c.args.y (get_or (take c.row-n.result.entries c.row-n.new.entries) c.loop-entry.entry-index no_entry)
drawn c =
    let s = c.args.surface.now in
    all_drawn (occupied s.table.now) s.w s.h c.args.y _ c.requires.y_lt_h s.standing.sides.widest s.standing.sides.highest c.row-n.ensures.entries_after _ c.loop-entry-test.true

pub rect_of-requires : goal.rect_of-requires
rect_of-requires c = drawn (goal.at.rect_of-requires c).In-loop-entry

pub better_of-best-requires : goal.better_of-best-requires
better_of-best-requires c =
    let d = drawn (goal.at.better_of-best-requires c).In-loop-entry in
    rw c.rect_of.ensures (omega (arith, d.order, d.inside), omega (arith, d.top, c.requires.y_lt_h))

pub loop-entry-preserved : goal.loop-entry-preserved
loop-entry-preserved c =
    let s = c.args.surface.now in
    c.better_of-best.ensures
    ∙ ap₂ (better s.w s.h c.args.wanted) c.loop-entry.invariant c.rect_of.ensures
    ∙ sym (best_more s.w s.h c.args.wanted c.args.best c.args.y c.loop-entry.entry-index _ c.loop-entry-test.true)

pub returns : goal.returns
unfolding rects_in
returns c =
    let s = c.args.surface.now in
    c.loop-entry.invariant ∙ ap (λ l. best_of s.w s.h c.args.wanted c.args.best (map (entry_rect c.args.y) l)) (take_all _ _ c.loop-entry-test.false ∙ c.row-n.ensures.entries_after)
