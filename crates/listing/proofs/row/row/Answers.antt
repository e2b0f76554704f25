-- `listing::row::row` meets its contract. Assumes nothing.
use mathlib.Core.Path.{◌≡◌, sym, ap, ◌∙◌}
use native.Mathlib.Omega.{arith}
use Rattle.std.proofs.lemmas.List.{length-take-le}
use lib.ListN.{length}
use Rattle.rules.specs.Surface.{occupied}
use Rattle.listing.specs.Listed.{entries_in}
use Rattle.listing.proofs.ListLaws.{row_few}
use Rattle.listing.proofs.row.row.Goals as goal

pub returns-clause-entries_value : goal.returns-clause-entries_value
returns-clause-entries_value c =
    let s = c.args.surface.now in
    let w = c.walk.ensures in
    let long : c.walk.result.entries ≡ length (entries_in (occupied s.table.now) s.w s.h c.args.y) = sym (length-take-le _ c.walk.new.entries (omega (arith, w.in_bounds))) ∙ ap length w.entries_after in
    (long, omega (arith, long, row_few (occupied s.table.now) s.w s.h c.args.y c.requires.y_lt_h))
