use mathlib.Core.Path.{sym, ◌∙◌}
use native.Mathlib.Omega.{arith}
use borrow.Author.Tests.{lt-leb, ne_eqb}
use lib.Dec.{eqb}
use lib.ListN.{length, get_or}
use Rattle.rules.proofs.Tests.{none_any}
use Rattle.surface.proofs.slots.known.Goals as goal

pub returns-else-from-top : goal.returns-else-from-top
returns-else-from-top c = let ids = c.args.ids.now in
    lt-leb c.from.result c.args.top (omega arith)
    ∙ sym (none_any (length ids) (λ k. eqb (get_or ids k 0) c.args.id) (λ k h. ne_eqb _ c.args.id (λ e. omega (arith, c.requires k h, c.from.ensures))))
