-- `listing::heights::held_at` meets its contract. Assumes nothing.
use mathlib.Core.Path.{ap, ◌∙◌}
use Prim.Native.Nat.{suc, ◌+◌, ◌<◌}
use native.Mathlib.Numerals.{add-one}
use native.Mathlib.Omega.{arith}
use lib.IntN.{pos}
use lib.Signed.{lt_z}
use borrow.Author.Tests.{lt-ltb}
use Rattle.listing.proofs.Cells.{read_back, below_is}
use Rattle.listing.proofs.heights.held_at.Goals as goal

pub returns-else-y-surface : goal.returns-else-y-surface
returns-else-y-surface c =
    let s = c.args.surface.now in
    let below : suc c.args.y < s.h = omega arith in
    ap (λ z. lt_z z (pos 0)) (read_back c.weight.type_inv c.weight.ensures)
    ∙ below_is _ _ _ _ s.standing c.args.x (c.args.y + 1) c.requires.x_lt_w (omega arith)
    ∙ rw (lt-ltb (suc c.args.y) s.h below, add-one)
