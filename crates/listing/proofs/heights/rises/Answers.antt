-- `listing::heights::rises` meets its contract. Assumes nothing.
use mathlib.Core.Path.{refl, ap₂, ◌∙◌}
use native.Mathlib.Omega.{arith}
use lib.IntN.{pos}
use lib.Signed.{lt_z}
use Rattle.listing.proofs.Cells.{read_back, rises_is}
use Rattle.listing.proofs.heights.rises.Goals as goal

pub returns : goal.returns
returns c =
    ap₂ lt_z (read_back {z = pos c.args.height} (omega arith) refl) (read_back c.weight.type_inv c.weight.ensures)
    ∙ rises_is _ _ _ _ c.args.surface.now.standing _ _ c.requires.x_lt_w c.requires.y_lt_h c.args.height
