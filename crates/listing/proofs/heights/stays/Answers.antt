-- `listing::heights::stays` meets its contract. Assumes nothing.
use mathlib.Core.Path.{ap, ◌∙◌}
use native.Mathlib.Omega.{arith}
use mir.Syntax.{w16}
use lib.IntN.{pos}
use Rattle.rules.specs.Tests.{eq_z}
use Rattle.cells.proofs.Laws.{same_bits}
use Rattle.listing.proofs.Cells.{stays_is}
use Rattle.listing.proofs.heights.stays.Goals as goal

pub returns : goal.returns
returns c =
    same_bits w16 c.weight.result (pos c.args.height) (record { sfits = c.weight.type_inv }) (record { sfits = omega arith })
    ∙ ap (λ z. eq_z z (pos c.args.height)) c.weight.ensures ∙ stays_is _ _ _ _ c.args.surface.now.standing _ _ c.requires.x_lt_w c.requires.y_lt_h c.args.height
