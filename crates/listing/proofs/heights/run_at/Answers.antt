-- `listing::heights::run_at` meets its contract. Assumes nothing.
use mathlib.Core.Path.{ap, ◌∙◌}
use Rattle.cells.specs.Weight.{width_of}
use Rattle.listing.proofs.Cells.{read_back, width_strides}
use Rattle.listing.proofs.heights.run_at.Goals as goal

pub returns : goal.returns
returns c =
    width_strides _ _ _ _ c.args.surface.now.standing _ _ c.requires.x_lt_w c.requires.y_lt_h c.requires.taken _
    (c.width_of.ensures ∙ ap width_of (read_back c.weight.type_inv c.weight.ensures))
