-- `listing::heights::height_at` meets its contract. Assumes nothing.
use mathlib.Core.Path.{◌≡◌, sym, ap, ◌∙◌, subst}
use native.Mathlib.Omega.{arith}
use lib.Dec.{T}
use lib.IntN.{ℤ, pos, nat_abs}
use lib.Signed.{non_neg}
use mir.Syntax.{w8, w16}
use mir.Val.{Fits, to_z, of_z}
use Rattle.std.specs.Int.{int_max}
use Rattle.rules.specs.Surface.{occupied}
use Rattle.listing.specs.Listed.{height_of}
use Rattle.listing.proofs.Cells.{read_back, height_low, height_is}
use Rattle.listing.proofs.heights.height_at.Goals as goal
use Rattle.listing.proofs.heights.height_at.Goals.{After-max}

-- the number that is cast is the height
read : (c : After-max) → let s = c.args.surface.now in to_z w16 (of_z w16 c.max.result) ≡ pos (height_of (occupied s.table.now) s.w c.args.y c.args.x)
read c =
    read_back c.max.type_inv c.max.ensures.value ∙ ap (λ a. int_max a (pos 0)) (read_back c.weight.type_inv c.weight.ensures)
    ∙ height_is _ _ _ _ c.args.surface.now.standing _ _ c.requires.x_lt_w c.requires.y_lt_h

pub returns : goal.returns
returns c = ap nat_abs (read c)

pub overflow_cast-result : goal.overflow_cast-result
overflow_cast-result c =
    let s = c.args.surface.now in
    subst (λ (z : ℤ). T (non_neg z) × Fits w8 (nat_abs z)) (sym (read c)) (tt, omega (arith, height_low (occupied s.table.now) s.w c.args.y c.args.x, s.standing.sides.highest, c.requires.y_lt_h))
