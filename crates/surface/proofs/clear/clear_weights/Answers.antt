use mathlib.Core.Path.{ap, ◌∙◌}
use native.Mathlib.Omega.{arith}
use Rattle.std.proofs.lemmas.Int.{ints}
use lib.ListN.{replicate}
use Rattle.surface.proofs.ClearLaws.{no_rows, row_cleared}
use Rattle.surface.proofs.clear.clear_weights.Goals as goal

pub loop-y-init : goal.loop-y-init
loop-y-init c = no_rows _ _

pub loop-y-preserved : goal.loop-y-preserved
loop-y-preserved c = let l = c.loop-y in let a = c.args in
    row_cleared a.w a.h l.y l.s _ c.loop-y-test.true (omega (arith, c.requires.2)) l.invariant
    (c.fill_row.ensures ∙ ap (replicate _) (omega (arith, ints)))
