use mathlib.Core.Path.{◌≡◌, sym, ◌∙◌}
use mathlib.Core.Bool.{Bool, true, false}
use lib.IntN.{pos}
use lib.Signed.{lt_z}
use mir.Syntax.{w16}
use mir.Val.{to_z, of_z}
use mir.ValLaws.{to_z-of_z}
use Rattle.cells.specs.Weight.{taken_z}
use Rattle.cells.proofs.Laws.{plain, taken_test}
use Rattle.surface.proofs.rows.pick.Goals as goal
use Rattle.surface.proofs.rows.pick.Goals.{Start}

-- the test's flag, said of the mark
told : (s : Start) (b : Bool) → lt_z (to_z w16 (of_z w16 s.args.m)) (pos 0) ≡ b → taken_z s.args.m ≡ b
told s b e = sym (taken_test s.args.m) ∙ plain w16 (λ z. lt_z z (pos 0) ≡ b) s.ranges.m e

pub returns-then-m-lt0 : goal.returns-then-m-lt0
returns-then-m-lt0 c = to_z-of_z w16 c.args.m c.ranges.m ∙ rw (told (goal.at.returns-then-m-lt0 c).Start true c.if-m-lt0.true)

pub returns-else-m-lt0 : goal.returns-else-m-lt0
returns-else-m-lt0 c = to_z-of_z w16 c.args.c c.ranges.c ∙ rw (told (goal.at.returns-else-m-lt0 c).Start false c.if-m-lt0.false)
