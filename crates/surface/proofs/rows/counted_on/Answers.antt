use mathlib.Core.Path.{◌≡◌, refl, ap, ap₂, ◌∙◌}
use mathlib.Core.Bool.{cond}
use lib.IntN.{pos, ◌+ℤ◌}
use mir.Syntax.{w16}
use mir.Val.{to_z, of_z}
use mir.ValLaws.{to_z-of_z}
use Rattle.cells.specs.Weight.{taken_z, count_of}
use Rattle.surface.specs.Rows.{counted_on}
use Rattle.surface.proofs.RowLaws.{few_more, one_more}
use Rattle.surface.proofs.rows.counted_on.Goals as goal
use Rattle.surface.proofs.rows.counted_on.Goals.{After-height_of-c}

-- what is counted on
height_is : (c : After-height_of-c) → to_z w16 (of_z w16 c.height_of-c.result) ≡ pos (count_of c.args.a)
height_is c = to_z-of_z w16 _ (record { sfits = c.height_of-c.type_inv }) ∙ c.height_of-c.ensures ∙ ap (λ z. pos (count_of z)) (to_z-of_z w16 c.args.a c.ranges.a)

pub overflow_add-c : goal.overflow_add-c
overflow_add-c c = few_more _ _ (count_of c.args.a) (height_is c) c.requires refl

pub returns : goal.returns
unfolding counted_on
returns c =
    to_z-of_z w16 _ (record { sfits = c.pick.type_inv }) ∙ c.pick.ensures
    ∙ ap₂ (λ m v. cond (taken_z m) m v) (to_z-of_z w16 c.args.m c.ranges.m) (to_z-of_z w16 _ (overflow_add-c c.before) ∙ ap (λ z. z +ℤ pos 1) (height_is (goal.at.returns c).After-height_of-c) ∙ one_more (count_of c.args.a))
