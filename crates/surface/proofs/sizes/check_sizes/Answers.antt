use mathlib.Core.Path.{sym, ◌∙◌}
use Prim.Native.Nat.{◌*◌, ◌≤◌}
use native.Mathlib.Nat.{mul-le-mul}
use native.Mathlib.Omega.{arith}
use Rattle.meaning.proofs.Codes.{area, good_size}
use Rattle.surface.proofs.sizes.check_sizes.Goals as goal
use Rattle.surface.proofs.sizes.check_sizes.Goals.{Else-bad_size}

-- the sizes are right
few : (c : Else-bad_size) → c.args.w * c.args.h ≤ 4096
few c = area _ _ (good_size _ _ (sym c.bad_size.ensures ∙ c.if-bad_size.false))

pub overflow_mul-w : goal.overflow_mul-w
overflow_mul-w c = omega (arith, few (goal.at.overflow_mul-w c).Else-bad_size)

pub overflow_mul-each : goal.overflow_mul-each
overflow_mul-each c =
    let a = c.args in
    let m : a.each * (a.w * a.h) ≤ 2 * 4096 = mul-le-mul c.requires (few (goal.at.overflow_mul-each c).Else-bad_size) in
    omega arith

pub returns-clause-cells : goal.returns-clause-cells
returns-clause-cells c = few (goal.at.returns-clause-cells c).Else-bad_size
