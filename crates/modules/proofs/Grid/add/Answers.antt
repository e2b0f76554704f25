-- `Grid::add` meets its contract. The invariant says which columns are done, by the law `add_all` at the end all of the module. Assumes nothing.
use native.Mathlib.Omega.{arith}
use Rattle.rules.specs.Surface.{number}
use Rattle.modules.proofs.Plane.{add_all}
use Rattle.modules.proofs.Grid.add.Goals as goal

pub returns-clause-added : goal.returns-clause-added
unfolding number
returns-clause-added c i =
    let k = c.loop-c.invariant.0 in
    rw (← k.w, ← k.h) (add_all c.loop-c.invariant.1 (omega arith))
