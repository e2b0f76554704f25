-- `Grid::remove` meets its contract. A column that is still to come has its count above the module still. Assumes nothing.
use mathlib.Core.Logic.{inr}
use native.Mathlib.Omega.{arith}
use borrow.Author.Rules.{rules}
use Rattle.modules.proofs.Plane.{walk_more, remove_all, above_same}
use Rattle.modules.proofs.Grid.remove.Goals as goal

pub remove_column-requires-clause-shallow : goal.remove_column-requires-clause-shallow
remove_column-requires-clause-shallow c =
    let l = c.loop-c in
    let k = l.invariant.0 in
    above_same _ _ _ _ _ (λ r. l.invariant.1.rest l.c r (omega arith) (inr (omega arith))) (rw k.w (c.requires.shallow l.c (omega arith)))

pub loop-c-preserved : goal.loop-c-preserved
loop-c-preserved c =
    let d = c.remove_column.ensures in
    (search rules, rw (d.kept.w, d.kept.h) (walk_more c.loop-c.invariant.1 (omega arith) (omega arith) d.removed.only (λ p. d.removed.told p.0 p.1)))

pub returns-clause-removed : goal.returns-clause-removed
returns-clause-removed c =
    let k = c.loop-c.invariant.0 in
    rw (← k.w, ← k.h) (remove_all c.loop-c.invariant.1 (omega arith))
