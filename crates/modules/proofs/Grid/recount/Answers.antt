-- `Grid::recount` meets its contract. The invariant is `Counting`; the walk ends at the edge or at an occupied cell. Assumes nothing.
use native.Mathlib.Omega.{arith}
use borrow.Author.Rules.{rules}
use Rattle.modules.proofs.Walks.{count_more, count_taken}
use Rattle.modules.proofs.Grid.recount.Goals as goal

pub returns-then-is_taken-clause-recounted : goal.returns-then-is_taken-clause-recounted
returns-then-is_taken-clause-recounted c =
    let l = c.loop-r in
    let k = l.invariant.0 in
    rw (← k.w, ← k.h) (count_taken l.invariant.1 l.auto.r (omega arith) c.number-i.ensures.value (search rules))

pub loop-r-preserved : goal.loop-r-preserved
loop-r-preserved c =
    let l = c.loop-r in
    let i = c.number-i.ensures in
    (search rules, count_more l.invariant.1 l.auto.r (omega arith) (omega arith) i.value i.inside (search rules) (search rules))
