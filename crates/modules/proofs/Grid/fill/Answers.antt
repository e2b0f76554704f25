-- `Grid::fill` meets its contract. The invariant is the promise itself, as far as the loop has come. Assumes nothing.
use native.Mathlib.Omega.{arith}
use borrow.Author.Rules.{rules}
use Rattle.modules.proofs.Walks.{fill_more}
use Rattle.modules.proofs.Grid.fill.Goals as goal

pub loop-r-preserved : goal.loop-r-preserved
loop-r-preserved c = (search rules, fill_more (omega arith) c.loop-r.invariant.1 (omega arith) c.number.ensures.value c.number.ensures.inside)
