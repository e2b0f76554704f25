-- `Grid::remove_column` meets its contract: the law `column_removed` at what the three calls promise. Assumes nothing.
use Rattle.modules.proofs.Walks.{column_removed}
use Rattle.modules.proofs.Grid.remove_column.Goals as goal

pub returns-clause-removed : goal.returns-clause-removed
returns-clause-removed c =
    let k = c.fill.ensures.kept in
    column_removed c.requires.in_column.1 c.fill.ensures.filled c.run_above-k.ensures (rw (k.w, k.h) at c.recount.ensures.recounted)
