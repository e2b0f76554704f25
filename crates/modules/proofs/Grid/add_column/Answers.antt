-- `Grid::add_column` meets its contract: the law `column_added` at what the two calls promise. Assumes nothing.
use borrow.Author.Rules.{rules}
use Rattle.modules.proofs.Walks.{column_added}
use Rattle.modules.proofs.Grid.add_column.Goals as goal

pub returns-clause-added : goal.returns-clause-added
returns-clause-added c =
    let k = c.fill.ensures.kept in
    column_added c.requires.in_column.1 c.requires.tall c.requires.numbered.0 (search rules) c.fill.ensures.filled (rw (k.w, k.h) at c.recount.ensures.recounted)
