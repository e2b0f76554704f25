-- `stream::memory::Memory::is_apart` meets its contract. Assumes nothing.
use mathlib.Core.Path.{sym, ◌∙◌}
use Rattle.stream.proofs.Laws.{apart_none, apart_some}
use Rattle.stream.proofs.memory.Memory.is_apart.Goals as goal

pub returns-then-is_none : goal.returns-then-is_none
returns-then-is_none c = c.if-is_none.true ∙ sym (apart_none _ _ c.if-is_none.ensures)

pub returns-else-is_none : goal.returns-else-is_none
returns-else-is_none c = apart_some _ _ _ c.if-is_none.ensures c.is_clear.ensures
