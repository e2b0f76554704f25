use lib.IntN.{pos}
use lib.ListN.{get_or}
use Rattle.surface.specs.Rows.{RowWritten, counted_on}
use Rattle.surface.proofs.rows.next_row.Given as goal

abbrev pub invariant-loop-x : goal.invariant-loop-x
invariant-loop-x l = RowWritten l.initial.row l.row 0 l.x (λ x. counted_on (get_or l.initial.row x (pos 0)) (get_or l.above x (pos 0)))
