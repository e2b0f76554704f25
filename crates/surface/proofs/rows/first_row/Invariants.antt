use lib.IntN.{pos}
use lib.ListN.{get_or}
use Rattle.surface.specs.Rows.{RowWritten, counted_on}
use Rattle.surface.proofs.rows.first_row.Given as goal

abbrev pub invariant-loop-m : goal.invariant-loop-m
invariant-loop-m l = RowWritten l.initial.row l.row 0 l.m-index (λ x. counted_on (get_or l.initial.row x (pos 0)) (pos 0))
