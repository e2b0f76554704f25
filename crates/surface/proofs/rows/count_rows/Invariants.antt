use Rattle.surface.specs.Rows.{CountedTo}
use Rattle.surface.proofs.rows.count_rows.Given as goal

abbrev pub invariant-loop-y : goal.invariant-loop-y
invariant-loop-y l = CountedTo l.w l.fn.m l.m l.y
