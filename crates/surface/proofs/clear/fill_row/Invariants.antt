use Rattle.std.proofs.Common.{◌≡◌, replicate, take}
use Rattle.surface.proofs.clear.fill_row.Given as goal

abbrev pub invariant-loop-cell : goal.invariant-loop-cell
invariant-loop-cell l = take l.cell-index l.row ≡ replicate l.cell-index l.weight
