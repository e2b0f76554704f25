use mathlib.Core.Path.{◌≡◌}
use mathlib.Core.Bool.{true}
use Prim.Native.Nat.{ℕ, ◌+◌, ◌<◌}
use Rattle.rules.specs.Tests.{every}
use Rattle.cells.proofs.Laws.{open_at, open_row}
use Rattle.cells.proofs.none_taken.Given as goal

abbrev pub invariant-loop-i : goal.invariant-loop-i
invariant-loop-i l = (l.free ≡ every l.j (open_row l.w l.s l.r.x l.r.y l.r.w)) × ((k : ℕ) → k < l.i → open_at l.w l.s (l.r.x + k) (l.r.y + l.j) ≡ true)

abbrev pub invariant-rows : goal.invariant-rows
invariant-rows l = l.free ≡ every l.j (open_row l.w l.s l.r.x l.r.y l.r.w)
