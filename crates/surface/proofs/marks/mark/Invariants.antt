use mathlib.Core.Path.{◌≡◌}
use mathlib.Core.Bool.{true}
use Prim.Native.Nat.{ℕ, ◌+◌, ◌*◌, ◌<◌, ◌-◌}
use lib.IntN.{pos, neg_ℤ}
use Rattle.cells.proofs.Laws.{open_at, open_row}
use Rattle.surface.specs.Rows.{RowWritten}
use Rattle.surface.specs.Marks.{Marked}
use Rattle.surface.proofs.marks.mark.Given as goal

-- what the walk marks the cells of column c with: the number of a module there, in whichever slot (`returns`)
abbrev pub given : ℕ → ℕ → ℕ → ℕ
given x mw c = x + mw - c

-- in a row: m₀ is the scratch before it
abbrev pub invariant-loop-i : goal.invariant-loop-i
invariant-loop-i l =
    let r = l.r in
    (l.free ≡ true) × RowWritten l.initial.m l.m ((r.y + l.j) * l.w + r.x) l.i (λ k. neg_ℤ (pos (given r.x r.w (r.x + k)))) × ((k : ℕ) → k < l.i → open_at l.w l.initial.m (r.x + k) (r.y + l.j) ≡ true)

abbrev pub invariant-rows : goal.invariant-rows
invariant-rows l =
    let r = l.r in (l.free ≡ true) × Marked l.w l.initial.m l.m r.x r.y r.w l.j (given r.x r.w) × ((k : ℕ) → k < l.j → open_row l.w l.initial.m r.x r.y r.w k ≡ true)
