use Rattle.std.proofs.Common.{◌≡◌, ℕ, ◌*◌, ◌-◌, ◌≤◌, length}
use Rattle.rules.specs.Blocks.{requests}
use Rattle.requests.specs.SurfaceMut.{Kept}
use Rattle.requests.proofs.Turns.{RanTo}
use Rattle.requests.proofs.run.run_on.Given as goal

-- the reader stands before request k, and the first k are run
abbrev pub invariant-loop-r : goal.invariant-loop-r
invariant-loop-r l =
    (l.r.block.now ≡ l.q) × (k : ℕ) × (l.r.at ≡ 8 * k) × (k ≤ requests l.q) × Kept l.initial.surface l.surface × RanTo l.w l.h l.initial.surface.weights.now l.initial.surface.table.now l.q l.initial.a k l.surface.weights.now l.surface.table.now l.a l.done

abbrev pub decreases-loop-r : goal.decreases-loop-r
decreases-loop-r l = length l.q - l.r.at
