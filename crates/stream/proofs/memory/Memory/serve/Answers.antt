-- `stream::memory::Memory::serve` meets its contract. Assumes nothing.
use mathlib.Core.Path.{refl}
use Prim.Native.Nat.{◌+◌, ◌*◌, ◌≤◌}
use native.Mathlib.Omega.{arith}
use lib.ListN.{length}
use Rattle.stream.proofs.Blocks.{from_fits, lent_part}
use Rattle.stream.proofs.Turns.{none_served, more_served}
use Rattle.stream.proofs.memory.Memory.serve.Goals as goal
use Rattle.stream.proofs.memory.Memory.serve.Goals.{After-together-m}

pub loop-k-init : goal.loop-k-init
loop-k-init c = (omega arith, none_served _ _ _ _ _ _ c.args.self.now.ready)

-- what the records of a turn take
fits : (c : After-together-m) → 8 * c.loop-k.k + 8 * c.together-m.result ≤ length c.args.q.now
fits c = from_fits c.args.q.now c.loop-k.k c.together-m.result (omega (arith, c.loop-k-test.true)) c.together-m.ensures.1

pub serve_together-requires : goal.serve_together-requires
serve_together-requires c =
    let f = fits (goal.at.serve_together-requires c).After-together-m in
    let e = c.together-m.ensures in
    lent_part c.args.q.now c.loop-k.a c.loop-k.k c.together-m.result _ e.0 (omega (arith, f)) f (omega (arith, f)) e.2

pub loop-k-preserved : goal.loop-k-preserved
loop-k-preserved c =
    let f = fits (goal.at.loop-k-preserved c).After-together-m in (
      omega (arith, f),
      more_served _ _ _ c.loop-k.k c.together-m.result _ _ _ _ c.loop-k.a _ _ _ _ _ c.serve_together.new.a f c.loop-k.invariant.1 c.serve_together.ensures refl,
    )
