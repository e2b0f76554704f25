-- `freelist::run` meets its contract. Assumes nothing.
use mathlib.Core.Path.{refl, sym}
use Prim.Native.Nat.{◌*◌, ◌/◌}
use native.Mathlib.Omega.{arith}
use Rattle.stream.specs.Records.{first_kept}
use Rattle.stream.proofs.Laws.{held}
use Rattle.stream.proofs.Input.{so_far_none, so_far_more}
use Rattle.freelist.proofs.run.Goals as goal

pub loop-init : goal.loop-init
loop-init g c = (omega arith, so_far_none (held first_kept _ _ _ _ (sym c.new-memory.ensures)))

pub loop-preserved : goal.loop-preserved
loop-preserved g c =
    let l = c.loop in
    let r = c.read_on-n in
    let y = c.carry-held in (
      omega (arith, y.ensures.0),
      so_far_more l.held r.result (8 * (r.result / 8)) y.result l.piece _ _ l.invariant.1 r.ensures.0 r.ensures.1 r.ensures.2 refl c.serve_piece.ensures.holds y.ensures.0 y.ensures.1,
    )
