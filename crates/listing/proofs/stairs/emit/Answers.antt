-- `listing::stairs::emit` meets its contract. Assumes nothing.
use native.Mathlib.Omega.{arith}
use Rattle.listing.proofs.Cuts.{emit_start, emit_low, emit_unheld, emit_put}
use Rattle.listing.proofs.stairs.emit.Goals as goal
use Rattle.listing.proofs.stairs.emit.Goals.{then-stair-end+then-height-stair, else-stair-end, else-stair-end-via-then-stair-end+else-height-stair, else-stair-end-via-else-stair-end}

pub loop-stair-init : goal.loop-stair-init
loop-stair-init c = emit_start _ _ _ _ _ _

pub loop-stair-preserved : goal.loop-stair-preserved
loop-stair-preserved c =
    let h = c.loop-stair.invariant in
    let p = c.loop-stair-test.true in
    elim c.if-stair-end.branch [
      | then-stair-end+then-height-stair w ↦ rw (w.entries-is, w.m-is) (emit_put h p w.if-height-stair.true w.if-stair-end.true (omega (arith, h.few)))
      | else-stair-end w ↦ rw (w.entries-is, w.m-is) (elim w.else-stair-end.branch [
        | else-stair-end-via-then-stair-end+else-height-stair v ↦ emit_low h p v.if-height-stair.false
        | else-stair-end-via-else-stair-end v ↦ emit_unheld h p v.if-stair-end.false
      ])
    ]
