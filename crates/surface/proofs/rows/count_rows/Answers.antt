use Prim.Native.Nat.{◌+◌, ◌*◌, ◌≤◌}
use native.Mathlib.Nat.{add-mul}
use native.Mathlib.Omega.{arith}
use lib.ListN.{length}
use Rattle.surface.proofs.RowLaws.{row_end, counted_first, above_long, above_few, counted_next}
use Rattle.surface.proofs.rows.count_rows.Goals as goal
use Rattle.surface.proofs.rows.count_rows.Goals.{In-loop-y}

pub loop-y-init : goal.loop-y-init
loop-y-init c = counted_first _ _ _ (omega (arith, row_end c.args.w c.args.h 0 (omega arith))) c.first_row.ensures

-- the row that is written ends within the surface
ends : (c : In-loop-y) → (c.loop-y.y + 1) * c.args.w ≤ length c.loop-y.m
ends c = omega (arith, add-mul c.loop-y.y 1 c.args.w, row_end c.args.w c.args.h c.loop-y.y c.loop-y-test.true, c.loop-y.invariant.long, c.requires.3)

pub next_row-requires : goal.next_row-requires
next_row-requires c =
    let l = c.loop-y in
    let k = c.split_at_mut-above.ensures in
    let e = ends (goal.at.next_row-requires c).In-loop-y in
    (above_long _ _ _ _ l.auto.y l.invariant e _ _ k.front k.back, λ x h. omega (arith, above_few _ _ _ _ l.auto.y l.invariant e _ _ k.front k.back x h))

pub loop-y-preserved : goal.loop-y-preserved
loop-y-preserved c =
    let l = c.loop-y in
    let k = c.split_at_mut-above.ensures in
    counted_next _ _ _ _ l.auto.y l.invariant (ends (goal.at.loop-y-preserved c).In-loop-y) _ _ k.front k.back _ c.next_row.ensures
