use mathlib.Core.Bool.{not}
use mathlib.Core.Path.{sym, ap, ◌∙◌}
use Prim.Native.Nat.{◌<◌}
use native.Mathlib.Omega.{arith}
use lib.ListN.{length}
use Rattle.rules.specs.Surface.{used_slot}
use Rattle.rules.proofs.Tests.{count_le}
use Rattle.surface.proofs.SlotLaws.{gather_none, gather_hit, gather_miss}
use Rattle.surface.proofs.slots.gather.Goals as goal
use Rattle.surface.proofs.slots.gather.Goals.{In-loop-i, then-not-slot_free, else-not-slot_free}

pub loop-i-init : goal.loop-i-init
loop-i-init c = gather_none _ _

-- no more are used than there are, so there is room for one more
room : (c : In-loop-i) → c.loop-i.n < length c.loop-i.used
room c = omega (arith, c.loop-i.invariant.many, count_le c.loop-i.i (used_slot c.args.t.now))

pub bounds-used-n : goal.bounds-used-n
bounds-used-n c = room (goal.at.bounds-used-n c).In-loop-i

pub overflow_add-n : goal.overflow_add-n
overflow_add-n c = omega (arith, room (goal.at.overflow_add-n c).In-loop-i)

pub loop-i-preserved : goal.loop-i-preserved
loop-i-preserved c =
    let l = c.loop-i in
    let t = c.args.t.now in
    elim c.if-not-slot_free.branch [
      | then-not-slot_free w ↦ gather_hit t l.used l.i l.n l.invariant (ap not (sym c.slot_free.ensures ∙ w.if-not-slot_free.true)) (room (goal.at.loop-i-preserved c).In-loop-i) _ _ w.used-is w.n-is
      | else-not-slot_free w ↦ gather_miss t l.used l.i l.n l.invariant (ap not (sym c.slot_free.ensures ∙ w.if-not-slot_free.false)) _ _ w.used-is w.n-is
    ]
