use mathlib.Core.Path.{sym, ap}
use mathlib.Core.Bool.{false}
use Prim.Native.Nat.{◌≤◌, ◌*◌}
use native.Mathlib.Omega.{arith}
use lib.IntN.{pos}
use lib.Seq.{length-take-le}
use lib.ListN.{length, length-replicate}
use Rattle.rules.specs.Surface.{slots, used_slot, used_slots}
use Rattle.rules.proofs.Tests.{count_le}
use Rattle.meaning.proofs.Codes.{Good, good}
use Rattle.surface.specs.Slots.{table_stands}
use Rattle.surface.proofs.SlotLaws.{gathered_part}
use Rattle.surface.proofs.MarkLaws.{take_none}
use Rattle.surface.proofs.RowLaws.{counted_fresh}
use Rattle.surface.proofs.ExamineLaws.{stands_is, no_code}
use Rattle.surface.proofs.examine.work_out_on.Goals as goal
use Rattle.surface.proofs.examine.work_out_on.Goals.{Start, After-gather-n}

-- sizes and the table's length are right
right : (s : Start) → Good false s.args.w s.args.h (length s.args.t.now)
right s = good false s.args.w s.args.h (length s.args.t.now) s.requires.0

pub gather-n-requires : goal.gather-n-requires
gather-n-requires c = omega (arith, (right (goal.at.gather-n-requires c).Start).few, c.requires.2)

-- the used slots have room in the two buffers
room : (c : After-gather-n) → (c.gather-n.result ≤ length c.gather-n.new.used) × (c.gather-n.result ≤ length c.args.ids.now)
room c =
    let n = c.gather-n.ensures.many in
    let k = count_le (slots c.args.t.now) (used_slot c.args.t.now) in
    let d = good false c.args.w c.args.h (length c.args.t.now) c.requires.0 in
    (omega (arith, n, k, d.few, c.requires.2, c.gather-n.auto.used), omega (arith, n, k, d.few, c.requires.3))

pub slice_bounds-take_all-end : goal.slice_bounds-take_all-end
slice_bounds-take_all-end c = (room (goal.at.slice_bounds-take_all-end c).After-gather-n).0

pub slice_bounds-take_all-end-2 : goal.slice_bounds-take_all-end-2
slice_bounds-take_all-end-2 c = sym (length-take-le _ _ (room (goal.at.slice_bounds-take_all-end-2 c).After-gather-n).0)

pub take_all-requires : goal.take_all-requires
take_all-requires c =
    let a = c.args in
    let d = right (goal.at.take_all-requires c).Start in
    let k = room (goal.at.take_all-requires c).After-gather-n in
    (d.sides.wide, d.sides.widest, gathered_part a.t.now _ _ _ c.gather-n.ensures k.0, omega (arith, length-take-le _ c.gather-n.new.used k.0, k.1), take_none a.w a.h a.t.now a.ids.now a.m.now c.requires.1)

pub count_rows-requires : goal.count_rows-requires
count_rows-requires c =
    let d = right (goal.at.count_rows-requires c).Start in
    (d.sides.high, d.sides.highest, d.sides.widest, omega (arith, ap length c.requires.1, length-replicate (c.args.w * c.args.h) (pos 1), c.take_all.auto.m))

pub returns : goal.returns
unfolding used_slots
returns c =
    let a = c.args in
    let k = c.in_ok-take_all.ensures in
    record {
      answer = stands_is (table_stands a.w a.h a.t.now) a.t.now _ (no_code _ k.code) c.gather-n.ensures.many;
      weights = λ q. counted_fresh a.w a.h _ _ a.t.now k.marked (right (goal.at.returns c).Start).sides.wide c.count_rows.ensures;
    }
