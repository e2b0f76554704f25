-- `listing::row::walk` meets its contract. Assumes nothing.
use mathlib.Core.Path.{◌≡◌, refl, sym, ap, ◌∙◌}
use mathlib.Core.Bool.{not}
use mathlib.Core.Logic.{⊎_elim}
use Prim.Native.Nat.{◌+◌, ◌-◌, ◌≤◌, ◌<◌}
use native.Mathlib.Nat.{le_refl, eq-or-lt_of_le}
use native.Mathlib.Omega.{arith}
use lib.Dec.{ltb}
use lib.ListN.{take, drop}
use borrow.Author.Tests.{ltb-true, ltb-false, eqb-true, not-true}
use Rattle.std.proofs.lemmas.List.{length-take, length-take-le, drop-take}
use Rattle.rules.specs.Surface.{occupied}
use Rattle.rules.proofs.Tests.{and_left, and_right}
use Rattle.listing.specs.Row.{turns}
use Rattle.listing.specs.Listed.{height_of, entries_in}
use Rattle.listing.proofs.Cells.{height_low, height_past, height_taken, unheld, open_high, stays_not}
use Rattle.listing.proofs.Corners.{byte_is, one_or_none}
use Rattle.listing.proofs.Walks.{before_low, room, few, later, rise, cut_above, go_start, go_stay, go_rise, go_skip, go_fall, go_end}
use Rattle.listing.proofs.row.walk.Goals as goal
use Rattle.listing.proofs.row.walk.Goals.{At-loop-x, After-height_at-height, After-height_at-height-else-before-eq0, After-from-2}

pub loop-x-init : goal.loop-x-init
loop-x-init c = record { going = go_start _ _ _ _ _; long = refl }

-- the height before is the height of a cell
low : (c : At-loop-x) → c.loop-x.before ≤ 64
low c =
    let s = c.args.surface.now in
    let f = height_of (occupied s.table.now) s.w c.args.y in
    omega (arith, c.loop-x.invariant.going.last, before_low f 64 (λ k. omega (arith, height_low (occupied s.table.now) s.w c.args.y k, s.standing.sides.highest, c.requires.y_lt_h)) c.loop-x.x)

pub stays-requires-clause-low : goal.stays-requires-clause-low
stays-requires-clause-low c = low (goal.at.stays-requires-clause-low c).At-loop-x

pub rises-requires-clause-low : goal.rises-requires-clause-low
rises-requires-clause-low c = low (goal.at.rises-requires-clause-low c).At-loop-x

-- ---- it stays

pub loop-x-preserved-then-stays : goal.loop-x-preserved-then-stays
loop-x-preserved-then-stays c =
    let s = c.args.surface.now in
    let l = c.loop-x in
    let e = sym c.stays.ensures ∙ c.if-stays.true in
    let empty = and_left (not (occupied s.table.now l.x c.args.y)) _ e in
    record {
      going = go_stay (unheld (occupied s.table.now) s.w s.h c.args.y) l.invariant.going c.loop-x-test.true (eqb-true _ l.before (and_right (not (occupied s.table.now l.x c.args.y)) _ e))
          (open_high s.w s.table.now l.x c.args.y c.loop-x-test.true (not-true _ empty));
      long = l.invariant.long;
    }

-- ---- it rises

-- above the height before
up : (c : After-height_at-height) → c.loop-x.before < c.height_at-height.result
up c = omega (arith, ltb-true c.loop-x.before _ (sym c.rises.ensures ∙ c.if-rises.true), c.height_at-height.ensures)

pub push-n-requires-clause-k_in_bounds : goal.push-n-requires-clause-k_in_bounds
push-n-requires-clause-k_in_bounds c _ = omega (arith, room c.loop-x.invariant.going)

pub push-n-requires-clause-cut_at : goal.push-n-requires-clause-cut_at
push-n-requires-clause-cut_at c = cut_above c.loop-x.invariant.going _ (up (goal.at.push-n-requires-clause-cut_at c).After-height_at-height)

pub loop-x-preserved-then-rises : goal.loop-x-preserved-then-rises
loop-x-preserved-then-rises c =
    let s = c.args.surface.now in
    rw c.from-before.ensures (record {
      going = go_rise (unheld (occupied s.table.now) s.w s.h c.args.y) c.loop-x.invariant.going c.loop-x-test.true _ _ _ c.height_at-height.ensures (up (goal.at.loop-x-preserved-then-rises c).After-height_at-height) (omega arith) c.push-n.ensures.stairs_after;
      long = c.push-n.auto.stairs ∙ c.loop-x.invariant.long;
    })

-- ---- an occupied run goes on

pub loop-x-preserved-then-before-eq0 : goal.loop-x-preserved-then-before-eq0
loop-x-preserved-then-before-eq0 c =
    let s = c.args.surface.now in
    let r = c.run_at-x.ensures in
    record {
      going = go_skip (unheld (occupied s.table.now) s.w s.h c.args.y) c.loop-x.invariant.going c.if-before-eq0.true _ r.one r.inside (λ k p q. height_taken (occupied s.table.now) s.w c.args.y k (r.over k p q));
      long = c.loop-x.invariant.long;
    }

-- ---- it falls

pub cut-k-requires : goal.cut-k-requires
cut-k-requires c = record { rises = rise c.loop-x.invariant.going }

pub offset_bounds-stairs-k : goal.offset_bounds-stairs-k
offset_bounds-stairs-k c = let i = c.loop-x.invariant.going in
    omega (arith, room i, length-take-le _ _ i.stairs_in, c.cut-k.ensures.within, c.args.surface.now.standing.sides.widest)

pub overflow_sub-x : goal.overflow_sub-x
overflow_sub-x c = later c.loop-x.invariant.going c.if-before-eq0.false

pub emit-m-requires : goal.emit-m-requires
emit-m-requires c = let l = c.loop-x in
    omega (arith, room l.invariant.going, length-take (l.n - c.cut-k.result) (drop c.cut-k.result l.stairs))

pub push-n-requires-else-before-eq0-clause-k_in_bounds : goal.push-n-requires-else-before-eq0-clause-k_in_bounds
push-n-requires-else-before-eq0-clause-k_in_bounds c _ = let i = c.loop-x.invariant.going in
    omega (arith, room i, length-take-le _ _ i.stairs_in, c.cut-k.ensures.within)

pub overflow_add-falls : goal.overflow_add-falls
overflow_add-falls c = omega (arith, few c.loop-x.invariant.going)

-- below the height before
down : (c : After-height_at-height-else-before-eq0) → c.height_at-height-else-before-eq0.result < c.loop-x.before
down c =
    let s = c.args.surface.now in
    let x = c.loop-x.x in
    let u = c.loop-x.before in
    let h = height_of (occupied s.table.now) s.w c.args.y x in
    let le : h ≤ u = ltb-false u h (sym c.rises.ensures ∙ c.if-rises.false) in
    ⊎_elim
    (λ (q : h ≡ u).
    let taken = stays_not (occupied s.table.now x c.args.y) h u (sym c.stays.ensures ∙ c.if-stays.false) q in
    absurd (c.if-before-eq0.false (sym q ∙ height_taken (occupied s.table.now) s.w c.args.y x taken)))
    (λ (q : h < u). omega (arith, c.height_at-height-else-before-eq0.ensures))
    (eq-or-lt_of_le le)

pub loop-x-preserved : goal.loop-x-preserved
loop-x-preserved c =
    let s = c.args.surface.now in
    let l = c.loop-x in
    let k = c.cut-k.result in
    let q : k + (l.n - k) ≡ l.n = omega (arith, length-take-le l.n l.stairs l.invariant.going.stairs_in, c.cut-k.ensures.within) in
    let above : take (l.n - k) (drop k l.stairs) ≡ drop k (take l.n l.stairs) = sym (drop-take k (l.n - k) l.stairs) ∙ ap (λ a. drop k (take a l.stairs)) q in
    let push = c.push-n-else-before-eq0 in
    rw c.from-before-else-before-eq0.ensures (record {
      going = go_fall (unheld (occupied s.table.now) s.w s.h c.args.y) l.invariant.going _ k _ _ _ _ _ _ _ _ c.loop-x-test.true c.height_at-height-else-before-eq0.ensures (down (goal.at.loop-x-preserved c).After-height_at-height-else-before-eq0)
          c.cut-k.ensures above refl c.settle-end.ensures (omega (arith, c.emit-m.ensures.in_bounds)) c.emit-m.ensures.entries_after (omega (arith, push.ensures.in_bounds)) push.ensures.stairs_after
          (ap (λ a. l.x + a) (c.from.ensures ∙ byte_is _));
      long = push.auto.stairs ∙ l.invariant.long;
    })

-- ---- past the last column

ended : (c : After-from-2) → let s = c.args.surface.now in
    (take c.emit-m-2.result c.emit-m-2.new.entries ≡ entries_in (occupied s.table.now) s.w s.h c.args.y)
    × (c.loop-x.falls + c.from-2.result ≡ turns (height_of (occupied s.table.now) s.w c.args.y) (s.w + 1))
unfolding entries_in
ended c =
    let s = c.args.surface.now in
    go_end (unheld (occupied s.table.now) s.w s.h c.args.y) c.loop-x.invariant.going c.loop-x-test.false (height_past _ _ _ _ (le_refl _)) _ _ _ _ _ refl refl c.settle-end-2.ensures c.emit-m-2.ensures.entries_after _ (c.from-2.ensures ∙ byte_is _)

pub emit-m-requires-2 : goal.emit-m-requires-2
emit-m-requires-2 c = let l = c.loop-x in
    omega (arith, room l.invariant.going, length-take l.n l.stairs)

pub overflow_add-result : goal.overflow_add-result
overflow_add-result c =
    omega (arith, few c.loop-x.invariant.going, c.from-2.ensures, byte_is (ltb 0 c.loop-x.before), one_or_none (ltb 0 c.loop-x.before))

pub shape_of-stairs : goal.shape_of-stairs
shape_of-stairs c = c.loop-x.invariant.long

pub returns-clause-entries_after : goal.returns-clause-entries_after
returns-clause-entries_after c = (ended c).0

pub returns-clause-corners_value : goal.returns-clause-corners_value
returns-clause-corners_value c = (ended c).1
