-- `listing::heights::settle` meets its contract. Assumes nothing.
use mathlib.Core.Path.{◌≡◌, sym, ap, ◌∙◌}
use mathlib.Core.Bool.{true, false}
use Prim.Native.Nat.{◌-◌, ◌+◌}
use native.Mathlib.Omega.{arith}
use Rattle.rules.specs.Surface.{occupied}
use Rattle.listing.specs.Row.{reach}
use Rattle.listing.specs.Listed.{support}
use Rattle.listing.proofs.Cells.{held_by}
use Rattle.listing.proofs.Walks.{reach_by}
use Rattle.listing.proofs.heights.settle.Goals as goal
use Rattle.listing.proofs.heights.settle.Goals.{After-held_at}

-- the cell looked at has support exactly when it is held
here : (c : After-held_at) → let s = c.args.surface.now in c.held_at.result ≡ support (occupied s.table.now) s.w s.h c.args.y (c.loop-c.c - 1)
here c =
    let s = c.args.surface.now in
    let x = c.loop-c.c - 1 in
    c.held_at.ensures ∙ sym (held_by (occupied s.table.now) s.w c.args.y x s.h (c.requires.empty x (omega arith) (omega arith)))

pub returns-then-held_at : goal.returns-then-held_at
returns-then-held_at c =
    let s = c.args.surface.now in
    let x = c.loop-c.c in
    let q : x - 1 + 1 ≡ x = omega arith in
    q ∙ sym (c.loop-c.invariant.same ∙ reach_by (support (occupied s.table.now) s.w s.h c.args.y) x (omega arith) true (sym (here (goal.at.returns-then-held_at c).After-held_at) ∙ c.if-held_at.true))

pub loop-c-preserved : goal.loop-c-preserved
loop-c-preserved c =
    let s = c.args.surface.now in
    record {
      from = omega arith;
      same = c.loop-c.invariant.same ∙ reach_by (support (occupied s.table.now) s.w s.h c.args.y) c.loop-c.c (omega arith) false (sym (here (goal.at.loop-c-preserved c).After-held_at) ∙ c.if-held_at.false);
    }

pub returns : goal.returns
returns c =
    let s = c.args.surface.now in
    let q : c.args.lo ≡ c.loop-c.c = omega arith in
    c.requires.before_value ∙ ap (reach (support (occupied s.table.now) s.w s.h c.args.y)) q ∙ sym c.loop-c.invariant.same
