-- `listing::list::short` meets its contract. Assumes nothing.
use mathlib.Core.Path.{sym, ap, ◌∙◌}
use Prim.Native.Nat.{◌*◌}
use native.Mathlib.Omega.{arith}
use lib.Dec.{ltb}
use borrow.Author.Tests.{le-ltb}
use Rattle.rules.specs.Surface.{occupied}
use Rattle.meaning.proofs.Bound.{entries_few}
use Rattle.listing.proofs.Counted.{found_none, found_more, found_skip, found_all}
use Rattle.listing.proofs.list.short.Goals as goal
use Rattle.listing.proofs.list.short.Goals.{then-scans-y, else-scans-y}

pub returns-then-surface-n : goal.returns-then-surface-n
returns-then-surface-n c = let s = c.args.surface.now in
    sym (le-ltb c.args.n _ (omega (arith, entries_few (occupied s.table.now) s.w s.h, c.if-surface-n.true)))

pub loop-y-init : goal.loop-y-init
loop-y-init c = found_none _ _ _

pub loop-y-preserved : goal.loop-y-preserved
loop-y-preserved c =
    let i = c.loop-y.invariant in
    let h = c.loop-y-test.true in
    let wide = c.args.surface.now.standing.sides.widest in
    elim c.if-scans-y.branch [
      | then-scans-y w ↦ rw w.found-is (let n = w.row-found.ensures.entries_value in found_more _ _ _ _ _ _ i wide h n.0 n.1)
      | else-scans-y w ↦ rw w.found-is (found_skip _ _ _ _ _ i h (sym (c.requires.marks _ h) ∙ w.if-scans-y.false))
    ]

pub returns : goal.returns
returns c = ap (λ k. ltb c.args.n (8 * k)) (found_all _ _ _ _ _ c.loop-y.invariant c.loop-y-test.false)
