-- The test of a place: row after row, and in each column after column, as far as no cell is occupied. Assumes nothing.
use mathlib.Core.Path.{◌≡◌, refl, sym, ap, ◌∙◌}
use Prim.Native.Nat.{◌+◌}
use native.Mathlib.Omega.{arith}
use borrow.Author.Rules.{rules}
use Rattle.rules.specs.Tests.{every}
use Rattle.rules.specs.Surface.{cell}
use Rattle.rules.proofs.Tests.{every_yes}
use Rattle.cells.specs.Weight.{untaken}
use Rattle.cells.proofs.Laws.{open_at, open_row, taken_one, taken_back, every_hit}
use Rattle.cells.proofs.none_taken.Goals as goal

pub rows-init : goal.rows-init
unfolding every
rows-init c = refl

pub rows-preserved : goal.rows-preserved
rows-preserved c =
    let a = c.args in
    let row = open_row a.w a.s.now a.r.x a.r.y a.r.w in
    c.loop-i.invariant.0 ∙ sym (every_hit c.rows.j row (every_yes a.r.w (λ i. open_at a.w a.s.now (a.r.x + i) (a.r.y + c.rows.j)) (λ k h. c.loop-i.invariant.1 k (omega arith))))

pub returns-after-rows : goal.returns-after-rows
unfolding untaken
returns-after-rows c =
    let a = c.args in
    let e : c.rows.j ≡ a.r.h = omega arith in
    c.rows.invariant ∙ ap (λ n. every n (open_row a.w a.s.now a.r.x a.r.y a.r.w)) e

pub returns-then-is_taken : goal.returns-then-is_taken
returns-then-is_taken c = let a = c.args in let r = a.r in
    sym (taken_one a.w a.s.now r.x r.y r.w r.h c.loop-i.i c.rows.j (omega arith) (omega arith) (taken_back (cell a.w a.s.now (r.x + c.loop-i.i) (r.y + c.rows.j)) (search rules) c.if-is_taken.ensures))
