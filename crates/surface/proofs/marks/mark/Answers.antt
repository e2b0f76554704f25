-- The cells of a module, looked at and marked in one walk, as far as none is taken. Assumes nothing.
use mathlib.Core.Path.{◌≡◌, refl, sym, ap, ◌∙◌, subst}
use mathlib.Core.Bool.{not, false≢true}
use Prim.Native.Nat.{ℕ, ◌+◌, ◌*◌, ◌≤◌, ◌<◌, ◌-◌}
use native.Mathlib.Nat.{le_refl}
use native.Mathlib.Omega.{arith}
use borrow.Author.Count.{below_none, below_more}
use lib.ListN.{length, set}
use lib.IntN.{ℤ, pos, neg_ℤ}
use mir.Syntax.{w16}
use mir.Val.{SFits}
use mir.ValLaws.{to_z-of_z}
use borrow.Author.Rules.{rules}
use Rattle.rules.specs.Surface.{number, cell}
use Rattle.rules.proofs.Tests.{every_yes}
use Rattle.cells.specs.Weight.{taken_z, untaken}
use Rattle.cells.proofs.Laws.{cell_in, open_at, open_row, taken_one, taken_back}
use Rattle.surface.specs.Rows.{RowWritten}
use Rattle.surface.specs.Marks.{Marked}
use Rattle.surface.proofs.RowLaws.{row_none, row_more}
use Rattle.surface.proofs.MarkLaws.{rect_none, rect_more}
use Rattle.surface.proofs.marks.mark.Invariants.{given}
use Rattle.surface.proofs.marks.mark.Goals as goal
use Rattle.surface.proofs.marks.mark.Goals.{In-loop-i}

pub rows-init : goal.rows-init
rows-init c = (refl, rect_none _ _ _ _ _ _, below_none _)

pub loop-i-init : goal.loop-i-init
loop-i-init c = (c.rows.invariant.0, row_none _ _ _, below_none _)

-- the cell that is looked at is on the surface, and its mark is small
on : (c : In-loop-i) →
    let a = c.args in
    ((a.r.y + c.rows.j) * a.w + (a.r.x + c.loop-i.i) < length a.m.now) × (a.r.y + c.rows.j < length a.m.now) × (a.r.w ≤ 64)
on c = let a = c.args in
    let k = cell_in a.w a.r.x a.r.y a.r.w a.r.h _ _ (length a.m.now) c.requires.0 c.requires.1 c.loop-i-test.true c.rows-test.true in
    (k.0, k.1, omega (arith, c.requires.0, c.requires.3))

-- the scratch is as long as it was
long : (c : In-loop-i) → length c.loop-i.m ≡ length c.args.m.now
long c = c.loop-i.invariant.1.long ∙ c.rows.invariant.1.long

-- and the cell as it was
as_was : (c : In-loop-i) →
    let a = c.args in
    let x = a.r.x + c.loop-i.i in
    let y = a.r.y + c.rows.j in
    (cell a.w c.loop-i.m x y ≡ cell a.w c.rows.m x y) × (cell a.w c.rows.m x y ≡ cell a.w a.m.now x y)
as_was c =
    (c.loop-i.invariant.1.after _ (omega arith), c.rows.invariant.1.below _ _ (omega (arith, c.requires.0, c.loop-i-test.true)) (le_refl _))

pub loop-i-preserved : goal.loop-i-preserved
loop-i-preserved c =
    let l = c.loop-i in
    let r = c.rows in
    let a = c.args in
    let v = neg_ℤ (pos (a.r.w - l.i)) in
    let read : SFits w16 (cell a.w l.m (a.r.x + l.i) (a.r.y + r.j)) = search rules in
    let q : (a.r.y + r.j) * a.w + (a.r.x + l.i) ≡ (a.r.y + r.j) * a.w + a.r.x + l.i = omega arith in
    let e : a.r.w - l.i ≡ given a.r.x a.r.w (a.r.x + l.i) = omega arith in (
      l.invariant.0,
      row_more r.m l.m _ ((a.r.y + r.j) * a.w + a.r.x) l.i _ v l.invariant.1 (omega (arith, (on (goal.at.loop-i-preserved c).In-loop-i).0, long (goal.at.loop-i-preserved c).In-loop-i)) (ap (set l.m ((a.r.y + r.j) * a.w + (a.r.x + l.i))) (to_z-of_z w16 _ (record { sfits = c.occupied_by.type_inv }) ∙ c.occupied_by.ensures) ∙ ap (λ k. set l.m k v) q) (ap (λ n. neg_ℤ (pos n)) e),
      below_more _ _ l.invariant.2 (ap not (ap taken_z (sym (as_was (goal.at.loop-i-preserved c).In-loop-i).0) ∙ ap taken_z (sym (to_z-of_z w16 _ read)) ∙ sym c.is_taken.ensures ∙ c.if-is_taken.false)),
    )

pub rows-preserved : goal.rows-preserved
rows-preserved c =
    let l = c.loop-i in
    let r = c.rows in
    let a = c.args in
    let f : ℕ → ℤ = λ k. neg_ℤ (pos (given a.r.x a.r.w (a.r.x + k))) in
    let q : l.i ≡ a.r.w = omega arith in (
      l.invariant.0,
      rect_more a.w a.m.now r.m l.m a.r.x a.r.y a.r.w r.j (given a.r.x a.r.w) c.requires.0 r.invariant.1 (subst (λ k. RowWritten r.m l.m ((a.r.y + r.j) * a.w + a.r.x) k f) q l.invariant.1),
      below_more _ _ r.invariant.2 (every_yes a.r.w (λ i. open_at a.w a.m.now (a.r.x + i) (a.r.y + r.j))
          (λ k h. ap (λ z. not (taken_z z)) (sym (r.invariant.1.below (a.r.x + k) (a.r.y + r.j) (omega (arith, c.requires.0)) (le_refl _))) ∙ l.invariant.2 k (omega arith))),
    )

pub returns-after-rows : goal.returns-after-rows
unfolding untaken number
returns-after-rows c =
    let r = c.rows in
    let a = c.args in record { value = r.invariant.0 ∙ sym (every_yes a.r.h (open_row a.w a.m.now a.r.x a.r.y a.r.w) (λ k h. r.invariant.2 k (omega arith))); marked = (λ _ i. subst (λ j. Marked a.w a.m.now r.m a.r.x a.r.y a.r.w j (given a.r.x a.r.w)) (omega arith) r.invariant.1) }

pub returns-then-is_taken : goal.returns-then-is_taken
returns-then-is_taken c =
    let r = c.rows in
    let a = c.args in
    let read : SFits w16 (cell a.w c.loop-i.m (a.r.x + c.loop-i.i) (a.r.y + r.j)) = search rules in
    let w = as_was (goal.at.returns-then-is_taken c).In-loop-i in record { value = sym (taken_one a.w a.m.now a.r.x a.r.y a.r.w a.r.h c.loop-i.i r.j c.loop-i-test.true c.rows-test.true (ap taken_z (sym (w.0 ∙ w.1)) ∙ taken_back _ read c.if-is_taken.ensures)); marked = (λ e. absurd (false≢true e)) }

pub overflow_add-at : goal.overflow_add-at
overflow_add-at c = omega (arith, on (goal.at.overflow_add-at c).In-loop-i)

pub overflow_mul-at : goal.overflow_mul-at
overflow_mul-at c = omega (arith, on (goal.at.overflow_mul-at c).In-loop-i)

pub overflow_add-at-in-loop-i : goal.overflow_add-at-in-loop-i
overflow_add-at-in-loop-i c = omega (arith, on (goal.at.overflow_add-at-in-loop-i c).In-loop-i)

pub overflow_add-at-in-loop-i-2 : goal.overflow_add-at-in-loop-i-2
overflow_add-at-in-loop-i-2 c = omega (arith, on (goal.at.overflow_add-at-in-loop-i-2 c).In-loop-i)

pub bounds-m-at : goal.bounds-m-at
bounds-m-at c = omega (arith, on (goal.at.bounds-m-at c).In-loop-i, long (goal.at.bounds-m-at c).In-loop-i)
