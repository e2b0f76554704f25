-- EMPTINESS BY THE BOTTOM ROW (order 4): "a rectangle is empty when every cell of its bottom row has a weight of at least its height". Over any occupied test first, then on a standing surface. Of
-- the number of an occupied cell it uses only that the weight is negative. Assumes nothing.
use mathlib.Core.Path.{◌≡◌, sym, ap, ◌∙◌}
use mathlib.Core.Bool.{Bool, true, false, not, ◌&&◌}
use mathlib.Core.Logic.{◌↔◌}
use mathlib.Core.List.{List}
use Prim.Native.Nat.{ℕ, suc, ◌+◌, ◌-◌, ◌≤◌, ◌<◌}
use native.Mathlib.Omega.{arith}
use lib.Dec.{leb}
use lib.IntN.{ℤ, pos}
use lib.Signed.{le_z}
use borrow.Author.Tests.{leb-true, le-leb, lt-leb}
use Rattle.rules.specs.Tests.{every}
use Rattle.rules.specs.Surface.{occupied, upwards, weight, cell, stands}
use Rattle.rules.specs.Empties.{on_surface, cells_empty, empty, Empty, bottom_reaches}
use Rattle.rules.specs.declared.Rect.{Rect}
use Rattle.rules.proofs.Tests.{and_left, and_right, and_both, and_same, both_ways, every_at, every_yes, every_same}
use Rattle.meaning.specs.Change.{On}
use Rattle.meaning.proofs.Splits.{by_test, by_less}
use Rattle.meaning.proofs.Rectangles.{on_surface_on, cells_empty_at, cells_empty_yes, empty_is}
use Rattle.meaning.proofs.Weights.{upwards_taken, upwards_free, upwards_ge, weight_occupied, weight_empty, stands_cell}

-- a test of w columns from x on
in_columns : (x w : ℕ) (p : ℕ → Bool) → (every w (λ i. p (x + i)) ≡ true) ↔ ((c : ℕ) → x ≤ c → c < x + w → p c ≡ true)
in_columns x w p = (
  (λ e c a b. let k : x + (c - x) ≡ c = omega arith in ap p (sym k) ∙ every_at w (λ i. p (x + i)) e (c - x) (omega arith)),
  (λ f. every_yes w (λ i. p (x + i)) (λ i l. f (x + i) (omega arith) (omega arith))),
)

-- ---- over any occupied test

-- d is the bottom row of the rectangle a
module _ (occ : ℕ → ℕ → Bool) (a : Rect) (d : ℕ) (q : a.y + a.h ≡ suc d) where
  -- every column counts at least the height there
  abbrev Reaches : Type 0
  Reaches = (c : ℕ) → a.x ≤ c → c < a.x + a.w → a.h ≤ upwards occ c d

  -- no cell is occupied
  abbrev Free : Type 0
  Free = (x y : ℕ) → a.x ≤ x → x < a.x + a.w → a.y ≤ y → y < a.y + a.h → occ x y ≡ false

  pub free_reaches : Free → Reaches
  free_reaches f c p r = upwards_ge occ c d a.h (omega arith) (λ e s t. f c e p r (omega arith) (omega arith))

  pub reaches_free : Reaches → Free
  reaches_free f x y p r s t = upwards_free occ x d y (omega arith) (omega (arith, f x p r))

  pub on_reaches : (W H : ℕ) → On W H a → Reaches → Empty occ W H a
  on_reaches W H o f = record { wide = o.wide; tall = o.tall; columns = o.columns; lines = o.lines; free = reaches_free f }

  by_row : cells_empty occ a ≡ every a.w (λ i. leb a.h (upwards occ (a.x + i) d))
  by_row =
      let i = in_columns a.x a.w (λ c. leb a.h (upwards occ c d)) in
      both_ways (cells_empty occ a) _
      (λ e. i.1 (λ c p r. le-leb a.h _ (free_reaches (cells_empty_at occ 0 0 a e) c p r)))
      (λ e. cells_empty_yes occ 0 0 a (reaches_free (λ c p r. leb-true a.h _ (i.0 e c p r))))

-- THE TEST OF ALL CELLS IS THAT OF THE BOTTOM ROW'S COLUMNS, of any rectangle
pub cells_by_columns : (occ : ℕ → ℕ → Bool) (r : Rect) → cells_empty occ r ≡ every r.w (λ i. leb r.h (upwards occ (r.x + i) (r.y + r.h - 1)))
cells_by_columns occ r =
    by_less 0 r.h
    (λ p. by_row occ r (r.y + r.h - 1) (omega arith))
    (λ p. cells_empty_yes occ 0 0 r (λ x y a b c d. absurd (omega arith)) ∙ sym (every_yes r.w _ (λ i l. le-leb r.h _ (omega arith))))

-- ---- what the test of the weights looks at, in any list of them

pub bottom_is : (W : ℕ) (s : List ℤ) (r : Rect) → (bottom_reaches W s r ≡ true) ↔ ((x : ℕ) → r.x ≤ x → x < r.x + r.w → le_z (pos r.h) (cell W s x (r.y + r.h - 1)) ≡ true)
unfolding bottom_reaches
bottom_is W s r = in_columns r.x r.w (λ x. le_z (pos r.h) (cell W s x (r.y + r.h - 1)))

-- ---- a weight is at least h exactly when its cell is empty and the run that ends there has h cells

weight_reaches : (t : List ℕ) (x y h : ℕ) → le_z (pos h) (weight t x y) ≡ (not (occupied t x y) && leb h (upwards (occupied t) x y))
weight_reaches t x y h =
    by_test (occupied t x y)
    (λ e. ap (le_z (pos h)) (weight_occupied t x y e).1 ∙ sym (ap (λ b. not b && leb h (upwards (occupied t) x y)) e))
    (λ e. ap (le_z (pos h)) (weight_empty t x y e) ∙ sym (ap (λ b. not b && leb h (upwards (occupied t) x y)) e))

-- for h of at least 1 the second says the first
run_alone : (occ : ℕ → ℕ → Bool) (x y h : ℕ) → 1 ≤ h → (not (occ x y) && leb h (upwards occ x y)) ≡ leb h (upwards occ x y)
run_alone occ x y h p =
    by_test (occ x y)
    (λ e. ap (λ b. not b && leb h (upwards occ x y)) e ∙ sym (lt-leb h _ (omega (arith, upwards_taken occ x y e))))
    (λ e. ap (λ b. not b && leb h (upwards occ x y)) e)

-- ---- on a standing surface

module _ (W H : ℕ) (s : List ℤ) (t : List ℕ) (e : stands W H s t ≡ true) where
  pub cell_reaches : (x y h : ℕ) → x < W → y < H → le_z (pos h) (cell W s x y) ≡ (not (occupied t x y) && leb h (upwards (occupied t) x y))
  cell_reaches x y h p q = ap (le_z (pos h)) (stands_cell W H s t e x y p q) ∙ weight_reaches t x y h

  -- THE TEST OF ALL CELLS IS THAT OF THE BOTTOM ROW'S WEIGHTS, of a rectangle that lies on the surface
  pub reaches_empty : (r : Rect) → On W H r → bottom_reaches W s r ≡ cells_empty (occupied t) r
  unfolding bottom_reaches
  reaches_empty r o =
      every_same r.w _ _
      (λ i l.
      cell_reaches (r.x + i) (r.y + r.h - 1) r.h (omega (arith, o.columns)) (omega (arith, o.lines, o.tall))
      ∙ run_alone (occupied t) (r.x + i) (r.y + r.h - 1) r.h o.tall)
      ∙ sym (cells_by_columns (occupied t) r)

  pub empty_by_weights : (r : Rect) → empty (occupied t) W H r ≡ (on_surface W H r && bottom_reaches W s r)
  unfolding empty
  empty_by_weights r = and_same (on_surface W H r) _ _ (λ o. sym (reaches_empty r (on_surface_on W H r o)))

  pub empty_exactly : (r : Rect) →
      Empty (occupied t) W H r ↔ ((on_surface W H r ≡ true) × ((x : ℕ) → r.x ≤ x → x < r.x + r.w → le_z (pos r.h) (cell W s x (r.y + r.h - 1)) ≡ true))
  empty_exactly r =
      let i = empty_is (occupied t) W H r in
      let j = bottom_is W s r in (
        (λ m. let b = sym (empty_by_weights r) ∙ i.1 m in (and_left (on_surface W H r) _ b, j.0 (and_right (on_surface W H r) _ b))),
        (λ f. i.0 (empty_by_weights r ∙ and_both f.0 (j.1 f.1))),
      )
