-- The test of a place on a surface that stands: the signs of the lent weights tell which cells are occupied. Assumes nothing.
use mathlib.Core.Path.{◌≡◌, refl, ap, ◌∙◌}
use mathlib.Core.Bool.{Bool, true, false, not}
use mathlib.Core.List.{List}
use Prim.Native.Nat.{ℕ, zero, suc, ◌+◌, ◌<◌}
use native.Mathlib.Omega.{arith}
use lib.IntN.{ℤ}
use Rattle.cells.specs.Weight.{taken_z, count_of, untaken}
use Rattle.rules.specs.Surface.{Standing, occupied, cell}
use Rattle.rules.specs.Empties.{cells_empty}
use Rattle.rules.specs.declared.Rect.{Rect}
use Rattle.rules.proofs.Tests.{every_same}
use Rattle.meaning.proofs.Weights.{stands_cell}
use Rattle.meaning.specs.Column.{column, is_taken, run, weigh, next, weight_in}
use Rattle.meaning.specs.Change.{On}
use Rattle.meaning.proofs.Columns.{column_taken, column_empty, weight_column}

-- a weight says whether the cell is empty, and how long the run is that ends with it
taken_weigh : (v k : ℕ) → taken_z (weigh v k) ≡ is_taken v
taken_weigh zero k = refl
taken_weigh (suc v) k = refl

count_weigh : (v k : ℕ) → count_of (weigh v k) ≡ next v k
count_weigh zero k = refl
count_weigh (suc v) k = refl

pub taken_is : (f : ℕ → ℕ) (r : ℕ) → taken_z (weight_in f r) ≡ is_taken (f r)
unfolding weight_in
taken_is f r = taken_weigh (f r) (run f r)

pub count_is : (f : ℕ → ℕ) (r : ℕ) → count_of (weight_in f r) ≡ run f (suc r)
unfolding weight_in run
count_is f r = count_weigh (f r) (run f r)

is_taken_lem : (t : List ℕ) (c r : ℕ) → is_taken (column t c r) ≡ occupied t c r
is_taken_lem t c r = go (occupied t c r) refl
  where
    some : (n : ℕ) → (n ≡ 0 → ⊥) → is_taken n ≡ true
    some zero z = absurd (z refl)
    some (suc n) z = refl

    go : (b : Bool) → occupied t c r ≡ b → is_taken (column t c r) ≡ b
    go true e = some (column t c r) (column_taken t c r e)
    go false e = ap is_taken (column_empty t c r e)

module _ (W H : ℕ) (s : List ℤ) (t : List ℕ) (d : Standing W H s t) where
  -- A WEIGHT IS NEGATIVE EXACTLY WHEN ITS CELL IS OCCUPIED
  pub taken_occupied : (c r : ℕ) → c < W → r < H → taken_z (cell W s c r) ≡ occupied t c r
  taken_occupied c r hc hr = ap taken_z (stands_cell W H s t d.sound c r hc hr ∙ weight_column t c r) ∙ taken_is (column t c) r ∙ is_taken_lem t c r

  -- NO WEIGHT OF A PLACE IS NEGATIVE EXACTLY WHEN ALL ITS CELLS ARE EMPTY: what `cells::none_taken` tells
  pub untaken_empty : (m : Rect) → On W H m → untaken W s m.x m.y m.w m.h ≡ cells_empty (occupied t) m
  unfolding untaken cells_empty
  untaken_empty m o =
      every_same m.h _ _ (λ j lj. every_same m.w _ _ (λ i li.
      ap not (taken_occupied (m.x + i) (m.y + j) (omega (arith, o.columns)) (omega (arith, o.lines)))))
