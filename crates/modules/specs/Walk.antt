-- What the walks down a column leave. W and H are the surface's size, s its weights before, t after.
use Rattle.std.specs.Prelude.{◌≡◌, true, List, ℕ, zero, suc, ◌+◌, ◌*◌, ◌≤◌, ◌<◌, ℤ, length}
use Rattle.cells.specs.Weight.{taken_z, count_of}
use Rattle.rules.specs.Surface.{Sides, covers, cell}
use Rattle.rules.specs.declared.Rect.{Rect}
use Rattle.meaning.specs.Column.{run, weight_in, is_taken, over, beside, Holds, HoldsAll}

-- W and H are a surface's size, and s has a weight for each cell
pub record Sized (W H : ℕ) (s : List ℤ) : Type 0 where
  pub sides : Sides W H
  pub long : length s ≡ W * H

-- nothing outside column c is written
pub record Only (W c : ℕ) (s t : List ℤ) : Type 0 where
  pub long : length t ≡ length s
  pub others : (d r : ℕ) → d < W → (d ≡ c → ⊥) → cell W t d r ≡ cell W s d r

-- the n cells of column c from row y hold v
pub record Filled (W c y n : ℕ) (v : ℤ) (s t : List ℤ) : Type 0 where
  pub only : Only W c s t
  pub inside : (r : ℕ) → y ≤ r → r < y + n → cell W t c r ≡ v
  pub above : (r : ℕ) → r < y → cell W t c r ≡ cell W s c r
  pub below : (r : ℕ) → y + n ≤ r → cell W t c r ≡ cell W s c r

-- column c can be counted anew for the column f, from row a on with k empty cells above it: the signs are right, and from the next occupied cell
-- on all is
pub record Ready (W H c a k : ℕ) (f : ℕ → ℕ) (s : List ℤ) : Type 0 where
  pub start : run f a ≡ k
  pub signs : (r : ℕ) → a ≤ r → r < H → taken_z (cell W s c r) ≡ is_taken (f r)
  pub settled : (j r : ℕ) → a ≤ j → j ≤ r → r < H → (f j ≡ 0 → ⊥) → cell W s c r ≡ weight_in f r

pub record Recounted (W H c a k : ℕ) (s t : List ℤ) : Type 0 where
  pub only : Only W c s t
  pub above : (r : ℕ) → r < a → cell W t c r ≡ cell W s c r
  pub down : (f : ℕ → ℕ) → Ready W H c a k f s → (r : ℕ) → a ≤ r → r < H → cell W t c r ≡ weight_in f r

-- how many empty cells end right above row r of column c, as the weight of the cell there says
abbrev pub run_above : ℕ → List ℤ → ℕ → ℕ → ℕ
run_above W s c zero = 0
run_above W s c (suc q) = count_of (cell W s c q)

-- the n cells of column c from row y are occupied, with the number v
pub record ColumnAdded (W H c y n v : ℕ) (s t : List ℤ) : Type 0 where
  pub only : Only W c s t
  pub told : (f : ℕ → ℕ) → Holds W H c f s → Holds W H c (over f y n v) t

-- they are given back, whatever number they had
pub record ColumnRemoved (W H c y n : ℕ) (s t : List ℤ) : Type 0 where
  pub only : Only W c s t
  pub told : (v : ℕ) (f : ℕ → ℕ) → ((r : ℕ) → y ≤ r → r < y + n → f r ≡ 0) → Holds W H c (over f y n v) s → Holds W H c f t

-- no count above row y is more than the rows there are
abbrev pub Shallow : ℕ → ℕ → List ℤ → Type 0
Shallow W y s = (c : ℕ) → c < W → run_above W s c y ≤ y

-- whatever the columns were, the module is in them besides, its cells in column c with the number g c
pub record Added (W H : ℕ) (m : Rect) (g : ℕ → ℕ) (s t : List ℤ) : Type 0 where
  pub long : length t ≡ length s
  pub told : (f : ℕ → ℕ → ℕ) → HoldsAll W H f s → HoldsAll W H (beside m g f) t

-- whatever the columns are without the module, they are left, whatever numbers its cells had
pub record Removed (W H : ℕ) (m : Rect) (s t : List ℤ) : Type 0 where
  pub long : length t ≡ length s
  pub told : (g : ℕ → ℕ) (f : ℕ → ℕ → ℕ) → ((c r : ℕ) → covers m c r ≡ true → f c r ≡ 0) → HoldsAll W H (beside m g f) s → HoldsAll W H f t
