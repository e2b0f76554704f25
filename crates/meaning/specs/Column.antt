-- ONE COLUMN of a surface, as a function from rows to numbers: that of an occupied cell, and 0 where the cell is empty. A column's weights depend on
-- that column alone, and the laws of a column hold for every such function.
use Rattle.std.specs.Prelude.{◌≡◌, Bool, true, false, cond, ◌&&◌, List, ℕ, zero, suc, ◌+◌, ◌<◌, leb, ltb, ℤ, pos, neg_ℤ}
use Rattle.rules.specs.Surface.{covers, rect_of, occupied, holder, number, cell}
use Rattle.rules.specs.declared.Rect.{Rect}

-- the number that the module which has cell (c, r) gives it
abbrev pub number_at : List ℕ → ℕ → ℕ → ℕ
number_at t c r = number (holder t c r) (rect_of t (holder t c r)) c

-- column c of a table's surface
unfoldable pub column : List ℕ → ℕ → ℕ → ℕ
column t c r = cond (occupied t c r) (number_at t c r) 0

-- one row further down: an empty cell adds to the run above it, an occupied one ends it
abbrev pub next : ℕ → ℕ → ℕ
next zero k = suc k
next (suc v) k = zero

-- how many cells are empty, counted upwards from the one above row n of a column, without a gap
unfoldable pub run : (ℕ → ℕ) → ℕ → ℕ
run f zero = zero
run f (suc n) = next (f n) (run f n)

-- the weight of a cell with k empty cells right above it
abbrev pub weigh : ℕ → ℕ → ℤ
weigh zero k = pos (suc k)
weigh (suc v) k = neg_ℤ (pos (suc v))

-- the weight at row r of a column
unfoldable pub weight_in : (ℕ → ℕ) → ℕ → ℤ
weight_in f r = weigh (f r) (run f r)

abbrev pub is_taken : ℕ → Bool
is_taken zero = false
is_taken (suc v) = true

-- k is one of the n numbers from a
abbrev pub within : ℕ → ℕ → ℕ → Bool
within a n k = leb a k && ltb k (a + n)

-- a column with the n rows from y occupied, each with the number v
abbrev pub over : (ℕ → ℕ) → ℕ → ℕ → ℕ → ℕ → ℕ
over f y n v r = cond (within y n r) v (f r)

-- the columns of a surface with the module m besides, whose cells in column c have the number g c
abbrev pub beside : Rect → (ℕ → ℕ) → (ℕ → ℕ → ℕ) → ℕ → ℕ → ℕ
beside m g f c r = cond (covers m c r) (g c) (f c r)

-- ---- the weights of a surface, column by column

-- column c of the weights is that of f
abbrev pub Holds : ℕ → ℕ → ℕ → (ℕ → ℕ) → List ℤ → Type 0
Holds W H c f s = (r : ℕ) → r < H → cell W s c r ≡ weight_in f r

-- the weights are those of the columns f
abbrev pub HoldsAll : ℕ → ℕ → (ℕ → ℕ → ℕ) → List ℤ → Type 0
HoldsAll W H f s = (c : ℕ) → c < W → Holds W H c (f c) s
