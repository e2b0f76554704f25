-- EMPTY RECTANGLES: maximal ones, the list of them, scanned rows and corners. Up to the list they know of the surface only
-- which cells are occupied, occ x y; `bottom_reaches` alone reads lent weights.
use Rattle.std.specs.Prelude.{◌≡◌, Bool, false, not, ◌&&◌, ◌||◌, ◌⊎◌, ℕ, suc, ◌+◌, ◌-◌, ◌*◌, ◌/◌, ◌%◌, ◌≤◌, ◌<◌, leb, eqb, ℤ, pos}
use mathlib.Core.List.{List, [], ◌∷◌, ◌++◌, Memᴰ}
use Rattle.std.specs.Int.Signed.{le_z, lt_z}
use Rattle.rules.specs.Tests.{every, any, total, count, chain, keep, all}
use Rattle.rules.specs.Surface.{rect, slots, used_slot, rect_of, occupied, weight, cell}
use Rattle.rules.specs.declared.Rect.{Rect}

-- ---- "A rectangle is empty when it lies on the surface and all its cells are empty."

-- at least 1×1, and on the surface
unfoldable pub on_surface : ℕ → ℕ → Rect → Bool
on_surface W H r = leb 1 r.w && leb 1 r.h && leb (r.x + r.w) W && leb (r.y + r.h) H

unfoldable pub cells_empty : (ℕ → ℕ → Bool) → Rect → Bool
cells_empty occ r = every r.h (λ j. every r.w (λ i. not (occ (r.x + i) (r.y + j))))

unfoldable pub empty : (ℕ → ℕ → Bool) → ℕ → ℕ → Rect → Bool
empty occ W H r = on_surface W H r && cells_empty occ r

-- the same, said of every cell
pub record Empty (occ : ℕ → ℕ → Bool) (W H : ℕ) (a : Rect) : Type 0 where
  pub wide : 1 ≤ a.w
  pub tall : 1 ≤ a.h
  pub columns : a.x + a.w ≤ W
  pub lines : a.y + a.h ≤ H
  pub free : (x y : ℕ) → a.x ≤ x → x < a.x + a.w → a.y ≤ y → y < a.y + a.h → occ x y ≡ false

-- "a rectangle is empty when every cell of its bottom row has a weight of at least its height" (order 4): the test of that row, on lent weights. That it says the same of
-- a rectangle that lies on a standing surface is a theorem (`empty_by_weights`, meaning/proofs/Theorems)
unfoldable pub bottom_reaches : ℕ → List ℤ → Rect → Bool
bottom_reaches W s r = every r.w (λ i. le_z (pos r.h) (cell W s (r.x + i) (r.y + r.h - 1)))

-- ---- "It is maximal when no other empty rectangle contains it." (Handa and Vemuri)

-- a lies in b
pub record Inside (a b : Rect) : Type 0 where
  pub left : b.x ≤ a.x
  pub top : b.y ≤ a.y
  pub right : a.x + a.w ≤ b.x + b.w
  pub bottom : a.y + a.h ≤ b.y + b.h

-- over all rectangles that there are
pub record Maximal (occ : ℕ → ℕ → Bool) (W H : ℕ) (a : Rect) : Type 0 where
  pub is_empty : Empty occ W H a
  pub most : (b : Rect) → Empty occ W H b → Inside a b → b ≡ a

-- the same as a test, over all rectangles of the surface

abbrev pub contains : Rect → Rect → Bool
contains b a = leb b.x a.x && leb b.y a.y && leb (a.x + a.w) (b.x + b.w) && leb (a.y + a.h) (b.y + b.h)

abbrev pub same_rect : Rect → Rect → Bool
same_rect a b = eqb a.x b.x && eqb a.y b.y && eqb a.w b.w && eqb a.h b.h

-- the rectangle with these ends: its last row and column, its first column and row
abbrev pub spanning : ℕ → ℕ → ℕ → ℕ → Rect
spanning bottom right left top = rect left top (suc right - left) (suc bottom - top)

-- every rectangle on the surface: "ordered by bottom row, then by right column, then by left column, all rising" (then by top row)
unfoldable pub rects : ℕ → ℕ → List Rect
rects W H = chain H (λ bottom. chain W (λ right. chain (suc right) (λ left. chain (suc bottom) (λ top. spanning bottom right left top ∷ []))))

unfoldable pub maximal : (ℕ → ℕ → Bool) → ℕ → ℕ → Rect → Bool
maximal occ W H a = empty occ W H a && all (λ b. not (contains b a) || same_rect b a || not (empty occ W H b)) (rects W H)

-- ---- THE LIST: all rectangles, in the stated order, kept where they are maximal
unfoldable pub entries : (ℕ → ℕ → Bool) → ℕ → ℕ → List Rect
entries occ W H = keep (maximal occ W H) (rects W H)

-- the order: by bottom row, then by right column, then by left column, all rising
abbrev pub Earlier : Rect → Rect → Type 0
Earlier a b =
    (a.y + a.h < b.y + b.h)
    ⊎ ((a.y + a.h ≡ b.y + b.h) × ((a.x + a.w < b.x + b.w) ⊎ ((a.x + a.w ≡ b.x + b.w) × (a.x < b.x))))

-- every item stands in this relation to every later one
unfoldable pub Ordered : {A : Type 0} → (A → A → Type 0) → List A → Type 0
Ordered R [] = Unit {0}
Ordered {A} R (a ∷ l) = ((b : A) → Memᴰ b l → R a b) × Ordered R l

abbrev pub area : Rect → ℕ
area r = r.w * r.h

-- "A list record is x, y, w, h, the area as two bytes, low first, and two zero bytes."
abbrev pub entry_record : Rect → List ℕ
entry_record r = r.x ∷ r.y ∷ r.w ∷ r.h ∷ area r % 256 ∷ area r / 256 ∷ 0 ∷ 0 ∷ []

unfoldable pub entry_records : List Rect → List ℕ
entry_records [] = []
entry_records (r ∷ l) = entry_record r ++ entry_records l

-- ---- scanned rows and corners

-- "A row y is scanned when y = H − 1 or some module has its top row at y + 1."
unfoldable pub scanned : ℕ → List ℕ → ℕ → Bool
scanned H t y = eqb (suc y) H || any (slots t) (λ i. used_slot t i && eqb (rect_of t i).y (suc y))

-- "W times the number of scanned rows is always enough room" (order 1): how many of the rows 0 .. H − 1 are scanned, each counted once
unfoldable pub scanned_rows : ℕ → List ℕ → ℕ
scanned_rows H t = count H (scanned H t)

-- "A corner is an empty cell of a scanned row that stands in the last column or whose right neighbour has a smaller weight."
unfoldable pub corner : ℕ → ℕ → List ℕ → ℕ → ℕ → Bool
corner W H t x y = not (occupied t x y) && scanned H t y && (eqb (suc x) W || lt_z (weight t (suc x) y) (weight t x y))

-- "The listing call reports how many corners there are."
unfoldable pub corners : ℕ → ℕ → List ℕ → ℕ
corners W H t = total H (λ y. count W (λ x. corner W H t x y))
