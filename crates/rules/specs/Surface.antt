-- THE SURFACE: its cells, its table, its weights, and when it stands. W columns and H rows; column 0 is at the left, row 0 at the top.
use Rattle.std.specs.Prelude.{◌≡◌, Bool, true, not, cond, ◌&&◌, ◌||◌, List, [], ◌∷◌, ℕ, zero, suc, ◌+◌, ◌-◌, ◌*◌, ◌/◌, ◌%◌, ◌≤◌, leb, ltb, eqb, ℤ, pos, neg_ℤ, length, get_or}
use Rattle.std.proofs.lemmas.List.Edits.{sets}
use Rattle.rules.specs.Tests.{every, any, count, least, eq_z, tab}
use Rattle.rules.specs.declared.Rect.{Rect}

-- "A rectangle is (x, y, w, h), its top left cell and its size"
abbrev pub rect : ℕ → ℕ → ℕ → ℕ → Rect
rect x y w h = record { x = x; y = y; w = w; h = h }

-- cell (x, y) is a cell of the rectangle
unfoldable pub covers : Rect → ℕ → ℕ → Bool
covers r x y = leb r.x x && ltb x (r.x + r.w) && leb r.y y && ltb y (r.y + r.h)

-- ---- the table

-- "Table: lent bytes, 1 to 256 slots of 8 bytes, no header."
abbrev pub slots : List ℕ → ℕ
slots t = length t / 8

-- byte k of slot i
abbrev pub byte : List ℕ → ℕ → ℕ → ℕ
byte t i k = get_or t (8 * i + k) 0

-- "Bytes 0 and 1 are the id, low byte first, then x, y, w, h, then two zero bytes"; order 2: "Byte 6 of a table record becomes its kind: 0 a module, 1 a block."
abbrev pub id_of : List ℕ → ℕ → ℕ
id_of t i = byte t i 0 + 256 * byte t i 1

abbrev pub rect_of : List ℕ → ℕ → Rect
rect_of t i = rect (byte t i 2) (byte t i 3) (byte t i 4) (byte t i 5)

abbrev pub kind_of : List ℕ → ℕ → ℕ
kind_of t i = byte t i 6

-- slot i has a block of the fabric: "hard blocks that no trigger may use". (Names say *hard*: a *block* is the requests of a run)
abbrev pub is_hard : List ℕ → ℕ → Bool
is_hard t i = eqb (kind_of t i) 1

-- "A surface stands with kinds 0 and 1 ..
abbrev pub kind_known : List ℕ → ℕ → Bool
kind_known t i = leb (kind_of t i) 1

-- .. and every other spare byte zero."
abbrev pub spare_zero : List ℕ → ℕ → Bool
spare_zero t i = eqb (byte t i 7) 0

-- the same record, written: its id as two bytes, its rectangle and its kind
abbrev pub record_of : ℕ → ℕ → Rect → ℕ → List ℕ
record_of low high r kind = low ∷ high ∷ r.x ∷ r.y ∷ r.w ∷ r.h ∷ kind ∷ 0 ∷ []

-- "A free slot is eight zero bytes, so id 0 is no id."
abbrev pub free_record : List ℕ
free_record = 0 ∷ 0 ∷ 0 ∷ 0 ∷ 0 ∷ 0 ∷ 0 ∷ 0 ∷ []

unfoldable pub free_slot : List ℕ → ℕ → Bool
free_slot t i = every 8 (λ k. eqb (byte t i k) 0)

abbrev pub used_slot : List ℕ → ℕ → Bool
used_slot t i = not (free_slot t i)

-- the table with these eight bytes in slot i
abbrev pub with_record : List ℕ → ℕ → List ℕ → List ℕ
with_record t i r = sets t (8 * i) r

-- ---- cells: "Blocks count as modules for cells, weights, scanned rows and ids" (order 2), so *module* is said of both from here on

-- slot i is used and its module has cell (x, y)
unfoldable pub holds : List ℕ → ℕ → ℕ → ℕ → Bool
holds t x y i = used_slot t i && covers (rect_of t i) x y

-- cell (x, y) is occupied: some module has it. Otherwise it is empty
unfoldable pub occupied : List ℕ → ℕ → ℕ → Bool
occupied t x y = any (slots t) (holds t x y)

-- the slot of the module that has cell (x, y)
unfoldable pub holder : List ℕ → ℕ → ℕ → ℕ
holder t x y = least (slots t) (holds t x y)

-- ---- weights

-- "An empty cell holds the number of empty cells in its column, itself included, counted upwards without a gap."
unfoldable pub upwards : (ℕ → ℕ → Bool) → ℕ → ℕ → ℕ
upwards occ x zero = cond (occ x 0) 0 1
upwards occ x (suc y) = cond (occ x (suc y)) 0 (suc (upwards occ x y))

-- "An occupied cell in column c of a module (x, y, w, h) holds −(x + w − c), the width that remains to the right."
-- (the number of a cell in column c of the module r in slot i; the slot says nothing here; the cell holds its negative)
unfoldable pub number : ℕ → Rect → ℕ → ℕ
number i r c = r.x + r.w - c

unfoldable pub remaining : List ℕ → ℕ → ℕ → ℤ
remaining t i c = neg_ℤ (pos (number i (rect_of t i) c))

unfoldable pub weight : List ℕ → ℕ → ℕ → ℤ
weight t x y = cond (occupied t x y) (remaining t (holder t x y) x) (pos (upwards (occupied t) x y))

-- "Weights: a lent list of signed 16-bit numbers, exactly W·H long; cell (x, y) is number y·W + x."
abbrev pub cell : ℕ → List ℤ → ℕ → ℕ → ℤ
cell W s x y = get_or s (y * W + x) (pos 0)

-- the weights of all cells, worked out afresh from the table
unfoldable pub fresh : ℕ → ℕ → List ℕ → List ℤ
fresh W H t = tab (W * H) (λ k. weight t (k % W) (k / W))

-- ---- "A surface stands when ..

-- .. every slot is free or has an id, w and h of at least 1, x + w ≤ W, y + h ≤ H and zero spare bytes (order 2: kind 0 or 1 and a zero spare byte);
unfoldable pub sound_slot : ℕ → ℕ → List ℕ → ℕ → Bool
sound_slot W H t i =
    let r = rect_of t i in
    leb 1 (id_of t i) && leb 1 r.w && leb 1 r.h && leb (r.x + r.w) W && leb (r.y + r.h) H && kind_known t i && spare_zero t i

unfoldable pub slots_sound : ℕ → ℕ → List ℕ → Bool
slots_sound W H t = every (slots t) (λ i. free_slot t i || sound_slot W H t i)

-- .. no two used slots have the same id;
unfoldable pub ids_differ : List ℕ → Bool
ids_differ t = every (slots t) (λ j. every j (λ i. not (used_slot t i && used_slot t j && eqb (id_of t i) (id_of t j))))

-- .. no two modules share a cell;
unfoldable pub modules_apart : ℕ → ℕ → List ℕ → Bool
modules_apart W H t = every H (λ y. every W (λ x. every (slots t) (λ j. every j (λ i. not (holds t x y i && holds t x y j)))))

-- .. and every weight is as above."
unfoldable pub weights_right : ℕ → ℕ → List ℤ → List ℕ → Bool
weights_right W H s t = every H (λ y. every W (λ x. eq_z (cell W s x y) (weight t x y)))

unfoldable pub stands : ℕ → ℕ → List ℤ → List ℕ → Bool
stands W H s t = slots_sound W H t && ids_differ t && modules_apart W H t && weights_right W H s t

-- "W columns and H rows, each 1 to 64."
pub record Sides (W H : ℕ) : Type 0 where
  pub wide : 1 ≤ W
  pub widest : W ≤ 64
  pub high : 1 ≤ H
  pub highest : H ≤ 64

-- a surface whose sizes and lengths are right and that stands: what a call has found out before it goes on. What inner functions ask
pub record Standing (W H : ℕ) (s : List ℤ) (t : List ℕ) : Type 0 where
  pub sides : Sides W H
  pub long : length s ≡ W * H
  pub whole : length t ≡ 8 * slots t
  pub some : 1 ≤ slots t
  pub few : slots t ≤ 256
  pub sound : stands W H s t ≡ true

-- how many slots are used
unfoldable pub used_slots : List ℕ → ℕ
used_slots t = count (slots t) (used_slot t)
