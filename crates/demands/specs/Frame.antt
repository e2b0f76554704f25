-- THE FRAME: what an accepted request may have changed.
use Rattle.std.specs.Prelude.{◌≡◌, true, false, cond, ◌⊎◌, List, ℕ, ◌+◌, ◌*◌, ◌≤◌, ◌<◌, length, get_or}
use Rattle.rules.specs.Surface.{slots, occupied, rect_of, free_record, with_record, cell}
use Rattle.rules.specs.Requests.{id_asked, needs_old, slot_of}
use Rattle.rules.specs.Blocks.{State}
use Rattle.rules.specs.Host.{LentSurface}
use Rattle.rules.specs.declared.Rect.{Rect}

-- cell (c, r) is in the reach of the module m: "in each column of its module, the weights from the module's top row down to the next occupied cell
-- below it or the bottom edge". t is the table without m
pub record Reached (m : Rect) (t : List ℕ) (c r : ℕ) : Type 0 where
  pub left : m.x ≤ c
  pub right : c < m.x + m.w
  pub top : m.y ≤ r
  pub clear : (j : ℕ) → m.y + m.h ≤ j → j ≤ r → occupied t c j ≡ false

-- the slot of the module that a remove or an exchange asks for
abbrev pub old_slot : List ℕ → List ℕ → ℕ
old_slot t q = slot_of t (id_asked q)

-- the table without the old module
abbrev pub bare : List ℕ → List ℕ → List ℕ
bare t q = cond (needs_old q) (with_record t (old_slot t q) free_record) t

-- "in each column of its module, the weights from the module's top row down to the next occupied cell below it or the bottom edge"
-- (r is the rectangle that the answer names); "an exchange, only those of the old module and of the new"
pub data MayChange (t q : List ℕ) (r : Rect) (c y : ℕ) : Type 0 where
  of_module : Reached r (bare t q) c y → MayChange t q r c y
  of_old : needs_old q ≡ true → Reached (rect_of t (old_slot t q)) (bare t q) c y → MayChange t q r c y

-- from state z to state z' nothing else has changed, "and one table record"
pub record Framed (W H : ℕ) (q : List ℕ) (i : ℕ) (r : Rect) (z z' : State) : Type 0 where
  pub slot : i < slots z.table
  pub long : length z'.table ≡ length z.table
  pub bytes : (k : ℕ) → (k < 8 * i) ⊎ (8 * i + 8 ≤ k) → get_or z'.table k 0 ≡ get_or z.table k 0
  pub weights : (c y : ℕ) → c < W → y < H → (cell W z'.weights c y ≡ cell W z.weights c y → ⊥) → MayChange z.table q r c y

-- the same, of some slot
pub record OneFramed (W H : ℕ) (q : List ℕ) (r : Rect) (z z' : State) : Type 0 where
  pub slot : ℕ
  pub framed : Framed W H q slot r z z'

-- the two bytes of cell (x, y), at 2·(y·W + x), are the same
abbrev pub SameBytes : ℕ → List ℕ → List ℕ → ℕ → ℕ → Type 0
SameBytes W b b' x y = (get_or b' (2 * (y * W + x)) 0 ≡ get_or b (2 * (y * W + x)) 0) × (get_or b' (2 * (y * W + x) + 1) 0 ≡ get_or b (2 * (y * W + x) + 1) 0)

-- from the bytes l that the host has lent to the bytes l' that it gets back nothing else has changed, "and one table record"
pub record BytesFramed (W H : ℕ) (q : List ℕ) (r : Rect) (l l' : LentSurface) : Type 0 where
  pub slot : ℕ
  pub low : slot < slots l.table
  pub long : (length l'.table ≡ length l.table) × (length l'.weights ≡ length l.weights)
  pub bytes : (k : ℕ) → (k < 8 * slot) ⊎ (8 * slot + 8 ≤ k) → get_or l'.table k 0 ≡ get_or l.table k 0
  pub weights : (x y : ℕ) → x < W → y < H → (SameBytes W l.weights l'.weights x y → ⊥) → MayChange l.table q r x y
