-- What a row shows of a surface, and the list of a surface as its rows' entries one behind the other. Assumes nothing.
use Rattle.std.specs.Prelude.{◌≡◌, Bool, true, false, cond, ◌&&◌, ◌||◌, List, map, ◌++◌, ℕ, suc, ◌+◌, ◌-◌, ◌≤◌, ◌<◌, ltb, eqb, length, get_or, take, drop, Result, Ok, Err}
use Rattle.rules.specs.Tests.{chain}
use Rattle.rules.specs.Surface.{rect, rect_of, used_slot, upwards}
use Rattle.rules.specs.Empties.{entry_records, scanned, corners}
use Rattle.rules.specs.Calls.{entries_of, short_room, result_of, room_after}
use Rattle.rules.specs.Refusals.{number_of}
use Rattle.rules.specs.declared.Rect.{Rect}
use Rattle.rules.specs.declared.Refusal.{Refusal}
use Rattle.rules.specs.declared.Refusal.TheVariants.{RoomShort}
use Rattle.listing.specs.Row.{row_entries}
use Rattle.listing.specs.declared.entry.Entry.{Entry}
use Rattle.listing.specs.declared.row.Counts.{Counts}

-- row y: the heights. Past the last column stands 0
unfoldable pub height_of : (ℕ → ℕ → Bool) → ℕ → ℕ → ℕ → ℕ
height_of occ W y x = cond (ltb x W) (upwards occ x y) 0

-- row y: an empty cell has support when the row is the last or the cell under it is occupied
unfoldable pub support : (ℕ → ℕ → Bool) → ℕ → ℕ → ℕ → ℕ → Bool
support occ W H y x = ltb 0 (height_of occ W y x) && cond (ltb (suc y) H) (occ x (suc y)) true

-- the entry of its bottom row that a rectangle is, and the rectangle that an entry of row y is
abbrev pub entry_of : Rect → Entry
entry_of a = record { left = a.x; right = a.x + a.w - 1; height = a.h }

abbrev pub entry_rect : ℕ → Entry → Rect
entry_rect y e = rect e.left (suc y - e.height) (suc e.right - e.left) e.height

-- THE ENTRIES OF ROW y, in the order of the list, and as rectangles
unfoldable pub entries_in : (ℕ → ℕ → Bool) → ℕ → ℕ → ℕ → List Entry
entries_in occ W H y = row_entries (height_of occ W y) (support occ W H y) W

unfoldable pub rects_in : (ℕ → ℕ → Bool) → ℕ → ℕ → ℕ → List Rect
rects_in occ W H y = map (entry_rect y) (entries_in occ W H y)

-- the entries with a bottom row below n
unfoldable pub listed : (ℕ → ℕ → Bool) → ℕ → ℕ → ℕ → List Rect
listed occ W H n = chain n (rects_in occ W H)

-- an occupied run of row y: d columns from x on, all on the surface
pub record Strides (occ : ℕ → ℕ → Bool) (W y x d : ℕ) : Type 0 where
  pub one : 1 ≤ d
  pub inside : x + d ≤ W
  pub over : (k : ℕ) → x ≤ k → k < x + d → occ k y ≡ true

-- scans tells of each row y whether it is scanned
pub record Scans (H : ℕ) (t : List ℕ) (scans : List Bool) : Type 0 where
  pub long : H ≤ length scans
  pub marks : (y : ℕ) → y < H → get_or scans y false ≡ scanned H t y

-- "some module has its top row at y + 1": the module of slot i has
abbrev pub top_below : List ℕ → ℕ → ℕ → Bool
top_below t y i = used_slot t i && eqb (rect_of t i).y (suc y)

-- the marks m are the marks l and that of slot i
abbrev pub Marks : ℕ → List ℕ → ℕ → List Bool → List Bool → Type 0
Marks h t i l m = (y : ℕ) → y < h → get_or m y false ≡ (top_below t y i || get_or l y false)

-- ---- the room

-- a list with r in it from `at` on
unfoldable pub written : ℕ → List ℕ → List ℕ → List ℕ
written at r room = take at room ++ (r ++ drop (at + length r) room)

-- the records of the entries with their bottom row at y, and of those with a bottom row below n
abbrev pub records_in : (ℕ → ℕ → Bool) → ℕ → ℕ → ℕ → List ℕ
records_in occ W H y = entry_records (rects_in occ W H y)

abbrev pub records_of : (ℕ → ℕ → Bool) → ℕ → ℕ → ℕ → List ℕ
records_of occ W H n = entry_records (listed occ W H n)

abbrev pub no_entry : Entry
no_entry = record { left = 0; right = 0; height = 0 }

-- an entry of row y, on a surface of at most 64 columns and rows: all its numbers are bytes
pub record Drawn (y : ℕ) (e : Entry) : Type 0 where
  pub low : y < 64
  pub order : e.left ≤ e.right
  pub inside : e.right < 64
  pub tall : 1 ≤ e.height
  pub top : e.height ≤ suc y

-- ---- the listing of a standing surface: code 7 and nothing written, or both counts and the records

unfoldable pub listed_result : ℕ → ℕ → List ℕ → List ℕ → ℕ
listed_result W H t room = cond (short_room W H t room) 7 (result_of 0 (length (entries_of W H t)) (corners W H t))

unfoldable pub listed_room : ℕ → ℕ → List ℕ → List ℕ → List ℕ
listed_room W H t room = cond (short_room W H t room) room (room_after W H t room)

-- the same as the code hands it on
unfoldable pub listing : ℕ → ℕ → List ℕ → List ℕ → Result Counts Refusal
listing W H t room = cond (short_room W H t room) (Err RoomShort) (Ok (record { entries = length (entries_of W H t); corners = corners W H t }))

abbrev pub listing_number : Result Counts Refusal → ℕ
listing_number (Ok c) = result_of 0 c.entries c.corners
listing_number (Err r) = result_of (number_of r) 0 0
