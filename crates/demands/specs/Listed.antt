-- WHAT A LIST CALL HAS RETURNED AND WRITTEN: "The list holds every maximal empty rectangle, .. once each and in the stated order, with nothing else in it."
use Rattle.std.specs.Prelude.{◌≡◌, ◌↔◌, ℕ, ◌+◌, ◌-◌, ◌*◌, length, get_or, drop}
use mathlib.Core.List.{List, ◌++◌, Memᴰ}
use Rattle.rules.specs.Surface.{Standing, occupied}
use Rattle.rules.specs.Empties.{Maximal, Earlier, Ordered, entry_records, corners}
use Rattle.rules.specs.Calls.{result_of, first_of_result, second_of_result}
use Rattle.rules.specs.Host.{LentSurface, weights_in}
use Rattle.rules.specs.declared.Rect.{Rect}

-- the surface that was lent stands, its list is written from the start of the room, later bytes are as they were, and r has both counts
pub record HoldsList (W H : ℕ) (l : LentSurface) (room : List ℕ) (r : ℕ) (room' : List ℕ) : Type 0 where
  pub stands : Standing W H (weights_in l) l.table
  pub list : List Rect
  pub exact : (a : Rect) → Memᴰ a list ↔ Maximal (occupied l.table) W H a
  pub order : Ordered Earlier list
  pub written : room' ≡ entry_records list ++ drop (8 * length list) room
  pub result : r ≡ result_of 0 (length list) (corners W H l.table)
  pub entries : first_of_result r ≡ length list
  pub corners : second_of_result r ≡ corners W H l.table

-- the bottom row of the k-th rectangle in a room, y + h − 1: "A list record is x, y, w, h, .."
abbrev pub bottom_in : List ℕ → ℕ → ℕ
bottom_in room k = get_or room (8 * k + 1) 0 + get_or room (8 * k + 3) 0 - 1
