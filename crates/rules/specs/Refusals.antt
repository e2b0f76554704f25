-- REFUSALS: the code of each, as the two tables of codes have them; and what a request comes to, refused or done.
use Rattle.std.specs.Prelude.{ℕ, Result, Ok, Err}
use Rattle.rules.specs.declared.Rect.{Rect}
use Rattle.rules.specs.declared.Refusal.{Refusal}
use Rattle.rules.specs.declared.Refusal.TheVariants.{SurfaceSize, WeightsLength, TableLength, BlockLength, AnswersLength, DoesNotStand, RoomShort, NoSurface, UnknownOperation, StrayByte, UnknownRule, NoId, IdPlaced, IdNotPlaced, NoSize, PastTheEdge, NoFreeSlot, NoPosition, PlaceOccupied, ChosenOccupied, OfABlock}

abbrev pub number_of : Refusal → ℕ
-- "W or H not in 1..64"
number_of SurfaceSize = 1
-- "weights not W·H long"
number_of WeightsLength = 2
-- "table not a multiple of 8 bytes, or not 1..256 slots"
number_of TableLength = 3
-- "block not a multiple of 8 bytes, or over 512 requests"
number_of BlockLength = 4
-- "answers not as long as the block"
number_of AnswersLength = 5
-- "the surface does not stand"
number_of DoesNotStand = 6
-- "list room shorter than 8 bytes for each entry"
number_of RoomShort = 7
-- the program: "Before the first accepted clear"
number_of NoSurface = 8
-- "operation not 1..4", and not 6
number_of UnknownOperation = 11
-- "a byte that must be zero is not"
number_of StrayByte = 12
-- "rule over 2"
number_of UnknownRule = 13
-- "id 0"
number_of NoId = 14
-- "id already placed"
number_of IdPlaced = 15
-- "id not placed"
number_of IdNotPlaced = 16
-- "w or h is 0"
number_of NoSize = 17
-- "x + w > W or y + h > H"
number_of PastTheEdge = 18
-- "no free slot"
number_of NoFreeSlot = 19
-- "no position has all its cells empty"
number_of NoPosition = 20
-- "a cell of the place is occupied"
number_of PlaceOccupied = 21
-- "the place that the rule chose has an occupied cell"
number_of ChosenOccupied = 22
-- order 2: "23, remove or exchange of a block"
number_of OfABlock = 23

-- the code that a result comes to: 0 where nothing is refused
abbrev pub result_code : {A : Type 0} → Result A Refusal → ℕ
result_code (Ok a) = 0
result_code (Err r) = number_of r

-- what a request comes to: refused, with its code; or done, with the slot whose record it changes and the rectangle that its answer names: of the
-- module or block that stands there now (place, pin, set, exchange) or of the module that is gone (remove)
pub data Step : Type 0 where
  Refused : ℕ → Step
  Done : ℕ → Rect → Step
