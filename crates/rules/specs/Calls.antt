-- THE FOUR CALLS: code, counts and every lent buffer afterwards, for any numbers and any bytes. "Each call returns a code and its counts; the
-- counts are 0 when it refuses." "A refused call writes to no lent buffer."
--
-- Each is stated over `bad`: whether the weights have the wrong length. That is tested in bytes, as the host lends them (Host), and in numbers for the
-- figures (Figures).
use Rattle.std.specs.Prelude.{Bool, not, cond, ◌||◌, List, [], ◌∷◌, ◌++◌, ℕ, ◌+◌, ◌*◌, ◌/◌, ◌%◌, ltb, eqb, ℤ, pos, length, drop, replicate}
use Rattle.rules.specs.Tests.{between, tab}
use Rattle.rules.specs.Surface.{occupied, stands, used_slots}
use Rattle.rules.specs.Empties.{entries, entry_records, corners}
use Rattle.rules.specs.Judging.{Line, ◌when◌, first}
use Rattle.rules.specs.Blocks.{State, started, requests, after}
use Rattle.rules.specs.declared.Rect.{Rect}

-- ---- the codes, "Given exactly when"; "The lowest code that applies is given."

-- 1: W or H not in 1..64. (2 is `bad`)
unfoldable pub bad_size : ℕ → ℕ → Bool
bad_size W H = not (between 1 64 W) || not (between 1 64 H)

-- 3: table not a multiple of 8 bytes, or not 1..256 slots; n is its length
unfoldable pub bad_table : ℕ → Bool
bad_table n = not (eqb (n % 8) 0) || not (between 1 256 (n / 8))

-- 4: block not a multiple of 8 bytes, or over 512 requests; n is its length
unfoldable pub bad_block : ℕ → Bool
bad_block n = not (eqb (n % 8) 0) || ltb 512 (n / 8)

-- 5: answers not as long as the block
abbrev pub bad_answers : List ℕ → List ℕ → Bool
bad_answers q a = not (eqb (length a) (length q))

-- 6: the surface does not stand
abbrev pub fallen : ℕ → ℕ → List ℤ → List ℕ → Bool
fallen W H s t = not (stands W H s t)

-- the entries of the list of a table's surface
abbrev pub entries_of : ℕ → ℕ → List ℕ → List Rect
entries_of W H t = entries (occupied t) W H

-- 7: list room shorter than 8 bytes for each entry
abbrev pub short_room : ℕ → ℕ → List ℕ → List ℕ → Bool
short_room W H t room = ltb (length room) (8 * length (entries_of W H t))

-- every call begins with these, n being the table's length, and all but clear go on to ask whether the surface stands
abbrev pub size_lines : Bool → ℕ → ℕ → ℕ → List Line
size_lines bad W H n = 1 when bad_size W H ∷ 2 when bad ∷ 3 when bad_table n ∷ []

abbrev pub stand_lines : ℕ → ℕ → List ℤ → List ℕ → List Line
stand_lines W H s t = let unsound = fallen W H s t in 6 when unsound ∷ []

-- "A result is code + 2^16·first count + 2^32·second."
abbrev pub result_of : ℕ → ℕ → ℕ → ℕ
result_of code one two = code + 65536 * one + 4294967296 * two

abbrev pub code_of_result : ℕ → ℕ
code_of_result r = r % 65536

abbrev pub first_of_result : ℕ → ℕ
first_of_result r = r / 65536 % 65536

abbrev pub second_of_result : ℕ → ℕ
second_of_result r = r / 4294967296 % 65536

-- ---- clear: codes 1, 2, 3; no count

unfoldable pub clear_lines : Bool → ℕ → ℕ → List ℕ → List Line
clear_lines bad W H t = size_lines bad W H (length t)

unfoldable pub clear_code : Bool → ℕ → ℕ → List ℕ → ℕ
clear_code bad W H t = first (clear_lines bad W H t)

-- "Clear frees all slots and gives cell (x, y) weight y + 1."
abbrev pub cleared_table : List ℕ → List ℕ
cleared_table t = replicate (length t) 0

unfoldable pub cleared_weights : ℕ → ℕ → List ℤ
cleared_weights W H = tab (W * H) (λ k. pos (k / W + 1))

pub record Cleared : Type 0 where
  pub code : ℕ
  pub weights : List ℤ
  pub table : List ℕ

unfoldable pub clear_with : Bool → ℕ → ℕ → List ℤ → List ℕ → Cleared
clear_with bad W H s t =
    let done = eqb (clear_code bad W H t) 0 in
    let weights = cleared_weights W H in
    let table = cleared_table t in
    record { code = clear_code bad W H t; weights = cond done weights s; table = cond done table t }

abbrev pub clear_result : Cleared → ℕ
clear_result r = result_of r.code 0 0

-- ---- check: codes 1, 2, 3, 6; counts the used slots. It writes nothing

unfoldable pub check_lines : Bool → ℕ → ℕ → List ℤ → List ℕ → List Line
check_lines bad W H s t = size_lines bad W H (length t) ++ stand_lines W H s t

unfoldable pub check_code : Bool → ℕ → ℕ → List ℤ → List ℕ → ℕ
check_code bad W H s t = first (check_lines bad W H s t)

pub record Checked : Type 0 where
  pub code : ℕ
  pub used : ℕ

unfoldable pub check_with : Bool → ℕ → ℕ → List ℤ → List ℕ → Checked
check_with bad W H s t =
    let used = used_slots t in
    record { code = check_code bad W H s t; used = cond (eqb (check_code bad W H s t) 0) used 0 }

abbrev pub check_result : Checked → ℕ
check_result r = result_of r.code r.used 0

-- ---- run a block: codes 1 to 6; counts the requests accepted

unfoldable pub run_lines : Bool → ℕ → ℕ → List ℤ → List ℕ → List ℕ → List ℕ → List Line
run_lines bad W H s t q a = size_lines bad W H (length t) ++ (4 when bad_block (length q) ∷ 5 when bad_answers q a ∷ []) ++ stand_lines W H s t

unfoldable pub run_code : Bool → ℕ → ℕ → List ℤ → List ℕ → List ℕ → List ℕ → ℕ
run_code bad W H s t q a = first (run_lines bad W H s t q a)

pub record Ran : Type 0 where
  pub code : ℕ
  pub accepted : ℕ
  pub weights : List ℤ
  pub table : List ℕ
  pub answers : List ℕ

unfoldable pub run_with : Bool → ℕ → ℕ → List ℤ → List ℕ → List ℕ → List ℕ → Ran
run_with bad W H s t q a =
    let done = eqb (run_code bad W H s t q a) 0 in
    let end = after W H q (started s t) (requests q) in
    let refused : State = record { weights = s; table = t; answers = a; accepted = 0 } in
    let left : State = cond done end refused in
    record { code = run_code bad W H s t q a; accepted = left.accepted; weights = left.weights; table = left.table; answers = left.answers }

abbrev pub run_result : Ran → ℕ
run_result r = result_of r.code r.accepted 0

-- ---- list: codes 1, 2, 3, 6, 7; counts entries and corners. It writes to the room alone

unfoldable pub list_lines : Bool → ℕ → ℕ → List ℤ → List ℕ → List ℕ → List Line
list_lines bad W H s t room = let too_short = short_room W H t room in size_lines bad W H (length t) ++ stand_lines W H s t ++ (7 when too_short ∷ [])

unfoldable pub list_code : Bool → ℕ → ℕ → List ℤ → List ℕ → List ℕ → ℕ
list_code bad W H s t room = first (list_lines bad W H s t room)

pub record Listed : Type 0 where
  pub code : ℕ
  pub entries : ℕ
  pub corners : ℕ
  pub room : List ℕ

-- "List writes its entries from the start of the room; later bytes stay."
abbrev pub room_after : ℕ → ℕ → List ℕ → List ℕ → List ℕ
room_after W H t room = entry_records (entries_of W H t) ++ drop (8 * length (entries_of W H t)) room

unfoldable pub list_with : Bool → ℕ → ℕ → List ℤ → List ℕ → List ℕ → Listed
list_with bad W H s t room =
    let done = eqb (list_code bad W H s t room) 0 in
    let found = length (entries_of W H t) in
    let turns = corners W H t in
    let written = room_after W H t room in
    record { code = list_code bad W H s t room; entries = cond done found 0; corners = cond done turns 0; room = cond done written room }

abbrev pub list_result : Listed → ℕ
list_result r = result_of r.code r.entries r.corners
