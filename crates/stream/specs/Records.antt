-- THE RECORD STREAM: "It reads request records from standard input and keeps a table of 256 slots. It also knows operation 5, clear". q is a record's
-- eight bytes, or records one behind the other; z is what the program keeps.
use Rattle.std.specs.Prelude.{Bool, not, cond, List, [], ◌∷◌, ◌++◌, ℕ, zero, suc, ◌*◌, ◌/◌, ◌%◌, eqb, ℤ, pos, length, take, drop, replicate}
use Rattle.rules.specs.Tests.{all}
use Rattle.rules.specs.Surface.{rect}
use Rattle.rules.specs.Judging.{Line, ◌when◌, first}
use Rattle.rules.specs.Requests.{operation, rule_of, id_low, id_high, wide, high, byte6, byte7, step_of, answer_of, table_after, weights_after}
use Rattle.rules.specs.Blocks.{request}
use Rattle.rules.specs.Empties.{corners}
use Rattle.rules.specs.Calls.{bad_size, cleared_weights, cleared_table, entries_of, room_after}
use Rattle.rules.specs.Refusals.{Step, Refused, Done}

-- what is kept between records: W and H, both 0 while there is no surface; a room for weights, the surface's W-as-H from its start; the table
pub record Kept : Type 0 where
  pub columns : ℕ
  pub rows : ℕ
  pub room : List ℤ
  pub table : List ℕ

abbrev pub kept : ℕ → ℕ → List ℤ → List ℕ → Kept
kept W H s t = record { columns = W; rows = H; room = s; table = t }

-- what is kept at the start. "keeps a table of 256 slots": all of them free. "Before the first accepted clear" there is no surface; the room takes the
-- weights of the largest, 64×64
abbrev pub first_kept : Kept
first_kept = kept 0 0 (replicate 4096 (pos 0)) (replicate 2048 0)

abbrev pub no_surface : Kept → Bool
no_surface z = eqb z.columns 0

-- the surface's weights, and the room with others in their place
abbrev pub cells : Kept → ℕ
cells z = z.columns * z.rows

abbrev pub weights_in : Kept → List ℤ
weights_in z = take (cells z) z.room

abbrev pub onto : ℕ → List ℤ → List ℤ → List ℤ
onto n new s = new ++ drop n s

-- ---- "operation 5, clear: W and H in bytes 4 and 5, the rest zero; codes 12, then 1"

abbrev pub is_clear : List ℕ → Bool
is_clear q = eqb (operation q) 5

unfoldable pub stray_clear : List ℕ → Bool
stray_clear q = not (all (eqb 0) (rule_of q ∷ id_low q ∷ id_high q ∷ byte6 q ∷ byte7 q ∷ []))

unfoldable pub clear_record_lines : List ℕ → List Line
clear_record_lines q = 12 when stray_clear q ∷ 1 when bad_size (wide q) (high q) ∷ []

unfoldable pub clear_record_code : List ℕ → ℕ
clear_record_code q = first (clear_record_lines q)

-- "accepted, the answer has x = y = 0 and w, h as W, H" (a clear has no slot: the 0 says nothing)
abbrev pub clear_step : List ℕ → ℕ → Step
clear_step q code = cond (eqb code 0) (Done 0 (rect 0 0 (wide q) (high q))) (Refused code)

-- "A refused clear changes nothing."
abbrev pub after_clear : Step → Kept → Kept
after_clear (Refused c) z = z
after_clear (Done i r) z = kept r.w r.h (onto (r.w * r.h) (cleared_weights r.w r.h) z.room) (cleared_table z.table)

-- ---- a request of the library, on the surface that is kept

abbrev pub request_step : List ℕ → Kept → Step
request_step q z = step_of z.columns z.rows z.table q

abbrev pub after_request : List ℕ → Step → Kept → Kept
after_request q d z = kept z.columns z.rows (onto (cells z) (weights_after z.columns z.rows q d z.table (weights_in z)) z.room) (table_after q d z.table)

-- ---- a record

-- "Before the first accepted clear every record of another operation is answered 8."
unfoldable pub record_step : List ℕ → Kept → Step
record_step q z = cond (is_clear q) (clear_step q (clear_record_code q)) (cond (no_surface z) (Refused 8) (request_step q z))

-- code, operation and id as they came, then x, y, w, h; four zeros where it is refused
abbrev pub answer_to : List ℕ → Kept → List ℕ
answer_to q z = answer_of q (record_step q z)

unfoldable pub next_record : List ℕ → Kept → Kept
next_record q z = cond (is_clear q) (after_clear (clear_step q (clear_record_code q)) z) (cond (no_surface z) z (after_request q (request_step q z) z))

-- ---- the records of q in turn: what is kept after the first k, and their answers one behind the other

unfoldable pub after_records : List ℕ → Kept → ℕ → Kept
after_records q z zero = z
after_records q z (suc k) = next_record (request q k) (after_records q z k)

unfoldable pub answers_to : List ℕ → Kept → ℕ → List ℕ
answers_to q z zero = []
answers_to q z (suc k) = answers_to q z k ++ answer_to (request q k) (after_records q z k)

-- how many whole records there are; "where bytes remain after the last whole record, .. N being how many"
abbrev pub records : List ℕ → ℕ
records q = length q / 8

abbrev pub cut : List ℕ → ℕ
cut q = length q % 8

-- what reading on begins with: of the first n bytes of q, those after the last whole record stand at the start; later bytes stay
abbrev pub carried : ℕ → List ℕ → List ℕ
carried n q = take (n % 8) (drop (8 * (n / 8)) q) ++ drop (n % 8) q

-- ---- "then .. each list entry; then .. the two counts (0 if no surface)"

abbrev pub entries_kept : Kept → ℕ
entries_kept z = cond (no_surface z) 0 (length (entries_of z.columns z.rows z.table))

abbrev pub corners_kept : Kept → ℕ
corners_kept z = cond (no_surface z) 0 (corners z.columns z.rows z.table)

-- the room for the list's records, from its start
abbrev pub list_room : Kept → List ℕ → List ℕ
list_room z room = cond (no_surface z) room (room_after z.columns z.rows z.table room)
