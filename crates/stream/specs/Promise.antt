-- WHAT THE FUNCTIONS PROMISE of sizes and slices, in the words of `Records`. z is what was kept before.
use Rattle.std.specs.Prelude.{◌≡◌, Bool, true, false, ◌||◌, List, ℕ, ◌*◌, ◌≤◌, ◌<◌, eqb, ℤ, length, take}
use Rattle.rules.specs.Surface.{Standing}
use Rattle.rules.specs.Requests.{operation}
use Rattle.rules.specs.Blocks.{request}
use Rattle.stream.specs.Records.{Kept, is_clear, clear_record_code, answer_to, next_record, records, after_records, answers_to, entries_kept, corners_kept, list_room}

-- sizes and slices are as long as the program's, and the surface stands where there is one
pub record Ready (w h : ℕ) (s : List ℤ) (t : List ℕ) : Type 0 where
  pub long : length s ≡ 4096
  pub slots : length t ≡ 2048
  pub stands : (w ≡ 0 → ⊥) → Standing w h (take (w * h) s) t

-- they are what z says
pub record Holds (z : Kept) (w h : ℕ) (s : List ℤ) (t : List ℕ) : Type 0 where
  pub columns : w ≡ z.columns
  pub rows : h ≡ z.rows
  pub room : s ≡ z.room
  pub table : t ≡ z.table

-- a record q is served
pub record Served (q : List ℕ) (z : Kept) (w h : ℕ) (s : List ℤ) (t a : List ℕ) : Type 0 where
  pub holds : Holds (next_record q z) w h s t
  pub answer : a ≡ answer_to q z
  pub ready : Ready w h s t

-- the records q are served
pub record ServedAll (q : List ℕ) (z : Kept) (w h : ℕ) (s : List ℤ) (t a : List ℕ) : Type 0 where
  pub holds : Holds (after_records q z (records q)) w h s t
  pub answers : a ≡ answers_to q z (records q)
  pub ready : Ready w h s t

-- a record is an accepted clear
abbrev pub AcceptedClear : List ℕ → Type 0
AcceptedClear q = (operation q ≡ 5) × (clear_record_code q ≡ 0)

-- the first n records of q are requests of the library
abbrev pub Requests : List ℕ → ℕ → Type 0
Requests q n = (j : ℕ) → j < n → operation (request q j) ≡ 5 → ⊥

-- q is served by itself: a clear, and any record before there is a surface
unfoldable pub apart : ℕ → List ℕ → Bool
apart w q = eqb w 0 || is_clear q

-- the first m records of q are served together: one by itself, or requests on the surface that there is
pub record Together (w : ℕ) (q : List ℕ) (m : ℕ) : Type 0 where
  pub alone : apart w q ≡ true → m ≡ 1
  pub requests : apart w q ≡ false → Requests q m

-- the list is written, and counted; there is room for it
pub record ListedBy (z : Kept) (room : List ℕ) (n c : ℕ) (room' : List ℕ) : Type 0 where
  pub entries : n ≡ entries_kept z
  pub corners : c ≡ corners_kept z
  pub written : room' ≡ list_room z room
  pub fits : 8 * n ≤ length room'
