-- THE HOST'S CALLS: the same four on lent bytes. "The host firmware is C and calls the library through plain numbers and lent bytes: wider
-- numbers go low byte first, signed in two's complement; a list of them is lent as bytes there and its length tested in bytes (weights: 2·W·H)."
use Rattle.std.specs.Prelude.{◌≡◌, Bool, not, cond, List, [], ◌∷◌, ℕ, ◌+◌, ◌-◌, ◌*◌, ◌/◌, ◌%◌, ltb, eqb, ℤ, pos, negsuc, length, get_or}
use Rattle.rules.specs.Tests.{tab}
use Rattle.rules.specs.Calls.{clear_with, clear_result, check_with, check_result, run_with, run_result, list_with, list_result}

-- ---- weights as bytes

-- the signed number of 16 bits, in two's complement
abbrev pub signed16 : ℕ → ℤ
signed16 n = cond (ltb n 32768) (pos n) (negsuc (65535 - n))

-- its 16 bits
abbrev pub bits16 : ℤ → ℕ
bits16 (pos n) = n
bits16 (negsuc n) = 65535 - n

-- the weight that stands at bytes 2k and 2k + 1, low byte first
abbrev pub weight_at : List ℕ → ℕ → ℤ
weight_at b k = signed16 (get_or b (2 * k) 0 + 256 * get_or b (2 * k + 1) 0)

unfoldable pub weights_of : List ℕ → List ℤ
weights_of b = tab (length b / 2) (weight_at b)

-- the bytes that hold weights
unfoldable pub bytes_of : List ℤ → List ℕ
bytes_of [] = []
bytes_of (z ∷ s) = bits16 z % 256 ∷ bits16 z / 256 ∷ bytes_of s

-- ---- what the host lends of a surface: the bytes of its weights, and its table

pub record LentSurface : Type 0 where
  pub weights : List ℕ
  pub table : List ℕ

abbrev pub lent : List ℕ → List ℕ → LentSurface
lent b t = record { weights = b; table = t }

-- 2: the weights' bytes are not 2·W·H
abbrev pub bad_bytes : ℕ → ℕ → LentSurface → Bool
bad_bytes W H l = not (eqb (length l.weights) (2 * (W * H)))

-- its weights, as they were lent
abbrev pub weights_in : LentSurface → List ℤ
weights_in l = weights_of l.weights

-- ---- what each call returns and leaves: the result number, the surface, and every other buffer that is lent for writing

pub record HostCleared : Type 0 where
  pub result : ℕ
  pub left : LentSurface

unfoldable pub host_clear : ℕ → ℕ → LentSurface → HostCleared
host_clear W H l =
    let r = clear_with (bad_bytes W H l) W H (weights_in l) l.table in
    let written = bytes_of r.weights in
    record { result = clear_result r; left = lent (cond (eqb r.code 0) written l.weights) r.table }

unfoldable pub host_check : ℕ → ℕ → LentSurface → ℕ
host_check W H l = check_result (check_with (bad_bytes W H l) W H (weights_in l) l.table)

pub record HostRan : Type 0 where
  pub result : ℕ
  pub left : LentSurface
  pub answers : List ℕ

unfoldable pub host_run : ℕ → ℕ → LentSurface → List ℕ → List ℕ → HostRan
host_run W H l q a =
    let r = run_with (bad_bytes W H l) W H (weights_in l) l.table q a in
    let written = bytes_of r.weights in
    record { result = run_result r; left = lent (cond (eqb r.code 0) written l.weights) r.table; answers = r.answers }

pub record HostListed : Type 0 where
  pub result : ℕ
  pub room : List ℕ

unfoldable pub host_list : ℕ → ℕ → LentSurface → List ℕ → HostListed
host_list W H l room =
    let r = list_with (bad_bytes W H l) W H (weights_in l) l.table room in
    record { result = list_result r; room = r.room }

-- ---- WHAT EACH EXPORTED CALL PROMISES, for any numbers and any bytes: l is what it was lent of the surface, r what it returned, a prime marks what a buffer holds
-- afterwards. Check promises r ≡ host_check W H l. Buffers lent for reading cannot change

pub record HostClearedBy (W H : ℕ) (l : LentSurface) (r : ℕ) (l' : LentSurface) : Type 0 where
  pub result : r ≡ (host_clear W H l).result
  pub left : l' ≡ (host_clear W H l).left

pub record HostRanBy (W H : ℕ) (l : LentSurface) (q a : List ℕ) (r : ℕ) (l' : LentSurface) (a' : List ℕ) : Type 0 where
  pub result : r ≡ (host_run W H l q a).result
  pub left : l' ≡ (host_run W H l q a).left
  pub answers : a' ≡ (host_run W H l q a).answers

pub record HostListedBy (W H : ℕ) (l : LentSurface) (room : List ℕ) (r : ℕ) (room' : List ℕ) : Type 0 where
  pub result : r ≡ (host_list W H l room).result
  pub written : room' ≡ (host_list W H l room).room
