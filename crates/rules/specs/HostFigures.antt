-- THE HOST'S FIGURES, computed through the definitions that the exported contracts cite: result numbers and lent bytes, in worked case D and on a row of 64
-- cells; a refusal of each code by each call that gives it, every buffer as it was; −1 and −64 as bytes, both ways.
use Rattle.std.specs.Prelude.{◌≡◌, refl, Bool, true, ◌&&◌, ◌||◌, List, [], ◌∷◌, ◌++◌, ℕ, ◌+◌, ◌*◌, eqb, ℤ, length, replicate}
use Rattle.rules.specs.Tests.{all, chain}
use Rattle.rules.specs.Host
use Rattle.rules.specs.Calls.{code_of_result}
use Rattle.rules.specs.Host.{lent, weights_of, bytes_of, host_clear, host_check, host_run, host_list}
use Rattle.rules.specs.Figures
use Rattle.rules.specs.Figures.{same_items, eight, free, e, o}

abbrev same : List ℕ → List ℕ → Bool
same a b = same_items eqb a b

-- ---- a surface from clear to list, as a host sees it

pub record HostCase : Type 0 where
  -- the surface, and its weights' bytes once it is cleared
  pub w : ℕ
  pub h : ℕ
  pub slots : ℕ
  pub cleared : List ℕ
  -- the requests, and what run returns and leaves
  pub block : List ℕ
  pub ran : ℕ
  pub answers : List ℕ
  pub weights : List ℕ
  pub table : List ℕ
  -- what check returns; what list returns and writes, and the bytes of the room behind it
  pub checked : ℕ
  pub listed : ℕ
  pub records : List ℕ
  pub spare : List ℕ

-- whoever unfolds `host_holds` unfolds the host's definitions and all the rules
unfoldable pub host_holds : HostCase → Bool
unfolding Figures.case_holds Host.weights_of Host.bytes_of Host.host_clear Host.host_check Host.host_run Host.host_list
host_holds c =
    let blank = host_clear c.w c.h (lent (replicate (2 * (c.w * c.h)) 9) (replicate (8 * c.slots) 9)) in
    let ran = host_run c.w c.h blank.left c.block (replicate (length c.block) 9) in
    let found = host_list c.w c.h ran.left (replicate (length c.records) 9 ++ c.spare) in
    eqb blank.result 0 && same blank.left.weights c.cleared && same blank.left.table (replicate (8 * c.slots) 0)
    && eqb ran.result c.ran && same ran.answers c.answers && same ran.left.weights c.weights && same ran.left.table c.table
    && eqb (host_check c.w c.h ran.left) c.checked
    && eqb found.result c.listed && same found.room (c.records ++ c.spare)

-- D: 3×3, pin id 7, 1×1 at (1,1): weights 1 1 1 / 2 −1 2 / 3 1 3. 1 accepted; 1 slot used; 4 entries and
-- 3 corners, 4·2^16 + 3·2^32 = 12885164032
abbrev cleared_d : List ℕ
cleared_d = 1 ∷ 0 ∷ 1 ∷ 0 ∷ 1 ∷ 0 ∷ 2 ∷ 0 ∷ 2 ∷ 0 ∷ 2 ∷ 0 ∷ 3 ∷ 0 ∷ 3 ∷ 0 ∷ 3 ∷ 0 ∷ []

abbrev weights_d : List ℕ
weights_d = 1 ∷ 0 ∷ 1 ∷ 0 ∷ 1 ∷ 0 ∷ 2 ∷ 0 ∷ 255 ∷ 255 ∷ 2 ∷ 0 ∷ 3 ∷ 0 ∷ 1 ∷ 0 ∷ 3 ∷ 0 ∷ []

abbrev table_d : List ℕ
table_d = eight 7 0 1 1 1 1 0 0 ++ free

abbrev host_d : HostCase
host_d = record {
  w = 3;
  h = 3;
  slots = 2;
  cleared = cleared_d;
  block = eight 3 0 7 0 1 1 1 1;
  ran = 65536;
  answers = eight 0 3 7 0 1 1 1 1;
  weights = weights_d;
  table = table_d;
  checked = 65536;
  listed = 12885164032;
  records = eight 0 0 3 1 3 0 0 0 ++ eight 0 0 1 3 3 0 0 0 ++ eight 0 2 3 1 3 0 0 0 ++ eight 2 0 1 3 3 0 0 0;
  spare = 9 ∷ 8 ∷ 7 ∷ [];
}

-- 64×1: id 5 comes and goes, then id 258 fills the row, −64 to −1. 3 accepted; 1 slot used; nothing to list, and the whole room stays
abbrev host_row : HostCase
host_row = record {
  w = 64;
  h = 1;
  slots = 1;
  cleared = chain 64 (λ c. 1 ∷ 0 ∷ []);
  block = eight 3 0 5 0 1 1 3 0 ++ eight 2 0 5 0 0 0 0 0 ++ eight 3 0 2 1 64 1 0 0 ++ eight 2 0 5 0 0 0 0 0;
  ran = 196608;
  answers = eight 0 3 5 0 3 0 1 1 ++ eight 0 2 5 0 3 0 1 1 ++ eight 0 3 2 1 0 0 64 1 ++ eight 16 2 5 0 0 0 0 0;
  weights = chain 64 (λ c. (192 + c) ∷ 255 ∷ []);
  table = eight 2 1 0 0 64 1 0 0;
  checked = 65536;
  listed = 0;
  records = [];
  spare = 9 ∷ 8 ∷ 7 ∷ [];
}

-- THE HOST'S CASES HOLD
pub host_cases_hold : all host_holds (host_d ∷ host_row ∷ []) ≡ true
unfolding host_holds
host_cases_hold = refl

-- ---- refusals: D's surface is lent, with one thing or another that is not as it must be

pub record Loan : Type 0 where
  pub w : ℕ
  pub h : ℕ
  pub weights : List ℕ
  pub table : List ℕ
  pub block : List ℕ
  pub answers : List ℕ
  pub room : List ℕ

-- what each call returns of it
pub record Refusal : Type 0 where
  pub loan : Loan
  pub cleared : ℕ
  pub checked : ℕ
  pub ran : ℕ
  pub listed : ℕ

-- "A refused call writes to no lent buffer."
abbrev stays : ℕ → List ℕ → List ℕ → Bool
stays result old new = eqb (code_of_result result) 0 || same new old

unfoldable pub refuses : Refusal → Bool
unfolding host_holds
refuses c =
    let l = c.loan in
    let so = lent l.weights l.table in
    let blank = host_clear l.w l.h so in
    let ran = host_run l.w l.h so l.block l.answers in
    let found = host_list l.w l.h so l.room in
    eqb blank.result c.cleared && stays blank.result l.weights blank.left.weights && stays blank.result l.table blank.left.table
    && eqb (host_check l.w l.h so) c.checked
    && eqb ran.result c.ran && stays ran.result l.weights ran.left.weights && stays ran.result l.table ran.left.table && stays ran.result l.answers ran.answers
    && eqb found.result c.listed && stays found.result l.room found.room

-- as it must be: a removal of id 7, and room for the 4 entries
abbrev block : List ℕ
block = eight 2 0 7 0 0 0 0 0

abbrev nines : ℕ → List ℕ
nines n = replicate n 9

abbrev sized : ℕ → ℕ → List ℕ → Loan
sized w h weights = record { w = w; h = h; weights = weights; table = table_d; block = block; answers = nines 8; room = nines 32 }

abbrev stored : List ℕ → List ℕ → Loan
stored weights table = record { w = 3; h = 3; weights = weights; table = table; block = block; answers = nines 8; room = nines 32 }

abbrev asked : List ℕ → List ℕ → List ℕ → Loan
asked block answers room = record { w = 3; h = 3; weights = weights_d; table = table_d; block = block; answers = answers; room = room }

-- −2 in the middle, where −1 is right
abbrev fallen_d : List ℕ
fallen_d = 1 ∷ 0 ∷ 1 ∷ 0 ∷ 1 ∷ 0 ∷ 2 ∷ 0 ∷ 254 ∷ 255 ∷ 2 ∷ 0 ∷ 3 ∷ 0 ∷ 1 ∷ 0 ∷ 3 ∷ 0 ∷ []

-- and all together: the first of these is given
abbrev worse : ℕ → List ℕ → List ℕ → List ℕ → ℕ → Loan
worse w weights table block answers = record { w = w; h = 3; weights = weights; table = table; block = block; answers = nines answers; room = [] }

abbrev row : Loan → ℕ → ℕ → ℕ → ℕ → Refusal
row loan cleared checked ran listed = record { loan = loan; cleared = cleared; checked = checked; ran = ran; listed = listed }

abbrev refusals : List Refusal
refusals =
    -- 1: W or H not in 1..64
    row (sized 0 3 []) 1 1 1 1
    ∷ row (sized 3 0 []) 1 1 1 1
    ∷ row (sized 65 1 (nines 130)) 1 1 1 1
    ∷ row (sized 1 65 (nines 130)) 1 1 1 1
    -- 2: weights not 2·W·H bytes long
    ∷ row (sized 3 3 (nines 9)) 2 2 2 2
    ∷ row (sized 3 3 (nines 17)) 2 2 2 2
    ∷ row (sized 3 3 (weights_d ++ nines 1)) 2 2 2 2
    -- 3: table not a multiple of 8 bytes, or not 1..256 slots
    ∷ row (stored weights_d (nines 15)) 3 3 3 3
    ∷ row (stored weights_d []) 3 3 3 3
    ∷ row (stored weights_d (nines 2056)) 3 3 3 3
    -- 4: block not a multiple of 8 bytes, or over 512 requests
    ∷ row (asked (nines 12) (nines 12) (nines 32)) 0 65536 4 12885164032
    ∷ row (asked (nines 4104) (nines 4104) (nines 32)) 0 65536 4 12885164032
    -- 5: answers not as long as the block
    ∷ row (asked block (nines 7) (nines 32)) 0 65536 5 12885164032
    ∷ row (asked block (nines 16) (nines 32)) 0 65536 5 12885164032
    -- 6: the surface does not stand: a weight, a spare byte, an id twice
    ∷ row (stored fallen_d table_d) 0 6 6 6
    ∷ row (stored weights_d (eight 7 0 1 1 1 1 0 1 ++ free)) 0 6 6 6
    ∷ row (stored weights_d (table_d ++ table_d)) 0 6 6 6
    -- 7: list room shorter than 8 bytes for each entry
    ∷ row (asked block (nines 8) (nines 31)) 0 65536 65536 7
    ∷ row (asked block (nines 8) []) 0 65536 65536 7
    -- one fault behind the other
    ∷ row (worse 0 (nines 19) (nines 15) (nines 12) 7) 1 1 1 1
    ∷ row (worse 3 (nines 19) (nines 15) (nines 12) 7) 2 2 2 2
    ∷ row (worse 3 fallen_d (nines 15) (nines 12) 7) 3 3 3 3
    ∷ row (worse 3 fallen_d table_d (nines 12) 7) 0 6 4 6
    ∷ row (worse 3 fallen_d table_d block 7) 0 6 5 6
    ∷ row (worse 3 fallen_d table_d block 8) 0 6 6 6
    ∷ []

-- EACH REFUSAL HAS ITS CODE, COUNTS OF 0, AND EVERY BUFFER AS IT WAS
pub refusals_hold : all refuses refusals ≡ true
unfolding refuses
refusals_hold = refl

-- ---- "signed in two's complement", "low byte first", both ways: −1, −64, 1, 64 and 4096

abbrev some : List ℤ
some = o 1 ∷ o 64 ∷ e 1 ∷ e 64 ∷ e 4096 ∷ []

abbrev some_bytes : List ℕ
some_bytes = 255 ∷ 255 ∷ 192 ∷ 255 ∷ 1 ∷ 0 ∷ 64 ∷ 0 ∷ 0 ∷ 16 ∷ []

pub signs_hold : (bytes_of some ≡ some_bytes) × (weights_of some_bytes ≡ some)
unfolding host_holds
signs_hold = (refl, refl)
