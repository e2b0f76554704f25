-- THE THREE DEMANDS AND THE ORDERS ON THE EXPORTED CALLS: the file to open first. Each statement stands under the sentence of document 00 or 02 that it answers. Its hypotheses are the
-- contracts that the four exported functions carry in their source: HostClearedBy, r ≡ host_check .., HostRanBy, HostListedBy (rules/specs/Host). W and H are the sizes, l is what the host
-- lends of a surface, the bytes of its weights and its table; r is the number returned; a prime marks what a buffer holds afterwards. A RunCall c is a call of run: what it was lent, returned
-- and left, and its contract (demands/specs/Chain). The proofs stand in the files that the `use` lines name. No axiom is used.
use mathlib.Core.Path.{◌≡◌}
use mathlib.Core.Bool.{true, false, not, cond, ◌&&◌}
use mathlib.Core.Logic.{◌↔◌}
use mathlib.Core.List.{List, ◌∷◌, ◌++◌, Memᴰ}
use mathlib.Core.Option.{some}
use Prim.Native.Nat.{ℕ, suc, ◌+◌, ◌*◌, ◌≤◌, ◌<◌}
use lib.Dec.{eqb}
use lib.ListN.{length, get_or}
use Rattle.rules.specs.Tests.{count, all}
use Rattle.rules.specs.Surface.{Standing, rect, covers, slots, rect_of, kind_of, free_slot, record_of, free_record, with_record, occupied, cell, fresh, used_slots}
use Rattle.rules.specs.Empties.{on_surface, empty, Empty, bottom_reaches, scanned, scanned_rows}
use Rattle.rules.specs.Judging.{FirstThat}
use Rattle.rules.specs.Requests.{id_low, id_high, id_asked, rule_of, wide, high, by_rule, is_remove, is_exchange, is_set, at_place, makes_new, needs_old, kind_asked, id_placed, slot_of, some_free, lowest_free, pinned, rule_place, judging, step_of, answer_of}
use Rattle.rules.specs.Place.{pin_lines}
use Rattle.rules.specs.Blocks.{requests, request}
use Rattle.rules.specs.Calls.{bad_block, clear_lines, check_lines, run_lines, list_lines, result_of, code_of_result, first_of_result, second_of_result}
use Rattle.rules.specs.Host.{LentSurface, lent, weights_in, bytes_of, bad_bytes, host_check, host_run, HostClearedBy, HostListedBy}
use Rattle.rules.specs.declared.Rect.{Rect}
use Rattle.meaning.proofs.Counts.{used_few, accepted_few}
use Rattle.demands.specs.Sound.{Sound, SlotForIt, SoundTo16, as_pin}
use Rattle.demands.specs.History.{Module, code_in, place_in, history, history_weight}
use Rattle.demands.specs.Told.{Told, Placed, LowestFree, SlotOfId, HardId, HardStays}
use Rattle.demands.specs.Frame.{OneFramed, BytesFramed}
use Rattle.demands.specs.Listed.{HoldsList, bottom_in}
use Rattle.demands.specs.Chain.{RunCall, NotRefused, asked, answered, up_to, joined, ones, Chain, ChainOver, Onward}
use Rattle.demands.specs.Chain.Chain.{cleared}
use Rattle.demands.proofs.Calls as K
use Rattle.demands.proofs.Answered as A
use Rattle.demands.proofs.Chains as C
use Rattle.demands.proofs.Single as S
use Rattle.demands.proofs.Lists as L

-- ==== DEMAND 1: "Bad sizes, lengths, records or a surface that contradicts itself are refused by number, in a fixed order, and a refusal changes neither the surface nor the table."
-- (That each call ends, and reads and writes only what it was lent, is what the prover demands of every function.)

-- ---- the code in a result is that of the first line that applies, 0 where none does. That there is one such code, that a code names its line, and is 0 exactly when none applies: meaning/proofs/Theorems,
-- `first_one`, `given_exactly`, `done_exactly`; of a call's codes it is the lowest (`lowest_given`, with `clear_numbers` and its like); a request's stand in the order 11 to 16, 23, 17 to 22 (`request_numbers`)

pub clear_first : (W H : ℕ) (l : LentSurface) {r : ℕ} {l' : LentSurface} → HostClearedBy W H l r l' → FirstThat (clear_lines (bad_bytes W H l) W H l.table) (code_of_result r)
clear_first = K.clear_first

pub check_first : (W H : ℕ) (l : LentSurface) {r : ℕ} → r ≡ host_check W H l → FirstThat (check_lines (bad_bytes W H l) W H (weights_in l) l.table) (code_of_result r)
check_first = K.check_first

pub run_first : (W H : ℕ) (c : RunCall W H) → FirstThat (run_lines (bad_bytes W H c.lent) W H (weights_in c.lent) c.lent.table c.block c.room) (code_of_result c.result)
run_first W H c = K.run_first W H c.lent c.block c.room c.contract

pub list_first : (W H : ℕ) (l : LentSurface) (room : List ℕ) {r : ℕ} {room' : List ℕ} → HostListedBy W H l room r room' →
    FirstThat (list_lines (bad_bytes W H l) W H (weights_in l) l.table room) (code_of_result r)
list_first = K.list_first

-- a request's code, in the answer that the call has written
pub request_first : (W H : ℕ) (c : RunCall W H) → NotRefused c → (k : ℕ) → k < requests c.block → FirstThat (judging W H (up_to c k).table (asked c k)) (code_in (answered c k))
request_first W H = A.answer_first

-- 22, "the place that the rule chose has an occupied cell", is never given: no answer begins with it
pub request_never_22 : (W H : ℕ) (c : RunCall W H) → NotRefused c → (k : ℕ) → k < requests c.block → get_or c.answers (8 * k) 0 ≡ 22 → ⊥
request_never_22 W H = A.answer_never_22

-- "The answer is 8 bytes, ..: code, operation and id as they came": the code of answer k is byte 8·k
pub code_byte : (a : List ℕ) (k : ℕ) → code_in (request a k) ≡ get_or a (8 * k) 0
code_byte = A.code_byte

-- ---- "a refusal changes neither the surface nor the table": a call; and its counts are 0

pub clear_refused : (W H : ℕ) (l : LentSurface) {r : ℕ} {l' : LentSurface} → HostClearedBy W H l r l' → (code_of_result r ≡ 0 → ⊥) → (l' ≡ l) × (r < 65536)
clear_refused = K.clear_refused

-- (check is lent nothing for writing)
pub check_refused : (W H : ℕ) (l : LentSurface) {r : ℕ} → r ≡ host_check W H l → (code_of_result r ≡ 0 → ⊥) → r < 65536
check_refused = K.check_refused

pub run_refused_lem : (W H : ℕ) (c : RunCall W H) → (NotRefused c → ⊥) → (c.left ≡ c.lent) × (c.answers ≡ c.room) × (c.result < 65536)
run_refused_lem W H c = K.run_refused_lem W H c.lent c.block c.room c.contract

pub list_refused_lem : (W H : ℕ) (l : LentSurface) (room : List ℕ) {r : ℕ} {room' : List ℕ} → HostListedBy W H l room r room' → (code_of_result r ≡ 0 → ⊥) → (room' ≡ room) × (r < 65536)
list_refused_lem = K.list_refused_lem

-- a request: the one behind it finds the surface as it was
pub request_refused : (W H : ℕ) (c : RunCall W H) → NotRefused c → (k : ℕ) → k < requests c.block → (code_in (answered c k) ≡ 0 → ⊥) →
    ((up_to c (suc k)).weights ≡ (up_to c k).weights) × ((up_to c (suc k)).table ≡ (up_to c k).table)
request_refused W H = A.answer_refused

-- and where every request of a block is refused, no byte of weights and table has changed; (the hypothesis says that the weights' bytes are bytes)
pub requests_refused : (W H : ℕ) (c : RunCall W H) → NotRefused c → ((k : ℕ) → get_or c.lent.weights k 0 < 256) → first_of_result c.result ≡ 0 → c.left ≡ c.lent
requests_refused W H = S.none_changes

-- ---- the counts of a call that is done, each in its 16 bits

pub check_counts : (W H : ℕ) (l : LentSurface) {r : ℕ} → r ≡ host_check W H l → code_of_result r ≡ 0 → (first_of_result r ≡ used_slots l.table) × (second_of_result r ≡ 0)
check_counts = K.check_counts

pub check_result_lem : (W H : ℕ) (l : LentSurface) {r : ℕ} → r ≡ host_check W H l → code_of_result r ≡ 0 → r ≡ result_of 0 (used_slots l.table) 0
check_result_lem = K.check_result_lem

pub run_result_lem : (W H : ℕ) (c : RunCall W H) → NotRefused c → c.result ≡ result_of 0 (up_to c (requests c.block)).accepted 0
run_result_lem W H c = K.run_result_lem W H c.lent c.block c.room c.contract

pub used_at_most : (t : List ℕ) → used_slots t ≤ slots t
used_at_most = used_few

pub run_counts : (W H : ℕ) (c : RunCall W H) → NotRefused c → (first_of_result c.result ≡ (up_to c (requests c.block)).accepted) × (second_of_result c.result ≡ 0)
run_counts W H c = K.run_counts W H c.lent c.block c.room c.contract

pub accepted_at_most : (W H : ℕ) (c : RunCall W H) (k : ℕ) → (up_to c k).accepted ≤ k
accepted_at_most W H c = accepted_few W H c.block (weights_in c.lent) c.lent.table

-- ==== DEMAND 2: "The list holds every maximal empty rectangle, as Handa and Vemuri define it, once each and in the stated order, with nothing else in it."

-- the room begins with the records of such a list, its later bytes are as they were, and the two counts are the list's length and the corners
pub list_holds : (W H : ℕ) (l : LentSurface) (room : List ℕ) {r : ℕ} {room' : List ℕ} → HostListedBy W H l room r room' → code_of_result r ≡ 0 → HoldsList W H l room r room'
list_holds = L.holds_list

-- ---- "A sound request by rule, with a free slot where it needs one, is refused exactly when no position on the surface has all its cells empty": request k of a block, refused with any code. Place and
-- exchange alike: order 3, "In demand 2 'no position' is read with the old module counted as occupied" (`old_counted`)

pub request_refused_exactly : (W H : ℕ) (c : RunCall W H) → NotRefused c → (k : ℕ) → k < requests c.block →
    let t = (up_to c k).table in
    let q = asked c k in
    Sound t q → by_rule q ≡ true → SlotForIt t q →
    (code_in (answered c k) ≡ 0 → ⊥) ↔ ((x y : ℕ) → Empty (occupied t) W H (rect x y (wide q) (high q)) → ⊥)
request_refused_exactly W H = A.answer_refused_exactly

-- ---- "an accepted module stands where its rule or pin says": where the answer says, and the table has it there

pub stands_by_rule : (W H : ℕ) (c : RunCall W H) → NotRefused c → (k : ℕ) → k < requests c.block → code_in (answered c k) ≡ 0 →
    let q = asked c k in
    by_rule q ≡ true → rule_place (occupied (up_to c k).table) W H (rule_of q) (wide q) (high q) ≡ some (place_in (answered c k))
stands_by_rule W H c e k l ok = (A.answer_stands_as c e k l ok).rule

pub stands_by_pin : (W H : ℕ) (c : RunCall W H) → NotRefused c → (k : ℕ) → k < requests c.block → code_in (answered c k) ≡ 0 → at_place (asked c k) ≡ true → place_in (answered c k) ≡ pinned (asked c k)
stands_by_pin W H c e k l ok = (A.answer_stands_as c e k l ok).there

pub stands_there : (W H : ℕ) (c : RunCall W H) → NotRefused c → (k : ℕ) → k < requests c.block → code_in (answered c k) ≡ 0 → is_remove (asked c k) ≡ false →
    Placed (up_to c (suc k)).table (id_asked (asked c k)) (place_in (answered c k)) (kind_asked (asked c k))
stands_there W H = A.answer_there

pub removed_gone : (W H : ℕ) (c : RunCall W H) → NotRefused c → (k : ℕ) → k < requests c.block → code_in (answered c k) ≡ 0 → is_remove (asked c k) ≡ true →
    Placed (up_to c k).table (id_asked (asked c k)) (place_in (answered c k)) 0 × (id_placed (up_to c (suc k)).table (id_asked (asked c k)) ≡ false)
removed_gone W H = A.answer_gone

-- ---- "Place and pin use the lowest free slot, so a freed slot is used again. Exchange .. keeps its slot" (and a set is as a pin): the table is the one before the request with one record written, in the slot that was
-- the lowest free one, or in the slot of the id; a remove frees that one

pub lowest_slot : (W H : ℕ) (c : RunCall W H) → NotRefused c → (k : ℕ) → k < requests c.block → code_in (answered c k) ≡ 0 → makes_new (asked c k) ≡ true →
    let t = (up_to c k).table in
    let q = asked c k in
    LowestFree t (lowest_free t) × ((up_to c (suc k)).table ≡ with_record t (lowest_free t) (record_of (id_low q) (id_high q) (place_in (answered c k)) (kind_asked q)))
lowest_slot W H = A.answer_new_slot

pub exchange_slot : (W H : ℕ) (c : RunCall W H) → NotRefused c → (k : ℕ) → k < requests c.block → code_in (answered c k) ≡ 0 → is_exchange (asked c k) ≡ true →
    let t = (up_to c k).table in
    let q = asked c k in
    let i = slot_of t (id_asked q) in
    SlotOfId t i (id_asked q) × ((up_to c (suc k)).table ≡ with_record t i (record_of (id_low q) (id_high q) (place_in (answered c k)) 0))
exchange_slot W H = A.answer_exchange_slot

pub remove_slot : (W H : ℕ) (c : RunCall W H) → NotRefused c → (k : ℕ) → k < requests c.block → code_in (answered c k) ≡ 0 → is_remove (asked c k) ≡ true →
    let t = (up_to c k).table in
    let i = slot_of t (id_asked (asked c k)) in
    SlotOfId t i (id_asked (asked c k)) × ((up_to c (suc k)).table ≡ with_record t i free_record)
remove_slot W H = A.answer_freed_slot

-- ==== DEMAND 3: "Take a cleared surface whose sizes stay and whose cells and table nobody else writes to, and any sequence of requests, accepted and refused, cut anyhow into blocks that are not
-- themselves refused." That is a Chain: it begins with clear's contract on l₀, and goes on with run's, a call for each block of qs. l, a and n are what is left, answered and counted.

-- every cut of requests into blocks of good length, after any clear that is done, is that of a chain: what follows is about all of them
pub host_every_cut : (W H : ℕ) (l₀ : LentSurface) {r : ℕ} {l : LentSurface} → HostClearedBy W H l₀ r l → code_of_result r ≡ 0 →
    (qs : List (List ℕ)) → all (λ q. not (bad_block (length q))) qs ≡ true → ChainOver W H l₀ qs
host_every_cut = C.every_cut

-- its surface stands; a further block is refused for its own length or that of its answers alone
pub chain_stands : (W H : ℕ) (l₀ : LentSurface) {qs : List (List ℕ)} {l : LentSurface} {a : List ℕ} {n : ℕ} → Chain W H l₀ qs l a n → Standing W H (weights_in l) l.table
chain_stands = C.chain_stands

pub chain_runs : (W H : ℕ) (l₀ : LentSurface) {qs : List (List ℕ)} {a : List ℕ} {n : ℕ} (c : RunCall W H) → Chain W H l₀ qs c.lent a n →
    bad_block (length c.block) ≡ false → length c.room ≡ length c.block → NotRefused c
chain_runs = C.chain_runs

-- a call that left what some block that is not itself refused leaves is a link, with that block's requests and the answers that it would have been given
pub chain_link : (W H : ℕ) (l₀ : LentSurface) {qs : List (List ℕ)} {l : LentSurface} {a : List ℕ} {n : ℕ} → Chain W H l₀ qs l a n → (q room : List ℕ) →
    let ran = host_run W H l q room in
    code_of_result ran.result ≡ 0 → (l' : LentSurface) → l' ≡ ran.left → Chain W H l₀ (q ∷ qs) l' (a ++ ran.answers) (n + first_of_result ran.result)
chain_link = C.chain_link

-- a further block whose requests are all refused changes no byte
pub chain_requests_refused : (W H : ℕ) (l₀ : LentSurface) {qs : List (List ℕ)} {a : List ℕ} {n : ℕ} (c : RunCall W H) → Chain W H l₀ qs c.lent a n → NotRefused c →
    first_of_result c.result ≡ 0 → c.left ≡ c.lent
chain_requests_refused W H l₀ c z e = S.none_changes_back c e (C.chain_back W H l₀ z)

-- "A surface stands when ..": clear makes one that does, whatever the buffers held, and run leaves one (the header's "freelist_clear makes one, and freelist_run leaves one"), read from the bytes
-- that the call has written
pub clear_leaves_standing : (W H : ℕ) (l : LentSurface) {r : ℕ} {l' : LentSurface} → HostClearedBy W H l r l' → code_of_result r ≡ 0 → Standing W H (weights_in l') l'.table
clear_leaves_standing W H l p e = C.chain_stands W H l (cleared p e)

pub each_request_leaves_standing : (W H : ℕ) (c : RunCall W H) → NotRefused c → (k : ℕ) → Standing W H (up_to c k).weights (up_to c k).table
each_request_leaves_standing W H = C.each_stands

pub run_leaves_standing : (W H : ℕ) (c : RunCall W H) → NotRefused c → Standing W H (weights_in c.left) c.left.table
run_leaves_standing W H = S.leaves_standing

-- ---- "After each request every cell's weight equals the one worked out afresh from the modules that the history of requests says are placed."

-- at every chain, in the bytes that the host gets back
pub chain_afresh : (W H : ℕ) (l₀ : LentSurface) {qs : List (List ℕ)} {l : LentSurface} {a : List ℕ} {n : ℕ} → Chain W H l₀ qs l a n → (x y : ℕ) → x < W → y < H →
    cell W (weights_in l) x y ≡ history_weight (history (joined qs) a (requests (joined qs))) x y
chain_afresh = C.chain_afresh

-- and inside a further call, after its first k requests: those of qs were before them
pub after_each_request : (W H : ℕ) (l₀ : LentSurface) {qs : List (List ℕ)} {a : List ℕ} {n : ℕ} (c : RunCall W H) → Chain W H l₀ qs c.lent a n → NotRefused c →
    (k : ℕ) → k ≤ requests c.block → (x y : ℕ) → x < W → y < H →
    cell W (up_to c k).weights x y ≡ history_weight (history (joined (c.block ∷ qs)) (a ++ c.answers) (requests (joined qs) + k)) x y
after_each_request = C.each_afresh

-- `up_to` is what the call runs through: its end is what the call leaves and answers, and each answer is that of its request there
pub run_leaves : (W H : ℕ) (c : RunCall W H) → NotRefused c →
    let end = up_to c (requests c.block) in
    (c.left ≡ lent (bytes_of end.weights) end.table) × (c.answers ≡ end.answers)
run_leaves W H c e = (C.call_left c e, C.call_answers c e)

pub run_answers : (W H : ℕ) (c : RunCall W H) → NotRefused c → (k : ℕ) → k < requests c.block → answered c k ≡ answer_of (asked c k) (step_of W H (up_to c k).table (asked c k))
run_answers W H = A.answer_is

-- what a call leaves is, byte for byte, worked out afresh from the table that it leaves; so a block of one request leaves the weights worked out afresh after this request
pub run_leaves_afresh : (W H : ℕ) (c : RunCall W H) → NotRefused c → c.left.weights ≡ bytes_of (fresh W H c.left.table)
run_leaves_afresh W H = S.leaves_afresh

-- and the requests of a chain, each run as a block of its own, have left, answered and counted the same: a block of k is k blocks of one
pub chain_by_ones : (W H : ℕ) (l₀ : LentSurface) {qs : List (List ℕ)} {l : LentSurface} {a : List ℕ} {n : ℕ} → Chain W H l₀ qs l a n → Chain W H l₀ (ones (joined qs) (requests (joined qs))) l a n
chain_by_ones = S.by_ones

-- the table holds exactly the modules and blocks of the history, each in its slot and of its kind, and there is an answer to each request
pub chain_told : (W H : ℕ) (l₀ : LentSurface) {qs : List (List ℕ)} {l : LentSurface} {a : List ℕ} {n : ℕ} → Chain W H l₀ qs l a n → Told (history (joined qs) a (requests (joined qs))) l.table
chain_told = C.chain_told

pub after_each_request_told : (W H : ℕ) (l₀ : LentSurface) {qs : List (List ℕ)} {a : List ℕ} {n : ℕ} (c : RunCall W H) → Chain W H l₀ qs c.lent a n → NotRefused c →
    (k : ℕ) → k ≤ requests c.block → Told (history (joined (c.block ∷ qs)) (a ++ c.answers) (requests (joined qs) + k)) (up_to c k).table
after_each_request_told = C.each_told

pub chain_answers : (W H : ℕ) (l₀ : LentSurface) {qs : List (List ℕ)} {l : LentSurface} {a : List ℕ} {n : ℕ} → Chain W H l₀ qs l a n → length a ≡ length (joined qs)
chain_answers = C.chain_answers

-- ---- "cut anyhow": chains over the same requests, with as many slots, have left, answered and counted the same

pub chain_cut : (W H : ℕ) {l₀ l₁ l l' : LentSurface} {qs qs' : List (List ℕ)} {a a' : List ℕ} {n n' : ℕ} → Chain W H l₀ qs l a n → Chain W H l₁ qs' l' a' n' →
    length l₀.table ≡ length l₁.table → joined qs ≡ joined qs' → (l ≡ l') × (a ≡ a') × (n ≡ n')
chain_cut = C.chain_cut

-- ---- "An accepted request has changed only, in each column of its module, the weights from the module's top row down to the next occupied cell below it or the bottom edge, and one table record;
-- an exchange, only those of the old module and of the new."

pub request_frame : (W H : ℕ) (c : RunCall W H) → NotRefused c → (k : ℕ) → k < requests c.block → code_in (answered c k) ≡ 0 →
    OneFramed W H (asked c k) (place_in (answered c k)) (up_to c k) (up_to c (suc k))
request_frame W H = A.answer_frame

-- and for a block of one request, in a chain, between the bytes that the host has lent and those that it gets back
pub one_request_frame : (W H : ℕ) (l₀ : LentSurface) {qs : List (List ℕ)} {a : List ℕ} {n : ℕ} (c : RunCall W H) → Chain W H l₀ qs c.lent a n → NotRefused c →
    requests c.block ≡ 1 → code_in (answered c 0) ≡ 0 → BytesFramed W H (asked c 0) (place_in (answered c 0)) c.lent c.left
one_request_frame W H l₀ c z e one = S.one_frame c e one (C.chain_back W H l₀ z)

-- a refused one changes no byte
pub one_request_refused : (W H : ℕ) (l₀ : LentSurface) {qs : List (List ℕ)} {a : List ℕ} {n : ℕ} (c : RunCall W H) → Chain W H l₀ qs c.lent a n → NotRefused c →
    requests c.block ≡ 1 → (code_in (answered c 0) ≡ 0 → ⊥) → c.left ≡ c.lent
one_request_refused W H l₀ c z e one = S.one_refused c e one (C.chain_back W H l₀ z)

-- a request is counted exactly when its answer has code 0
pub request_counted : (W H : ℕ) (c : RunCall W H) → NotRefused c → (k : ℕ) → k < requests c.block →
    (up_to c (suc k)).accepted ≡ (up_to c k).accepted + cond (eqb (code_in (answered c k)) 0) 1 0
request_counted W H = A.answer_counted

-- ==== ORDER 1: "Show that the list never has more than W entries for each scanned row, so W times the number of scanned rows is always enough room, and that every entry's bottom row is
-- scanned." (Of the definitions, on every table: meaning/proofs/Theorems, `row_bound`, `list_bound`, `entry_row_scanned`.) Of any call; one that is refused has a first count of 0

pub listed_bound : (W H : ℕ) (l : LentSurface) (room : List ℕ) {r : ℕ} {room' : List ℕ} → HostListedBy W H l room r room' → first_of_result r ≤ W * scanned_rows H l.table
listed_bound = L.listed_bound

-- of the rectangles in the room, at most W have any one bottom row
pub listed_row_bound : (W H : ℕ) (l : LentSurface) (room : List ℕ) {r : ℕ} {room' : List ℕ} → HostListedBy W H l room r room' →
    (y : ℕ) → count (first_of_result r) (λ k. eqb (bottom_in room' k) y) ≤ W
listed_row_bound = L.listed_row_bound

pub listed_row_scanned : (W H : ℕ) (l : LentSurface) (room : List ℕ) {r : ℕ} {room' : List ℕ} → HostListedBy W H l room r room' →
    (k : ℕ) → k < first_of_result r → scanned H l.table (bottom_in room' k) ≡ true
listed_row_scanned = L.listed_row_scanned

-- a room of 8 bytes for each of these is never too short
pub room_enough : (W H : ℕ) (l : LentSurface) (room : List ℕ) {r : ℕ} {room' : List ℕ} → HostListedBy W H l room r room' → 8 * (W * scanned_rows H l.table) ≤ length room →
    code_of_result r ≡ 7 → ⊥
room_enough = L.room_enough

-- so a list gets the code that a check gets; 0 where the surface stands and its weights have their length; and 0 after a clear and blocks that were not refused
pub room_as_check : (W H : ℕ) (l : LentSurface) (room : List ℕ) {r : ℕ} {room' : List ℕ} → HostListedBy W H l room r room' → 8 * (W * scanned_rows H l.table) ≤ length room →
    code_of_result r ≡ code_of_result (host_check W H l)
room_as_check = L.room_as_check

pub room_enough_done : (W H : ℕ) (l : LentSurface) (room : List ℕ) {r : ℕ} {room' : List ℕ} → HostListedBy W H l room r room' → 8 * (W * scanned_rows H l.table) ≤ length room →
    length l.weights ≡ 2 * (W * H) → Standing W H (weights_in l) l.table → code_of_result r ≡ 0
room_enough_done = L.room_enough_done

pub chain_room_enough : (W H : ℕ) (l : LentSurface) (room : List ℕ) {r : ℕ} {room' : List ℕ} → HostListedBy W H l room r room' → 8 * (W * scanned_rows H l.table) ≤ length room →
    {l₀ : LentSurface} {qs : List (List ℕ)} {a : List ℕ} {n : ℕ} → Chain W H l₀ qs l a n → code_of_result r ≡ 0
chain_room_enough = L.chain_room_enough

-- ==== ORDER 2: "Our next device has hard blocks that no trigger may use. Byte 6 of a table record becomes its kind: 0 a module, 1 a block." (Demands 1 to 3 above are of tables with blocks among
-- the modules; a request is sound when none of 11 to 17 and 23 applies.)

-- ---- whatever is asked for, each block stays where it is, byte for byte: after each request; after any run, a refused one too; after any runs, up to the next clear. "Clear removes them too"

pub hard_stays_request : (W H : ℕ) (c : RunCall W H) → NotRefused c → (k : ℕ) → k < requests c.block → HardStays (up_to c k).table (up_to c (suc k)).table
hard_stays_request W H = A.answer_hard_stays

pub hard_stays : (W H : ℕ) (c : RunCall W H) → HardStays c.lent.table c.left.table
hard_stays W H = S.hard_stays

pub hard_stays_on : (W H : ℕ) {l l' : LentSurface} → Onward W H l l' → HardStays l.table l'.table
hard_stays_on W H = S.hard_stays_on

pub clear_frees : (W H : ℕ) (l : LentSurface) {r : ℕ} {l' : LentSurface} → HostClearedBy W H l r l' → code_of_result r ≡ 0 → (i : ℕ) → free_slot l'.table i ≡ true
clear_frees = S.clear_frees

-- in a chain: what the history has once told of a block it tells after every later request (and the table has it in that slot: `chain_told`, `after_each_request_told`)
pub chain_hard_stays : (W H : ℕ) (l₀ : LentSurface) {qs : List (List ℕ)} {l : LentSurface} {a : List ℕ} {n : ℕ} → Chain W H l₀ qs l a n →
    (j k : ℕ) → j ≤ k → k ≤ requests (joined qs) → (m : Module) → m.kind ≡ 1 → Memᴰ m (history (joined qs) a j) → Memᴰ m (history (joined qs) a k)
chain_hard_stays = C.chain_hard_stays

-- what an accepted request puts in shares no cell with a block that was there; and in every table that a call goes through no module, and no other block, shares a cell with a block
pub hard_clear : (W H : ℕ) (c : RunCall W H) → NotRefused c → (k : ℕ) → k < requests c.block → code_in (answered c k) ≡ 0 →
    let t = (up_to c k).table in
    (i : ℕ) → kind_of t i ≡ 1 → (x y : ℕ) → covers (rect_of t i) x y ≡ true → covers (place_in (answered c k)) x y ≡ false
hard_clear W H = A.answer_hard_clear

pub hard_apart : (W H : ℕ) (c : RunCall W H) → NotRefused c → (k : ℕ) →
    let t = (up_to c k).table in
    (i j : ℕ) → (i ≡ j → ⊥) → kind_of t i ≡ 1 → free_slot t j ≡ false → (x y : ℕ) → covers (rect_of t i) x y ≡ true → covers (rect_of t j) x y ≡ false
hard_apart W H = S.hard_apart

-- ---- "23, remove or exchange of a block, follows 16": it is given exactly to a remove or an exchange to which none of 11 to 16 applies and whose id is a block's

pub hard_code : (W H : ℕ) (c : RunCall W H) → NotRefused c → (k : ℕ) → k < requests c.block →
    let t = (up_to c k).table in
    let q = asked c k in
    (code_in (answered c k) ≡ 23) ↔ ((needs_old q ≡ true) × SoundTo16 t q × HardId t (id_asked q))
hard_code W H = A.answer_hard_code

-- ---- "New operation 6 takes the fields of a pin and sets a block, with a pin's refusals in the same order": the code of a pin and of a set is that of the first of the same lines that applies

pub at_place_first : (W H : ℕ) (c : RunCall W H) → NotRefused c → (k : ℕ) → k < requests c.block → at_place (asked c k) ≡ true →
    FirstThat (pin_lines W H (up_to c k).table (asked c k)) (code_in (answered c k))
at_place_first W H = A.answer_at_place_first

-- so a set, and the pin with the same fields, on the same table, are answered the same code and place. (Of the definitions, on every table: meaning/proofs/Theorems, `pin_step_lem`, `set_step`)
pub set_as_pin : (W H : ℕ) (c c' : RunCall W H) → NotRefused c → NotRefused c' → (k k' : ℕ) → k < requests c.block → k' < requests c'.block →
    (up_to c' k').table ≡ (up_to c k).table → is_set (asked c k) ≡ true → asked c' k' ≡ as_pin (asked c k) →
    (code_in (answered c k) ≡ code_in (answered c' k')) × (place_in (answered c k) ≡ place_in (answered c' k'))
set_as_pin W H = A.answer_set_as_pin

-- an accepted set puts its block where it says, into the lowest free slot, of kind 1; what place, pin and exchange put in is of kind 0
pub set_stands : (W H : ℕ) (c : RunCall W H) → NotRefused c → (k : ℕ) → k < requests c.block → code_in (answered c k) ≡ 0 → is_set (asked c k) ≡ true →
    let t = (up_to c k).table in
    let q = asked c k in
    (place_in (answered c k) ≡ pinned q) × LowestFree t (lowest_free t) × ((up_to c (suc k)).table ≡ with_record t (lowest_free t) (record_of (id_low q) (id_high q) (pinned q) 1))
set_stands W H = A.answer_set_stands

pub others_stand : (W H : ℕ) (c : RunCall W H) → NotRefused c → (k : ℕ) → k < requests c.block → code_in (answered c k) ≡ 0 → is_remove (asked c k) ≡ false → is_set (asked c k) ≡ false →
    Placed (up_to c (suc k)).table (id_asked (asked c k)) (place_in (answered c k)) 0
others_stand W H = A.answer_others_stand

-- ==== ORDER 3: "Exchange is now judged with the old module in its place, and the old one goes when the new one stands." (Demand 2 above: `request_refused_exactly`, `stands_by_rule`, on the table with the
-- old module; `exchange_slot`. Demand 3 reads as before. That a refused exchange changes nothing is `request_refused`.)

-- the old module, wherever it stands, is counted as occupied
pub old_counted : (W H : ℕ) (c : RunCall W H) → NotRefused c → (k : ℕ) → k < requests c.block →
    let t = (up_to c k).table in
    let q = asked c k in
    Sound t q → needs_old q ≡ true → (x y : ℕ) → covers (rect_of t (slot_of t (id_asked q))) x y ≡ true → occupied t x y ≡ true
old_counted W H = A.answer_old_counted

-- and no free slot is asked for: whatever the table, a sound exchange is refused exactly when no position is empty with the old module there, and then with 20
pub exchange_refused_exactly : (W H : ℕ) (c : RunCall W H) → NotRefused c → (k : ℕ) → k < requests c.block →
    let t = (up_to c k).table in
    let q = asked c k in
    Sound t q → is_exchange q ≡ true →
    ((code_in (answered c k) ≡ 0 → ⊥) ↔ ((x y : ℕ) → Empty (occupied t) W H (rect x y (wide q) (high q)) → ⊥)) × ((code_in (answered c k) ≡ 0 → ⊥) → code_in (answered c k) ≡ 20)
exchange_refused_exactly W H = A.answer_exchange_exactly

-- ---- "so the new one may not cover a single old cell": what an accepted exchange puts in shares no cell with the old module; and what any accepted request puts in shares none with any module or block that was there

pub exchange_clear_of_old : (W H : ℕ) (c : RunCall W H) → NotRefused c → (k : ℕ) → k < requests c.block → code_in (answered c k) ≡ 0 → is_exchange (asked c k) ≡ true →
    let t = (up_to c k).table in
    (x y : ℕ) → covers (rect_of t (slot_of t (id_asked (asked c k)))) x y ≡ true → covers (place_in (answered c k)) x y ≡ false
exchange_clear_of_old W H = A.answer_clear_of_old

pub stands_clear : (W H : ℕ) (c : RunCall W H) → NotRefused c → (k : ℕ) → k < requests c.block → code_in (answered c k) ≡ 0 → is_remove (asked c k) ≡ false →
    let t = (up_to c k).table in
    (i : ℕ) → free_slot t i ≡ false → (x y : ℕ) → covers (rect_of t i) x y ≡ true → covers (place_in (answered c k)) x y ≡ false
stands_clear W H = A.answer_clear

-- ---- "the old one goes when the new one stands": afterwards no slot but its own has the id (there stands the new one: `exchange_slot`, `stands_there`), and every cell of the old rectangle is empty

pub old_goes : (W H : ℕ) (c : RunCall W H) → NotRefused c → (k : ℕ) → k < requests c.block → code_in (answered c k) ≡ 0 → is_exchange (asked c k) ≡ true →
    let t = (up_to c k).table in
    let t' = (up_to c (suc k)).table in
    let id = id_asked (asked c k) in
    ((j : ℕ) → SlotOfId t' j id → j ≡ slot_of t id) × ((x y : ℕ) → covers (rect_of t (slot_of t id)) x y ≡ true → occupied t' x y ≡ false)
old_goes W H = A.answer_old_goes

-- ==== ORDER 4: "Show the pin test by the weights. .. a rectangle is empty when every cell of its bottom row has a weight of at least its height." (Of the definitions, both ways, and over any occupied
-- test: meaning/proofs/Theorems, `empty_exactly`, `empty_by_weights`, `bottom_is`, `empty_by_columns`. "Answers and promises stay as they are": no contract and no statement above has changed.)

-- in the bytes that a host has lent, where check gives 0: the test of the bottom row's weights says of every rectangle that lies on the surface whether it is empty
pub checked_by_weights : (W H : ℕ) (l : LentSurface) {r : ℕ} → r ≡ host_check W H l → code_of_result r ≡ 0 →
    (a : Rect) → empty (occupied l.table) W H a ≡ (on_surface W H a && bottom_reaches W (weights_in l) a)
checked_by_weights = K.checked_by_weights

-- and by that test pins and sets are answered: 0 exactly where the request is sound, lies on the surface, a slot is free, and every cell of its bottom row has a weight of at least its height; 21
-- exactly where all this is so but the last
pub pin_accepted_exactly : (W H : ℕ) (c : RunCall W H) → NotRefused c → (k : ℕ) → k < requests c.block →
    let t = (up_to c k).table in
    let q = asked c k in
    at_place q ≡ true →
    (code_in (answered c k) ≡ 0) ↔ (Sound t q × (on_surface W H (pinned q) ≡ true) × (some_free t ≡ true) × (bottom_reaches W (up_to c k).weights (pinned q) ≡ true))
pin_accepted_exactly W H c e k l a = A.answer_pin_exactly c e k l a true

pub pin_refused_exactly : (W H : ℕ) (c : RunCall W H) → NotRefused c → (k : ℕ) → k < requests c.block →
    let t = (up_to c k).table in
    let q = asked c k in
    at_place q ≡ true →
    (code_in (answered c k) ≡ 21) ↔ (Sound t q × (on_surface W H (pinned q) ≡ true) × (some_free t ≡ true) × (bottom_reaches W (up_to c k).weights (pinned q) ≡ false))
pin_refused_exactly W H c e k l a = A.answer_pin_exactly c e k l a false
