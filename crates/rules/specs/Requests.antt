-- REQUESTS: the fields of a request, what it comes to, its answer, and what it leaves in weights and table. q is a request's eight bytes, t the table, s the weights.
use Rattle.std.specs.Prelude.{Bool, false, not, cond, ◌&&◌, ◌||◌, List, [], ◌∷◌, ◌++◌, ℕ, zero, suc, ◌+◌, ◌-◌, ◌*◌, leb, ltb, eqb, ℤ, get_or}
use Rattle.std.proofs.Math.Option.{Option, none, some}
use Rattle.rules.specs.Tests.{any, least, between, keep, all}
use Rattle.rules.specs.Surface.{rect, slots, id_of, rect_of, is_hard, record_of, free_record, free_slot, used_slot, with_record, occupied, fresh}
use Rattle.rules.specs.Empties.{cells_empty, empty, entries, area}
use Rattle.rules.specs.Judging.{Line, ◌when◌, first}
use Rattle.rules.specs.declared.Rect.{Rect}
use Rattle.rules.specs.Refusals.{Step, Refused, Done}

-- ---- "A request is 8 bytes: operation, rule, id low, id high, w, h, then bytes 6 and 7."

abbrev pub operation : List ℕ → ℕ
operation q = get_or q 0 0

abbrev pub rule_of : List ℕ → ℕ
rule_of q = get_or q 1 0

abbrev pub id_low : List ℕ → ℕ
id_low q = get_or q 2 0

abbrev pub id_high : List ℕ → ℕ
id_high q = get_or q 3 0

abbrev pub id_asked : List ℕ → ℕ
id_asked q = id_low q + 256 * id_high q

abbrev pub wide : List ℕ → ℕ
wide q = get_or q 4 0

abbrev pub high : List ℕ → ℕ
high q = get_or q 5 0

abbrev pub byte6 : List ℕ → ℕ
byte6 q = get_or q 6 0

abbrev pub byte7 : List ℕ → ℕ
byte7 q = get_or q 7 0

-- "1 place: by rule. 2 remove: .. 3 pin: .. 4 exchange: .. by rule."
abbrev pub is_place : List ℕ → Bool
is_place q = eqb (operation q) 1

abbrev pub is_remove : List ℕ → Bool
is_remove q = eqb (operation q) 2

abbrev pub is_pin : List ℕ → Bool
is_pin q = eqb (operation q) 3

abbrev pub is_exchange : List ℕ → Bool
is_exchange q = eqb (operation q) 4

-- order 2: "New operation 6 takes the fields of a pin and sets a block"
abbrev pub is_set : List ℕ → Bool
is_set q = eqb (operation q) 6

-- an operation that there is (5 is the program's clear: a run knows it not)
abbrev pub known : List ℕ → Bool
known q = between 1 4 (operation q) || is_set q

-- operations 1 and 4
abbrev pub by_rule : List ℕ → Bool
by_rule q = is_place q || is_exchange q

-- operations 3 and 6: at the place that they name
abbrev pub at_place : List ℕ → Bool
at_place q = is_pin q || is_set q

-- operations 1, 3 and 6
abbrev pub makes_new : List ℕ → Bool
makes_new q = is_place q || at_place q

-- operations 2 and 4
abbrev pub needs_old : List ℕ → Bool
needs_old q = is_remove q || is_exchange q

-- operations 1, 3, 4 and 6
abbrev pub has_size : List ℕ → Bool
has_size q = by_rule q || at_place q

-- the bytes that must be zero: "remove: rule, w and h are zero"; "pin: .. rule is zero"; "Elsewhere bytes 6 and 7 are zero."
unfoldable pub zeros : List ℕ → List ℕ
zeros q =
    cond (is_remove q) (rule_of q ∷ wide q ∷ high q ∷ byte6 q ∷ byte7 q ∷ [])
    (cond (at_place q) (rule_of q ∷ [])
    (cond (by_rule q) (byte6 q ∷ byte7 q ∷ [])
    []))

-- "3 pin: byte 6 is x, byte 7 is y"; 6 "takes the fields of a pin"
abbrev pub pinned : List ℕ → Rect
pinned q = rect (byte6 q) (byte7 q) (wide q) (high q)

-- "0 a module, 1 a block": the kind of what a request puts in
abbrev pub kind_asked : List ℕ → ℕ
kind_asked q = cond (is_set q) 1 0

-- ---- ids and slots

-- slot i is used and has this id
abbrev pub has_id : List ℕ → ℕ → ℕ → Bool
has_id t id i = used_slot t i && eqb (id_of t i) id

-- a module with this id is placed, and its slot
unfoldable pub id_placed : List ℕ → ℕ → Bool
id_placed t id = any (slots t) (has_id t id)

unfoldable pub slot_of : List ℕ → ℕ → ℕ
slot_of t id = least (slots t) (has_id t id)

-- "Place and pin use the lowest free slot"
unfoldable pub some_free : List ℕ → Bool
some_free t = any (slots t) (free_slot t)

unfoldable pub lowest_free : List ℕ → ℕ
lowest_free t = least (slots t) (free_slot t)

-- ---- where a module by rule may stand

-- some position has all its cells empty
unfoldable pub position : (ℕ → ℕ → Bool) → ℕ → ℕ → ℕ → ℕ → Bool
position occ W H w h = any H (λ y. any W (λ x. empty occ W H (rect x y w h)))

-- "Among list entries with room for the module: rule 0 takes the first; rule 1 the least area of the entry less that of the module; rule 2 the
-- least (H − y − h)·W + x of the entry. Ties go to the earlier entry."
abbrev pub fits : ℕ → ℕ → Rect → Bool
fits w h e = leb w e.w && leb h e.h

unfoldable pub cost : ℕ → ℕ → ℕ → ℕ → ℕ → Rect → ℕ
cost W H w h zero e = 0
cost W H w h (suc zero) e = area e - w * h
cost W H w h (suc (suc n)) e = (H - e.y - e.h) * W + e.x

-- the entry of least cost, the earlier of two that cost the same: e so far, then the list
unfoldable pub cheapest : (Rect → ℕ) → Rect → List Rect → Rect
cheapest f e [] = e
cheapest f e (d ∷ l) = cheapest f (cond (ltb (f d) (f e)) d e) l

abbrev pub chosen_of : (Rect → ℕ) → List Rect → Option Rect
chosen_of f [] = none
chosen_of f (e ∷ l) = some (cheapest f e l)

unfoldable pub chosen : (ℕ → ℕ → Bool) → ℕ → ℕ → ℕ → ℕ → ℕ → Option Rect
chosen occ W H rule w h = chosen_of (cost W H w h rule) (keep (fits w h) (entries occ W H))

-- "The module stands in the entry's lower left corner."
abbrev pub lower_left : ℕ → ℕ → Rect → Rect
lower_left w h e = rect e.x (e.y + e.h - h) w h

abbrev pub standing : ℕ → ℕ → Option Rect → Option Rect
standing w h none = none
standing w h (some e) = some (lower_left w h e)

-- the place that the rule chose
unfoldable pub rule_place : (ℕ → ℕ → Bool) → ℕ → ℕ → ℕ → ℕ → ℕ → Option Rect
rule_place occ W H rule w h = standing w h (chosen occ W H rule w h)

abbrev pub any_cell_taken : (ℕ → ℕ → Bool) → Option Rect → Bool
any_cell_taken occ none = false
any_cell_taken occ (some r) = not (cells_empty occ r)

-- ---- the codes, "Given exactly when (lowest first)"; order 2: "23, remove or exchange of a block, follows 16". The first line that applies is given

-- a request is sound when none of these applies
unfoldable pub sound_lines : List ℕ → List ℕ → List Line
sound_lines t q =
    11 when not (known q) ∷
    12 when not (all (eqb 0) (zeros q)) ∷
    13 when (by_rule q && ltb 2 (rule_of q)) ∷
    14 when eqb (id_asked q) 0 ∷
    15 when (makes_new q && id_placed t (id_asked q)) ∷
    16 when (needs_old q && not (id_placed t (id_asked q))) ∷
    23 when (needs_old q && is_hard t (slot_of t (id_asked q))) ∷
    17 when (has_size q && (eqb (wide q) 0 || eqb (high q) 0)) ∷
    []

-- a place by rule is judged on the surface as it stands; order 3: "Exchange is now judged with the old module in its place"
unfoldable pub place_lines : ℕ → ℕ → List ℕ → List ℕ → List Line
place_lines W H t q =
    let occ = occupied t in
    18 when (at_place q && (ltb W (byte6 q + wide q) || ltb H (byte7 q + high q))) ∷
    19 when (makes_new q && not (some_free t)) ∷
    20 when (by_rule q && not (position occ W H (wide q) (high q))) ∷
    21 when (at_place q && not (cells_empty occ (pinned q))) ∷
    22 when (by_rule q && any_cell_taken occ (rule_place occ W H (rule_of q) (wide q) (high q))) ∷
    []

abbrev pub judging : ℕ → ℕ → List ℕ → List ℕ → List Line
judging W H t q = sound_lines t q ++ place_lines W H t q

-- ---- what a request comes to

-- the place of an accepted module by rule (that there is one is a theorem)
abbrev pub or_none : Option Rect → Rect
or_none none = rect 0 0 0 0
or_none (some r) = r

-- an accepted request: "Place and pin use the lowest free slot", and so does a set; "Exchange .. keeps its slot", for "the old one goes when the new one stands"
unfoldable pub accepted_step : ℕ → ℕ → List ℕ → List ℕ → Step
accepted_step W H t q =
    let old = slot_of t (id_asked q) in
    let by_rule_place = or_none (rule_place (occupied t) W H (rule_of q) (wide q) (high q)) in
    cond (is_place q) (Done (lowest_free t) by_rule_place)
    (cond (is_remove q) (Done old (rect_of t old))
    (cond (at_place q) (Done (lowest_free t) (pinned q))
    (cond (is_exchange q) (Done old by_rule_place)
    (Refused 11))))

-- what is done where the code is 0, else the refusal by this code
abbrev pub judged_to : ℕ → Step → Step
judged_to code done = cond (eqb code 0) done (Refused code)

unfoldable pub step_of : ℕ → ℕ → List ℕ → List ℕ → Step
step_of W H t q =
    let code = first (judging W H t q) in
    let done = accepted_step W H t q in
    judged_to code done

-- ---- what each step means: its number, its values, what it leaves

abbrev pub code_of : Step → ℕ
code_of (Refused c) = c
code_of (Done i r) = 0

-- "x, y, w, h: of the new module, or of the removed one. A refusal has four zeros there."
abbrev pub values_of : Step → Rect
values_of (Refused c) = rect 0 0 0 0
values_of (Done i r) = r

-- "The answer is 8 bytes .. code, operation and id as they came, then x, y, w, h"
abbrev pub answer_of : List ℕ → Step → List ℕ
answer_of q d = code_of d ∷ operation q ∷ id_low q ∷ id_high q ∷ (values_of d).x ∷ (values_of d).y ∷ (values_of d).w ∷ (values_of d).h ∷ []

-- "A refused request changes neither weights nor table"; an accepted one changes one record: free after a remove, else the new module's or block's ..
abbrev pub record_after : List ℕ → Rect → List ℕ
record_after q r = cond (is_remove q) free_record (record_of (id_low q) (id_high q) r (kind_asked q))

abbrev pub table_after : List ℕ → Step → List ℕ → List ℕ
table_after q (Refused c) t = t
table_after q (Done i r) t = with_record t i (record_after q r)

-- .. and leaves the weights of the modules that are then placed
abbrev pub weights_after : ℕ → ℕ → List ℕ → Step → List ℕ → List ℤ → List ℤ
weights_after W H q (Refused c) t s = s
weights_after W H q (Done i r) t s = fresh W H (table_after q (Done i r) t)

-- 1 where the request is accepted
abbrev pub accepted_one : Step → ℕ
accepted_one (Refused c) = 0
accepted_one (Done i r) = 1
