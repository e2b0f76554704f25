-- THE THEOREMS about the rules, each under the sentence that it answers. The proofs stand in the files that the `use` lines name. No axiom is used.
use mathlib.Core.Path.{◌≡◌, refl}
use mathlib.Core.Bool.{Bool, true, not, ◌&&◌}
use mathlib.Core.Logic.{◌↔◌}
use mathlib.Core.List.{List, [], ◌∷◌, ◌++◌, Memᴰ}
use mathlib.Core.Option.{some}
use Prim.Native.Nat.{ℕ, suc, ◌+◌, ◌-◌, ◌*◌, ◌≤◌, ◌<◌}
use lib.Dec.{leb, eqb}
use lib.IntN.{ℤ, pos}
use lib.ListN.{length, drop}
use lib.Signed.{le_z, lt_z}
use Rattle.rules.specs.Tests.{every, count, keep}
use Rattle.rules.specs.Surface.{occupied, upwards, cell, stands, used_slots}
use Rattle.rules.specs.Empties.{on_surface, cells_empty, empty, bottom_reaches, maximal, Empty, Maximal, entries, Earlier, Ordered, scanned, scanned_rows, corner, corners}
use Rattle.rules.specs.Judging.{Line, first, NoneApplies, FirstThat}
use Rattle.meaning.specs.Numbers.{above, has_code, differ, rising, codes}
use Rattle.rules.specs.Requests.{is_set, at_place, position, rule_place, sound_lines, place_lines, judging, step_of}
use Rattle.rules.specs.Place.{pin_step}
use Rattle.rules.specs.Calls.{clear_lines, check_lines, run_lines, list_lines}
use Rattle.rules.specs.declared.Rect.{Rect}
use Rattle.rules.specs.Refusals.{Refused}
use Rattle.meaning.proofs.Rectangles as R
use Rattle.meaning.proofs.Order as O
use Rattle.meaning.proofs.Bound as B
use Rattle.meaning.proofs.Counts as N
use Rattle.meaning.proofs.Weights as S
use Rattle.meaning.proofs.Bottom as E
use Rattle.meaning.proofs.Corners as C
use Rattle.meaning.proofs.Choice as P
use Rattle.meaning.specs.Rule.{ByRule}
use Rattle.meaning.proofs.First as L
use Rattle.meaning.proofs.Steps as T
use Rattle.meaning.proofs.Operations as Q

-- ---- "A rectangle is empty when it lies on the surface and all its cells are empty. It is maximal when no other empty rectangle contains it."

-- the computed tests say what the definitions over all cells and all rectangles say
pub empty_is : (occ : ℕ → ℕ → Bool) (W H : ℕ) (a : Rect) → (empty occ W H a ≡ true) ↔ Empty occ W H a
empty_is = R.empty_is

pub maximal_is : (occ : ℕ → ℕ → Bool) (W H : ℕ) (a : Rect) → (maximal occ W H a ≡ true) ↔ Maximal occ W H a
maximal_is = R.maximal_is

-- ---- "The list holds every maximal empty rectangle, as Handa and Vemuri define it, once each and in the stated order, with nothing else in it."

pub list_exact : (occ : ℕ → ℕ → Bool) (W H : ℕ) (a : Rect) → Memᴰ a (entries occ W H) ↔ Maximal occ W H a
list_exact = R.entries_are

pub list_in_order : (occ : ℕ → ℕ → Bool) (W H : ℕ) → Ordered Earlier (entries occ W H)
list_in_order = O.entries_ordered

-- what is earlier is another: so each stands in the list once
pub list_once : (a b : Rect) → Earlier a b → a ≡ b → ⊥
list_once = O.earlier_other

-- ---- "the list never has more than W entries for each scanned row, so W times the number of scanned rows is always enough room, and .. every entry's bottom row is scanned" (order 1):
-- on every table, whether its surface stands or not

-- at most W entries have their bottom row at y
pub row_bound : (occ : ℕ → ℕ → Bool) (W H y : ℕ) → length (keep (λ a. eqb (a.y + a.h - 1) y) (entries occ W H)) ≤ W
row_bound = B.row_bound

pub entry_row_scanned : (t : List ℕ) (W H : ℕ) (a : Rect) → Memᴰ a (entries (occupied t) W H) → scanned H t (a.y + a.h - 1) ≡ true
entry_row_scanned t W H a m = C.bottom_scanned t W H a ((R.entries_are (occupied t) W H a).0 m)

-- so at most W for each row of any set of rows that has every entry's bottom row: the scanned rows are such a set, and all rows are
pub rows_bound : (occ : ℕ → ℕ → Bool) (W H : ℕ) (p : ℕ → Bool) → ((a : Rect) → Memᴰ a (entries occ W H) → p (a.y + a.h - 1) ≡ true) → length (entries occ W H) ≤ W * count H p
rows_bound = B.rows_bound

pub list_bound : (W H : ℕ) (t : List ℕ) → length (entries (occupied t) W H) ≤ W * scanned_rows H t
unfolding scanned_rows
list_bound W H t = rows_bound (occupied t) W H (scanned H t) (entry_row_scanned t W H)

-- the scanned rows are no more than the rows, and at most one more than the used slots
pub scanned_rows_few : (H : ℕ) (t : List ℕ) → (scanned_rows H t ≤ H) × (scanned_rows H t ≤ suc (used_slots t))
scanned_rows_few H t = (N.scanned_rows_high H t, N.scanned_rows_used H t)

-- ---- "At most W·H entries exist."

pub list_few : (occ : ℕ → ℕ → Bool) (W H : ℕ) → length (entries occ W H) ≤ W * H
list_few = B.entries_few

pub corners_few : (W H : ℕ) (t : List ℕ) → corners W H t ≤ W * H
corners_few = C.corners_few

-- ---- "the lower right cell of each maximal rectangle is a corner; the reverse does not hold" (the reverse: `corner_of_none` in rules/specs/Examples)

pub lower_right_corner : (t : List ℕ) (W H : ℕ) (a : Rect) → Maximal (occupied t) W H a → corner W H t (a.x + a.w - 1) (a.y + a.h - 1) ≡ true
lower_right_corner = C.lower_right_corner

-- ---- "An empty cell holds the number of empty cells ..; an occupied cell .. holds −(x + w − c)": on a standing surface a weight is positive exactly
-- when the cell is empty

pub positive_when_empty : (W H : ℕ) (s : List ℤ) (t : List ℕ) → stands W H s t ≡ true → (x y : ℕ) → x < W → y < H → lt_z (pos 0) (cell W s x y) ≡ not (occupied t x y)
positive_when_empty = S.stands_sign

-- ---- "a rectangle is empty when every cell of its bottom row has a weight of at least its height" (order 4), on a standing surface, of any rectangle: both ways, cell by cell; and as an equation of
-- tests

pub empty_exactly : (W H : ℕ) (s : List ℤ) (t : List ℕ) → stands W H s t ≡ true → (r : Rect) →
    Empty (occupied t) W H r ↔ ((on_surface W H r ≡ true) × ((x : ℕ) → r.x ≤ x → x < r.x + r.w → le_z (pos r.h) (cell W s x (r.y + r.h - 1)) ≡ true))
empty_exactly = E.empty_exactly

pub empty_by_weights : (W H : ℕ) (s : List ℤ) (t : List ℕ) → stands W H s t ≡ true → (r : Rect) → empty (occupied t) W H r ≡ (on_surface W H r && bottom_reaches W s r)
empty_by_weights = E.empty_by_weights

-- the test looks at the bottom row and at nothing else, in any list of weights
pub bottom_is : (W : ℕ) (s : List ℤ) (r : Rect) → (bottom_reaches W s r ≡ true) ↔ ((x : ℕ) → r.x ≤ x → x < r.x + r.w → le_z (pos r.h) (cell W s x (r.y + r.h - 1)) ≡ true)
bottom_is = E.bottom_is

-- and over any occupied test, of any rectangle: no cell is occupied exactly when every column of the bottom row counts at least the height, upwards without a gap
pub empty_by_columns : (occ : ℕ → ℕ → Bool) (r : Rect) → cells_empty occ r ≡ every r.w (λ i. leb r.h (upwards occ (r.x + i) (r.y + r.h - 1)))
empty_by_columns = E.cells_by_columns

-- ---- a rule finds a place exactly when some position has all its cells empty (code 20 is over positions and cells, the rule over entries)

pub rule_finds : (occ : ℕ → ℕ → Bool) (W H rule w h : ℕ) → 1 ≤ w → 1 ≤ h → ((r : Rect) × (rule_place occ W H rule w h ≡ some r)) ↔ (position occ W H w h ≡ true)
rule_finds = P.rule_finds

-- ---- "Among list entries with room for the module .. Ties go to the earlier entry. The module stands in the entry's lower left corner."

pub rule_place_is : (occ : ℕ → ℕ → Bool) (W H rule w h : ℕ) (r : Rect) → rule_place occ W H rule w h ≡ some r → ByRule occ W H rule w h r
rule_place_is = P.rule_place_is

-- what a rule finds is empty
pub rule_place_empty : (occ : ℕ → ℕ → Bool) (W H rule w h : ℕ) → 1 ≤ w → 1 ≤ h → (r : Rect) → rule_place occ W H rule w h ≡ some r → Empty occ W H r
rule_place_empty = P.rule_place_empty

-- ---- "refused by number, in a fixed order": the code is that of the first line that applies, 0 where none does

pub first_given : (ls : List Line) → FirstThat ls (first ls)
first_given = L.first_is

-- it is one
pub first_one : (ls : List Line) (c d : ℕ) → FirstThat ls c → FirstThat ls d → c ≡ d
first_one = L.first_one

-- a step that is no refusal has code 0, and a refusal has another: `Refused 0` is never given
pub refused_code : (W H : ℕ) (t q : List ℕ) (c : ℕ) → step_of W H t q ≡ Refused c → 11 ≤ c
refused_code = T.refused_code

-- "New operation 6 takes the fields of a pin .., with a pin's refusals in the same order", on every table: a pin and a set come to what the lines for their fields say, so a set comes to what the
-- pin with the same fields comes to
pub pin_step_lem : (W H : ℕ) (t q : List ℕ) → at_place q ≡ true → step_of W H t q ≡ pin_step W H t q
pin_step_lem W H t q e = Q.step_there_is W H t q (T.at_place_lem q e)

pub set_step : (W H : ℕ) (t q : List ℕ) → is_set q ≡ true → step_of W H t q ≡ step_of W H t (3 ∷ drop 1 q)
set_step = Q.set_step

-- ---- "Given exactly when": where no code is 0 and no two are the same, a code names its line: it is given exactly when this line applies and none before it does

pub given_exactly : (ls : List Line) (c : ℕ) → above 0 ls ≡ true → differ ls ≡ true → FirstThat ls c →
    (before : List Line) (l : Line) (behind : List Line) → ls ≡ before ++ (l ∷ behind) → (c ≡ l.code) ↔ (NoneApplies before × (l.applies ≡ true))
given_exactly = L.exactly

-- and 0, "done", exactly when none does
pub done_exactly : (ls : List Line) (c : ℕ) → above 0 ls ≡ true → FirstThat ls c → (c ≡ 0) ↔ NoneApplies ls
done_exactly = L.done_exactly

-- ---- "The lowest code that applies is given": where the numbers rise from line to line, no line that applies has a lower code

pub lowest_given : (ls : List Line) (c : ℕ) → rising ls ≡ true → FirstThat ls c → (l : Line) → Memᴰ l ls → l.applies ≡ true → c ≤ l.code
lowest_given = L.lowest

-- ---- each of the five lists is so: no code is 0 and no two are the same; those of the calls rise; that of a request has its codes in the order in which documents 01 and 02 name them, where
-- 23 "follows 16", so that 23 comes before 17

abbrev pub Numbered : List Line → Type 0
Numbered ls = (above 0 ls ≡ true) × (differ ls ≡ true) × (rising ls ≡ true)

pub request_numbers : (W H : ℕ) (t q : List ℕ) →
    (above 0 (judging W H t q) ≡ true) × (differ (judging W H t q) ≡ true) × (codes (judging W H t q) ≡ 11 ∷ 12 ∷ 13 ∷ 14 ∷ 15 ∷ 16 ∷ 23 ∷ 17 ∷ 18 ∷ 19 ∷ 20 ∷ 21 ∷ 22 ∷ [])
unfolding sound_lines place_lines above has_code differ codes
request_numbers W H t q = (refl, refl, refl)

pub clear_numbers : (bad : Bool) (W H : ℕ) (t : List ℕ) → Numbered (clear_lines bad W H t)
unfolding clear_lines above has_code differ rising
clear_numbers bad W H t = (refl, refl, refl)

pub check_numbers : (bad : Bool) (W H : ℕ) (s : List ℤ) (t : List ℕ) → Numbered (check_lines bad W H s t)
unfolding check_lines above has_code differ rising
check_numbers bad W H s t = (refl, refl, refl)

pub run_numbers : (bad : Bool) (W H : ℕ) (s : List ℤ) (t q a : List ℕ) → Numbered (run_lines bad W H s t q a)
unfolding run_lines above has_code differ rising
run_numbers bad W H s t q a = (refl, refl, refl)

pub list_numbers : (bad : Bool) (W H : ℕ) (s : List ℤ) (t room : List ℕ) → Numbered (list_lines bad W H s t room)
unfolding list_lines above has_code differ rising
list_numbers bad W H s t room = (refl, refl, refl)
