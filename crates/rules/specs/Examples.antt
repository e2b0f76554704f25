-- Examples beside the worked figures, computed: what corners do not tell, the bound of order 1 met and not met, cases that A to I do not tell apart, the blocks of order 2, the exchanges of order 3 and the bottom row of order 4.
use Rattle.std.specs.Prelude.{◌≡◌, refl, Bool, true, false, not, ◌&&◌, List, [], ◌∷◌, ◌++◌, ℕ, ◌+◌, ◌-◌, ◌*◌, eqb, length, replicate}
use Rattle.rules.specs.Tests.{keep, all}
use Rattle.rules.specs.Surface.{rect, record_of, occupied, fresh}
use Rattle.rules.specs.Empties.{empty, bottom_reaches, rects, entries, scanned_rows, corner, corners}
use Rattle.rules.specs.Figures.{clear, check, list, Case, case_holds, eight, free, e, o}
use Rattle.rules.specs.declared.Rect.{Rect}

-- ---- "the reverse does not hold": 3×2 with modules at (0, 1) and (1, 0). Row 0 is scanned, for the first module's sake; (2, 0) stands in the
-- last column, so it is a corner; the only maximal rectangle over it goes on down to row 1

abbrev besides : List ℕ
besides = record_of 1 0 (rect 0 1 1 1) 0 ++ record_of 2 0 (rect 1 0 1 1) 0

abbrev ends_at : ℕ → ℕ → Rect → Bool
ends_at x y r = eqb (r.x + r.w - 1) x && eqb (r.y + r.h - 1) y

-- A CORNER THAT IS THE LOWER RIGHT CELL OF NO ENTRY
pub corner_of_none : (corner 3 2 besides 2 0 && all (λ r. not (ends_at 2 0 r)) (entries (occupied besides) 3 2)) ≡ true
unfolding case_holds
corner_of_none = refl

-- ---- no weight tells which rows are scanned: 2×3 with two 1×1 modules at (0, 1) and (0, 2), or with one 1×2 module at (0, 1)

abbrev two : List ℕ
two = record_of 1 0 (rect 0 1 1 1) 0 ++ record_of 2 0 (rect 0 2 1 1) 0

abbrev one : List ℕ
one = record_of 1 0 (rect 0 1 1 2) 0 ++ free

-- EQUAL WEIGHTS, EQUAL LISTS, AND 3 CORNERS THERE, 2 HERE
pub same_weights_lem : fresh 2 3 two ≡ fresh 2 3 one
unfolding case_holds
same_weights_lem = refl

pub same_lists : entries (occupied two) 2 3 ≡ entries (occupied one) 2 3
unfolding case_holds
same_lists = refl

pub other_corners : (corners 2 3 two ≡ 3) × (corners 2 3 one ≡ 2)
unfolding case_holds
other_corners = (refl, refl)

-- ---- "the list never has more than W entries for each scanned row, so W times the number of scanned rows is always enough room" (order 1)

-- one 1×1 module at (0, 0), which adds no scanned row
abbrev top_left : List ℕ
top_left = record_of 1 0 (rect 0 0 1 1) 0

abbrev room : ℕ → List ℕ
room n = replicate n 9

-- 2×2 with it: THE BOUND IS MET, two entries and one scanned row; 16 bytes of room do, 15 do not
pub bound_met : (scanned_rows 2 top_left ≡ 1) × (length (entries (occupied top_left) 2 2) ≡ 2 * scanned_rows 2 top_left)
unfolding case_holds
bound_met = (refl, refl)

pub bound_needed : ((list 2 2 (fresh 2 2 top_left) top_left (room 16)).code ≡ 0) × ((list 2 2 (fresh 2 2 top_left) top_left (room 15)).code ≡ 7)
unfolding case_holds
bound_needed = (refl, refl)

-- IT IS A BOUND AND NO COUNT: 1×1 with it has no entry and one scanned row; `two` has two entries and three scanned rows, and `one`, with the same list and weights, two scanned rows
pub bound_not_met : (length (entries (occupied top_left) 1 1) ≡ 0) × (scanned_rows 1 top_left ≡ 1) × (length (entries (occupied two) 2 3) ≡ 2) × (scanned_rows 3 two ≡ 3) × (scanned_rows 3 one ≡ 2)
unfolding case_holds
bound_not_met = (refl, refl, refl, refl, refl)

-- A ROW IS COUNTED ONCE, however many modules begin below it: 3×2 with modules at (0, 1) and (2, 1)
abbrev side_by_side : List ℕ
side_by_side = record_of 1 0 (rect 0 1 1 1) 0 ++ record_of 2 0 (rect 2 1 1 1) 0

pub row_counted_once : scanned_rows 2 side_by_side ≡ 2
unfolding case_holds
row_counted_once = refl

-- ---- cases beside A to I, for what those do not tell apart

abbrev pin : ℕ → ℕ → ℕ → ℕ → ℕ → List ℕ
pin id x y w h = eight 3 0 id 0 w h x y

abbrev pinned : ℕ → ℕ → ℕ → ℕ → ℕ → List ℕ
pinned id x y w h = eight 0 3 id 0 x y w h

-- "On removal the run below continues the count from above": one column of four cells, pins at rows 0 and 2, and row 2 freed
abbrev removed : Case
removed = record {
  w = 1;
  h = 4;
  slots = 2;
  block = pin 1 0 0 1 1 ++ pin 2 0 2 1 1 ++ eight 2 0 2 0 0 0 0 0;
  answers = pinned 1 0 0 1 1 ++ pinned 2 0 2 1 1 ++ eight 0 2 2 0 0 2 1 1;
  accepted = 3;
  weights = o 1 ∷ e 1 ∷ e 2 ∷ e 3 ∷ [];
  table = eight 1 0 0 0 1 1 0 0 ++ free;
  used = 1;
  list = rect 0 1 1 3 ∷ [];
  corners = 1;
}

-- "the k-th empty cell below it becomes k"; "keeps its slot"; "a freed slot is used again": id 1 gives way to 1×2 at the bottom in slot 0, and id 5 goes into slot 1
abbrev exchanged : Case
exchanged = record {
  w = 1;
  h = 4;
  slots = 3;
  block = pin 1 0 0 1 1 ++ pin 2 0 2 1 1 ++ eight 2 0 2 0 0 0 0 0 ++ eight 4 2 1 0 1 2 0 0 ++ pin 5 0 0 1 1;
  answers = pinned 1 0 0 1 1 ++ pinned 2 0 2 1 1 ++ eight 0 2 2 0 0 2 1 1 ++ eight 0 4 1 0 0 2 1 2 ++ pinned 5 0 0 1 1;
  accepted = 5;
  weights = o 1 ∷ e 1 ∷ o 1 ∷ o 1 ∷ [];
  table = eight 1 0 0 2 1 2 0 0 ++ eight 5 0 0 0 1 1 0 0 ++ free;
  used = 2;
  list = rect 0 1 1 1 ∷ [];
  corners = 1;
}

-- a wide module at x over 0; ids 1 and 257, which share a low byte; a pin on an occupied cell is 21
abbrev wide_and_ids : Case
wide_and_ids = record {
  w = 4;
  h = 2;
  slots = 3;
  block = pin 1 1 0 2 1 ++ eight 3 0 1 1 1 1 0 1 ++ pin 3 2 0 1 1 ++ eight 1 0 1 1 1 1 0 0;
  answers = pinned 1 1 0 2 1 ++ eight 0 3 1 1 0 1 1 1 ++ eight 21 3 3 0 0 0 0 0 ++ eight 15 1 1 1 0 0 0 0;
  accepted = 2;
  weights = e 1 ∷ o 2 ∷ o 1 ∷ e 1 ∷ o 1 ∷ e 1 ∷ e 1 ∷ e 2 ∷ [];
  table = eight 1 0 1 0 2 1 0 0 ++ eight 1 1 0 1 1 1 0 0 ++ free;
  used = 2;
  list = rect 0 0 1 1 ∷ rect 1 1 3 1 ∷ rect 3 0 1 2 ∷ [];
  corners = 3;
}

-- the three rules part: 4×3 with four modules. Its list is (0,0,2,2), (3,1,1,1), (1,0,1,3), (1,2,2,1); a 1×1 goes, by rule 0, into the first, at (0,1); by
-- rule 1 into the smallest, at (3,1); by rule 2 into the third, whose (H − y − h)·W + x is 1, at (1,2). It is removed each time
abbrev place : ℕ → List ℕ
place rule = eight 1 rule 9 0 1 1 0 0 ++ eight 2 0 9 0 0 0 0 0

abbrev come_and_gone : ℕ → ℕ → List ℕ
come_and_gone x y = eight 0 1 9 0 x y 1 1 ++ eight 0 2 9 0 x y 1 1

abbrev rules_part : Case
rules_part = record {
  w = 4;
  h = 3;
  slots = 5;
  block = pin 1 0 2 1 1 ++ pin 2 2 0 2 1 ++ pin 3 2 1 1 1 ++ pin 4 3 2 1 1 ++ place 0 ++ place 1 ++ place 2;
  answers = pinned 1 0 2 1 1 ++ pinned 2 2 0 2 1 ++ pinned 3 2 1 1 1 ++ pinned 4 3 2 1 1 ++ come_and_gone 0 1 ++ come_and_gone 3 1 ++ come_and_gone 1 2;
  accepted = 10;
  weights = e 1 ∷ e 1 ∷ o 2 ∷ o 1 ∷ e 2 ∷ e 2 ∷ o 1 ∷ e 1 ∷ o 1 ∷ e 3 ∷ e 1 ∷ o 1 ∷ [];
  table = eight 1 0 0 2 1 1 0 0 ++ eight 2 0 2 0 2 1 0 0 ++ eight 3 0 2 1 1 1 0 0 ++ eight 4 0 3 2 1 1 0 0 ++ free;
  used = 4;
  list = rect 0 0 2 2 ∷ rect 3 1 1 1 ∷ rect 1 0 1 3 ∷ rect 1 2 2 1 ∷ [];
  corners = 5;
}

-- order 2, "hard blocks that no trigger may use": 4×3 with a block 2×1 set at (1,1); a 2×1 by rule 0 goes to (0,0). A remove and an exchange of the block are 23, an exchange to 0×0 too, for 23
-- "follows 16", but a stray byte is 12 and a rule over 2 is 13; its id is placed, so that a pin and a set under it are 15; a set and a pin on it, under another id, are 21, and so is a set on the
-- module; id 263, of the same low byte, comes and goes. The block keeps its slot, and is the one record of kind 1
abbrev set : ℕ → ℕ → ℕ → ℕ → ℕ → List ℕ
set id x y w h = eight 6 0 id 0 w h x y

abbrev with_hard : Case
with_hard = record {
  w = 4;
  h = 3;
  slots = 3;
  block = set 7 1 1 2 1 ++ eight 1 0 1 0 2 1 0 0 ++ eight 2 0 7 0 0 0 0 0 ++ eight 4 0 7 0 1 1 0 0 ++ eight 4 0 7 0 0 0 0 0 ++ pin 7 3 2 1 1 ++ set 7 3 2 1 1 ++ set 8 2 1 1 1
      ++ pin 8 1 1 1 1 ++ set 8 0 0 1 1 ++ eight 2 1 7 0 0 0 0 0 ++ eight 4 3 7 0 1 1 0 0 ++ eight 3 0 7 1 1 1 3 2 ++ eight 2 0 7 1 0 0 0 0;
  answers = eight 0 6 7 0 1 1 2 1 ++ eight 0 1 1 0 0 0 2 1 ++ eight 23 2 7 0 0 0 0 0 ++ eight 23 4 7 0 0 0 0 0 ++ eight 23 4 7 0 0 0 0 0 ++ eight 15 3 7 0 0 0 0 0 ++ eight 15 6 7 0 0 0 0 0 ++ eight 21 6 8 0 0 0 0 0
      ++ eight 21 3 8 0 0 0 0 0 ++ eight 21 6 8 0 0 0 0 0 ++ eight 12 2 7 0 0 0 0 0 ++ eight 13 4 7 0 0 0 0 0 ++ eight 0 3 7 1 3 2 1 1 ++ eight 0 2 7 1 3 2 1 1;
  accepted = 4;
  weights = o 2 ∷ o 1 ∷ e 1 ∷ e 1 ∷ e 1 ∷ o 2 ∷ o 1 ∷ e 2 ∷ e 2 ∷ e 1 ∷ e 1 ∷ e 3 ∷ [];
  table = eight 7 0 1 1 2 1 1 0 ++ eight 1 0 0 0 2 1 0 0 ++ free;
  used = 2;
  list = rect 2 0 2 1 ∷ rect 0 1 1 2 ∷ rect 0 2 4 1 ∷ rect 3 0 1 3 ∷ [];
  corners = 3;
}

-- "a pin's refusals in the same order": of a set 12, 14, 15, 17, 18, 21, each where the later ones apply too or stand next, and 19 once the table of two slots is full, behind 18 and before 21. 0, 5 and 7
-- are no operations of a run, 11. And 23 just withheld: of an id that is not placed, 16; of the module 3, which is exchanged, one cell on, and removed
abbrev set_refused : Case
set_refused = record {
  w = 3;
  h = 1;
  slots = 2;
  block = set 2 0 0 1 1 ++ eight 6 1 0 0 1 1 1 0 ++ set 0 1 0 0 1 ++ set 2 1 0 0 1 ++ set 4 4 0 0 1 ++ set 4 1 0 1 0 ++ set 4 2 0 2 1 ++ set 4 0 1 1 1 ++ set 4 0 0 1 1
      ++ eight 0 0 0 0 0 0 0 0 ++ eight 5 0 0 0 3 1 0 0 ++ eight 7 0 0 0 1 1 1 0 ++ eight 2 0 4 0 0 0 0 0 ++ pin 3 1 0 1 1 ++ set 4 2 0 2 1 ++ set 4 0 0 1 1 ++ set 4 2 0 1 1 ++ eight 4 0 3 0 1 1 0 0 ++ eight 2 0 3 0 0 0 0 0;
  answers = eight 0 6 2 0 0 0 1 1 ++ eight 12 6 0 0 0 0 0 0 ++ eight 14 6 0 0 0 0 0 0 ++ eight 15 6 2 0 0 0 0 0 ++ eight 17 6 4 0 0 0 0 0 ++ eight 17 6 4 0 0 0 0 0 ++ eight 18 6 4 0 0 0 0 0 ++ eight 18 6 4 0 0 0 0 0 ++ eight 21 6 4 0 0 0 0 0
      ++ eight 11 0 0 0 0 0 0 0 ++ eight 11 5 0 0 0 0 0 0 ++ eight 11 7 0 0 0 0 0 0 ++ eight 16 2 4 0 0 0 0 0 ++ pinned 3 1 0 1 1 ++ eight 18 6 4 0 0 0 0 0 ++ eight 19 6 4 0 0 0 0 0 ++ eight 19 6 4 0 0 0 0 0 ++ eight 0 4 3 0 2 0 1 1 ++ eight 0 2 3 0 2 0 1 1;
  accepted = 4;
  weights = o 1 ∷ e 1 ∷ e 1 ∷ [];
  table = eight 2 0 0 0 1 1 1 0 ++ free;
  used = 1;
  list = rect 1 0 2 1 ∷ [];
  corners = 1;
}

-- order 3, "the old trigger must go on watching the bus until the new one is loaded, so the new one may not cover a single old cell": 4×1, one slot, so that the table is full all the time. Id 1
-- gives way to one of the same size and moves beside its old place; to 3×1 it would fit without the old one, and is 20; it shrinks to 1×1, and to 3×1 it moves beside that; to its own size again, 20
abbrev exchange : ℕ → ℕ → ℕ → ℕ → List ℕ
exchange rule id w h = eight 4 rule id 0 w h 0 0

abbrev swapped : ℕ → ℕ → ℕ → ℕ → ℕ → List ℕ
swapped id x y w h = eight 0 4 id 0 x y w h

abbrev stays : ℕ → List ℕ
stays id = eight 20 4 id 0 0 0 0 0

abbrev moves_beside : Case
moves_beside = record {
  w = 4;
  h = 1;
  slots = 1;
  block = pin 1 0 0 2 1 ++ exchange 0 1 2 1 ++ exchange 0 1 3 1 ++ exchange 0 1 1 1 ++ exchange 0 1 3 1 ++ exchange 0 1 3 1;
  answers = pinned 1 0 0 2 1 ++ swapped 1 2 0 2 1 ++ stays 1 ++ swapped 1 0 0 1 1 ++ swapped 1 1 0 3 1 ++ stays 1;
  accepted = 4;
  weights = e 1 ∷ o 3 ∷ o 2 ∷ o 1 ∷ [];
  table = eight 1 0 1 0 3 1 0 0;
  used = 1;
  list = rect 0 0 1 1 ∷ [];
  corners = 1;
}

-- on a full surface, by each rule: 20, though the new one would fit without the old
abbrev full_stays : Case
full_stays = record {
  w = 2;
  h = 1;
  slots = 2;
  block = pin 1 0 0 2 1 ++ exchange 0 1 1 1 ++ exchange 1 1 1 1 ++ exchange 2 1 1 1 ++ exchange 2 1 2 1;
  answers = pinned 1 0 0 2 1 ++ stays 1 ++ stays 1 ++ stays 1 ++ stays 1;
  accepted = 1;
  weights = o 2 ∷ o 1 ∷ [];
  table = eight 1 0 0 0 2 1 0 0 ++ free;
  used = 1;
  list = [];
  corners = 0;
}

-- the rule chooses from the list with the old one in it: the surface of `rules_part`, id 9, 1×1, placed at (0,1), and exchanged to its own size, twice by each rule. Without the old one rule 0 would choose
-- (0,1) each time, rule 1 (3,1), rule 2 (1,2)
abbrev chosen_beside : Case
chosen_beside = record {
  w = 4;
  h = 3;
  slots = 5;
  block = pin 1 0 2 1 1 ++ pin 2 2 0 2 1 ++ pin 3 2 1 1 1 ++ pin 4 3 2 1 1 ++ eight 1 0 9 0 1 1 0 0
      ++ exchange 0 9 1 1 ++ exchange 0 9 1 1 ++ exchange 1 9 1 1 ++ exchange 1 9 1 1 ++ exchange 2 9 1 1 ++ exchange 2 9 1 1;
  answers = pinned 1 0 2 1 1 ++ pinned 2 2 0 2 1 ++ pinned 3 2 1 1 1 ++ pinned 4 3 2 1 1 ++ eight 0 1 9 0 0 1 1 1
      ++ swapped 9 0 0 1 1 ++ swapped 9 0 1 1 1 ++ swapped 9 3 1 1 1 ++ swapped 9 1 2 1 1 ++ swapped 9 2 2 1 1 ++ swapped 9 1 2 1 1;
  accepted = 11;
  weights = e 1 ∷ e 1 ∷ o 2 ∷ o 1 ∷ e 2 ∷ e 2 ∷ o 1 ∷ e 1 ∷ o 1 ∷ o 1 ∷ e 1 ∷ o 1 ∷ [];
  table = eight 1 0 0 2 1 1 0 0 ++ eight 2 0 2 0 2 1 0 0 ++ eight 3 0 2 1 1 1 0 0 ++ eight 4 0 3 2 1 1 0 0 ++ eight 9 0 1 2 1 1 0 0;
  used = 5;
  list = rect 0 0 2 2 ∷ rect 3 1 1 1 ∷ rect 2 2 1 1 ∷ [];
  corners = 4;
}

-- rule 1 measures the entries of that list, beside a block: without the old one the least would be (3,0,1,1), clear of it; with it (0,0,1,1) is as small, and earlier. And "keeps its slot": the record
-- stays in slot 2, though slot 0 is free
abbrev least_beside : Case
least_beside = record {
  w = 4;
  h = 1;
  slots = 3;
  block = pin 3 0 0 1 1 ++ set 2 2 0 1 1 ++ pin 1 1 0 1 1 ++ eight 2 0 3 0 0 0 0 0 ++ exchange 1 1 1 1;
  answers = pinned 3 0 0 1 1 ++ eight 0 6 2 0 2 0 1 1 ++ pinned 1 1 0 1 1 ++ eight 0 2 3 0 0 0 1 1 ++ swapped 1 0 0 1 1;
  accepted = 5;
  weights = o 1 ∷ e 1 ∷ o 1 ∷ e 1 ∷ [];
  table = free ++ eight 2 0 2 0 1 1 1 0 ++ eight 1 0 0 0 1 1 0 0;
  used = 2;
  list = rect 1 0 1 1 ∷ rect 3 0 1 1 ∷ [];
  corners = 2;
}

-- THESE HOLD TOO
pub examples_hold : all case_holds (removed ∷ exchanged ∷ wide_and_ids ∷ rules_part ∷ with_hard ∷ set_refused ∷ moves_beside ∷ full_stays ∷ chosen_beside ∷ least_beside ∷ []) ≡ true
unfolding case_holds
examples_hold = refl

-- ---- "A surface stands with kinds 0 and 1 and every other spare byte zero": 1×1, its cell occupied; a free slot is eight zero bytes, so that it has no kind

abbrev full : ℕ → ℕ → ℕ
full kind spare = (check 1 1 (o 1 ∷ []) (eight 1 0 0 0 1 1 kind spare)).code

pub kinds_stand : (full 0 0 ≡ 0) × (full 1 0 ≡ 0) × (full 2 0 ≡ 6) × (full 255 0 ≡ 6) × (full 0 1 ≡ 6) × (full 1 1 ≡ 6)
unfolding case_holds
kinds_stand = (refl, refl, refl, refl, refl, refl)

-- "Blocks count as modules for cells, .. and ids": a block and a module with the same id, or on one cell
pub hard_as_module :
    ((check 2 1 (o 1 ∷ o 1 ∷ []) (eight 1 0 0 0 1 1 1 0 ++ eight 1 0 1 0 1 1 0 0)).code ≡ 6)
    × ((check 2 1 (o 1 ∷ o 1 ∷ []) (eight 1 0 0 0 1 1 1 0 ++ eight 2 0 1 0 1 1 0 0)).code ≡ 0)
    × ((check 1 1 (o 1 ∷ []) (eight 1 0 0 0 1 1 1 0 ++ eight 2 0 0 0 1 1 0 0)).code ≡ 6)
unfolding case_holds
hard_as_module = (refl, refl, refl)

-- "Clear removes them too"
pub hard_cleared : (clear 1 1 (o 1 ∷ []) (eight 1 0 0 0 1 1 1 0)).table ≡ free
unfolding case_holds
hard_cleared = refl

pub free_has_no_kind : ((check 1 1 (e 1 ∷ []) free).code ≡ 0) × ((check 1 1 (e 1 ∷ []) (eight 0 0 0 0 0 0 1 0)).code ≡ 6)
unfolding case_holds
free_has_no_kind = (refl, refl)

-- ---- a surface that contradicts itself is refused, and nothing is written: 2×1, a weight of 2 in the top row
pub fallen_refused : ((check 2 1 (e 1 ∷ e 2 ∷ []) free).code ≡ 6) × ((list 2 1 (e 1 ∷ e 2 ∷ []) free (7 ∷ [])).room ≡ 7 ∷ [])
unfolding case_holds
fallen_refused = (refl, refl)

-- ---- "a rectangle is empty when every cell of its bottom row has a weight of at least its height" (order 4): 3×4 with a module at (1, 1) and a block at (2, 3)

abbrev weighed : List ℕ
weighed = record_of 1 0 (rect 1 1 1 1) 0 ++ record_of 2 0 (rect 2 3 1 1) 1

-- OF ITS 60 RECTANGLES 28 ARE EMPTY, THOSE THAT THE TEST OF THE BOTTOM ROW PICKS
pub picked_by_weights : (keep (bottom_reaches 3 (fresh 3 4 weighed)) (rects 3 4) ≡ keep (empty (occupied weighed) 3 4) (rects 3 4)) × (length (rects 3 4) ≡ 60) × (length (keep (empty (occupied weighed) 3 4) (rects 3 4)) ≡ 28)
unfolding case_holds
picked_by_weights = (refl, refl, refl)

-- it looks at the bottom row alone: weights that do not stand, an occupied cell above a 2; and it asks that the rectangle lies on the surface: 2×2, empty, past whose right edge the next row's weights stand
pub bottom_row_alone : (bottom_reaches 1 (o 1 ∷ e 2 ∷ []) (rect 0 0 1 2) ≡ true) × (bottom_reaches 2 (fresh 2 2 free) (rect 1 0 2 1) ≡ true) × (empty (occupied free) 2 2 (rect 1 0 2 1) ≡ false)
unfolding case_holds
bottom_row_alone = (refl, refl, refl)
