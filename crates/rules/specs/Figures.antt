-- THE WORKED FIGURES, cases A to I: one table under one proved statement, of the definitions. Each case clears a surface, runs its requests as a
-- block, checks and lists; answers, accepted count, weights, table, used slots, list and corners are those that stand here.
use Rattle.std.specs.Prelude.{◌≡◌, refl, Bool, true, false, not, ◌&&◌, List, [], ◌∷◌, ◌++◌, ℕ, ◌*◌, eqb, ℤ, pos, neg_ℤ, length, replicate}
use Rattle.rules.specs.Tests
use Rattle.rules.specs.Tests.{all, eq_z}
use Rattle.rules.specs.Surface
use Rattle.rules.specs.Surface.{rect}
use Rattle.rules.specs.Empties
use Rattle.rules.specs.Empties.{entry_records}
use Rattle.rules.specs.Judging
use Rattle.rules.specs.Requests
use Rattle.rules.specs.Blocks
use Rattle.rules.specs.Calls
use Rattle.rules.specs.Calls.{Cleared, clear_with, Checked, check_with, Ran, run_with, Listed, list_with}
use Rattle.rules.specs.declared.Rect.{Rect}

-- ---- the calls on numbers, not bytes

-- 2: weights not W-as-H long
abbrev pub bad_weights : ℕ → ℕ → List ℤ → Bool
bad_weights W H s = not (eqb (length s) (W * H))

abbrev pub clear : ℕ → ℕ → List ℤ → List ℕ → Cleared
clear W H s t = clear_with (bad_weights W H s) W H s t

abbrev pub check : ℕ → ℕ → List ℤ → List ℕ → Checked
check W H s t = check_with (bad_weights W H s) W H s t

abbrev pub run : ℕ → ℕ → List ℤ → List ℕ → List ℕ → List ℕ → Ran
run W H s t q a = run_with (bad_weights W H s) W H s t q a

abbrev pub list : ℕ → ℕ → List ℤ → List ℕ → List ℕ → Listed
list W H s t room = list_with (bad_weights W H s) W H s t room

pub record Case : Type 0 where
  -- the surface
  pub w : ℕ
  pub h : ℕ
  pub slots : ℕ
  -- the requests, and their answers
  pub block : List ℕ
  pub answers : List ℕ
  pub accepted : ℕ
  -- what they leave
  pub weights : List ℤ
  pub table : List ℕ
  pub used : ℕ
  -- and what is listed then
  pub list : List Rect
  pub corners : ℕ

-- two lists of numbers are the same, by a test of their items
abbrev pub same_items : {A : Type 0} → (A → A → Bool) → List A → List A → Bool
same_items f [] [] = true
same_items f [] (b ∷ m) = false
same_items f (a ∷ l) [] = false
same_items f (a ∷ l) (b ∷ m) = same_items f l m && f a b

-- whoever unfolds `case_holds` unfolds all the rules: the statements below are computed
unfoldable pub case_holds : Case → Bool
unfolding Tests.every Tests.any Tests.total Tests.least_from Tests.tab_from Tests.keep Tests.all Tests.chain Surface.covers Surface.free_slot Surface.holds Surface.occupied Surface.holder Surface.upwards Surface.number Surface.remaining Surface.weight Surface.fresh Surface.sound_slot Surface.slots_sound Surface.ids_differ Surface.modules_apart Surface.weights_right Surface.stands Surface.used_slots Empties.on_surface Empties.cells_empty Empties.empty Empties.bottom_reaches Empties.rects Empties.maximal Empties.entries Empties.entry_records Empties.scanned Empties.scanned_rows Empties.corner Empties.corners Judging.first Requests.zeros Requests.id_placed Requests.slot_of Requests.some_free Requests.lowest_free Requests.position Requests.cost Requests.cheapest Requests.chosen Requests.rule_place Requests.sound_lines Requests.place_lines Requests.accepted_step Requests.step_of Blocks.next_by Blocks.after_by Calls.clear_lines Calls.clear_code Calls.cleared_weights Calls.clear_with Calls.check_lines Calls.check_code Calls.check_with Calls.run_lines Calls.run_code Calls.run_with Calls.list_lines Calls.list_code Calls.list_with Calls.bad_size Calls.bad_table Calls.bad_block
case_holds c =
    let blank = clear c.w c.h (replicate (c.w * c.h) (pos 9)) (replicate (8 * c.slots) 9) in
    let ran = run c.w c.h blank.weights blank.table c.block (replicate (length c.block) 9) in
    let seen = check c.w c.h ran.weights ran.table in
    let found = list c.w c.h ran.weights ran.table (replicate (8 * length c.list) 9) in
    eqb blank.code 0
    && eqb ran.code 0 && eqb ran.accepted c.accepted && same_items eqb ran.answers c.answers
    && same_items eq_z ran.weights c.weights && same_items eqb ran.table c.table
    && eqb seen.code 0 && eqb seen.used c.used
    && eqb found.code 0 && eqb found.entries (length c.list) && eqb found.corners c.corners
    && same_items eqb found.room (entry_records c.list)

-- ---- the requests, and what a slot holds

abbrev pub eight : ℕ → ℕ → ℕ → ℕ → ℕ → ℕ → ℕ → ℕ → List ℕ
eight a b c d e f g h = a ∷ b ∷ c ∷ d ∷ e ∷ f ∷ g ∷ h ∷ []

abbrev pub free : List ℕ
free = eight 0 0 0 0 0 0 0 0

-- an empty cell's count, an occupied cell's width
abbrev pub e : ℕ → ℤ
e n = pos n

abbrev pub o : ℕ → ℤ
o n = neg_ℤ (pos n)

-- B: place id 1, 2×1, rule 2. C: place id 2, 3×2, rule 0. D: pin id 7, 1×1 at (1, 1)
abbrev place_b : List ℕ
place_b = eight 1 2 1 0 2 1 0 0

abbrev place_c : List ℕ
place_c = eight 1 0 2 0 3 2 0 0

abbrev pin_d : List ℕ
pin_d = eight 3 0 7 0 1 1 1 1

-- what D answers and leaves
abbrev answer_d : List ℕ
answer_d = eight 0 3 7 0 1 1 1 1

abbrev weights_d : List ℤ
weights_d = e 1 ∷ e 1 ∷ e 1 ∷ e 2 ∷ o 1 ∷ e 2 ∷ e 3 ∷ e 1 ∷ e 3 ∷ []

abbrev table_d : List ℕ
table_d = eight 7 0 1 1 1 1 0 0 ++ free

abbrev list_d : List Rect
list_d = rect 0 0 3 1 ∷ rect 0 0 1 3 ∷ rect 0 2 3 1 ∷ rect 2 0 1 3 ∷ []

-- ---- the table

-- A: 4×3 cleared: list (0,0,4,3); 1 corner
abbrev case_a : Case
case_a = record {
  w = 4;
  h = 3;
  slots = 2;
  block = [];
  answers = [];
  accepted = 0;
  weights = e 1 ∷ e 1 ∷ e 1 ∷ e 1 ∷ e 2 ∷ e 2 ∷ e 2 ∷ e 2 ∷ e 3 ∷ e 3 ∷ e 3 ∷ e 3 ∷ [];
  table = free ++ free;
  used = 0;
  list = rect 0 0 4 3 ∷ [];
  corners = 1;
}

-- B: A, then place id 1, 2×1, rule 2: at (0,2). Bottom row weights −2 −1 3 3. List (0,0,4,2), (2,0,2,3); 2 corners
abbrev case_b : Case
case_b = record {
  w = 4;
  h = 3;
  slots = 2;
  block = place_b;
  answers = eight 0 1 1 0 0 2 2 1;
  accepted = 1;
  weights = e 1 ∷ e 1 ∷ e 1 ∷ e 1 ∷ e 2 ∷ e 2 ∷ e 2 ∷ e 2 ∷ o 2 ∷ o 1 ∷ e 3 ∷ e 3 ∷ [];
  table = eight 1 0 0 2 2 1 0 0 ++ free;
  used = 1;
  list = rect 0 0 4 2 ∷ rect 2 0 2 3 ∷ [];
  corners = 2;
}

-- C: B, then place id 2, 3×2, rule 0: at (0,0). Bottom row −2 −1 1 3. List (2,2,2,1), (3,0,1,3); 2 corners
abbrev case_c : Case
case_c = record {
  w = 4;
  h = 3;
  slots = 2;
  block = place_b ++ place_c;
  answers = eight 0 1 1 0 0 2 2 1 ++ eight 0 1 2 0 0 0 3 2;
  accepted = 2;
  weights = o 3 ∷ o 2 ∷ o 1 ∷ e 1 ∷ o 3 ∷ o 2 ∷ o 1 ∷ e 2 ∷ o 2 ∷ o 1 ∷ e 1 ∷ e 3 ∷ [];
  table = eight 1 0 0 2 2 1 0 0 ++ eight 2 0 0 0 3 2 0 0;
  used = 2;
  list = rect 2 2 2 1 ∷ rect 3 0 1 3 ∷ [];
  corners = 2;
}

-- D: 3×3, pin id 7, 1×1 at (1,1): weights 1 1 1 / 2 −1 2 / 3 1 3. List (0,0,3,1), (0,0,1,3), (0,2,3,1), (2,0,1,3); 3 corners
abbrev case_d : Case
case_d = record {
  w = 3;
  h = 3;
  slots = 2;
  block = pin_d;
  answers = answer_d;
  accepted = 1;
  weights = weights_d;
  table = table_d;
  used = 1;
  list = list_d;
  corners = 3;
}

-- E: D, place 2×2: 20 (by each rule), though 8 cells are empty
abbrev case_e : Case
case_e = record {
  w = 3;
  h = 3;
  slots = 2;
  block = pin_d ++ eight 1 0 8 0 2 2 0 0 ++ eight 1 1 8 0 2 2 0 0 ++ eight 1 2 8 0 2 2 0 0;
  answers = answer_d ++ eight 20 1 8 0 0 0 0 0 ++ eight 20 1 8 0 0 0 0 0 ++ eight 20 1 8 0 0 0 0 0;
  accepted = 1;
  weights = weights_d;
  table = table_d;
  used = 1;
  list = list_d;
  corners = 3;
}

-- F: D, place 1×1: rules 0 and 1 give (0,0), rule 2 gives (0,2)
abbrev case_f : ℕ → Case
case_f rule = record {
  w = 3;
  h = 3;
  slots = 2;
  block = pin_d ++ eight 1 rule 8 0 1 1 0 0;
  answers = answer_d ++ eight 0 1 8 0 0 0 1 1;
  accepted = 2;
  weights = o 1 ∷ e 1 ∷ e 1 ∷ e 1 ∷ o 1 ∷ e 2 ∷ e 2 ∷ e 1 ∷ e 3 ∷ [];
  table = eight 7 0 1 1 1 1 0 0 ++ eight 8 0 0 0 1 1 0 0;
  used = 2;
  list = rect 1 0 2 1 ∷ rect 0 1 1 2 ∷ rect 0 2 3 1 ∷ rect 2 0 1 3 ∷ [];
  corners = 3;
}

abbrev case_f2 : Case
case_f2 = record {
  w = 3;
  h = 3;
  slots = 2;
  block = pin_d ++ eight 1 2 8 0 1 1 0 0;
  answers = answer_d ++ eight 0 1 8 0 0 2 1 1;
  accepted = 2;
  weights = e 1 ∷ e 1 ∷ e 1 ∷ e 2 ∷ o 1 ∷ e 2 ∷ o 1 ∷ e 1 ∷ e 3 ∷ [];
  table = eight 7 0 1 1 1 1 0 0 ++ eight 8 0 0 2 1 1 0 0;
  used = 2;
  list = rect 0 0 3 1 ∷ rect 0 0 1 2 ∷ rect 1 2 2 1 ∷ rect 2 0 1 3 ∷ [];
  corners = 4;
}

-- D, exchange id 7 to w×h by each rule: 20, nothing changed. G: to 2×2 ("Case G now gives 20", order 3). H: to 4×1
abbrev case_gh : ℕ → ℕ → Case
case_gh w h = record {
  w = 3;
  h = 3;
  slots = 2;
  block = pin_d ++ eight 4 0 7 0 w h 0 0 ++ eight 4 1 7 0 w h 0 0 ++ eight 4 2 7 0 w h 0 0;
  answers = answer_d ++ eight 20 4 7 0 0 0 0 0 ++ eight 20 4 7 0 0 0 0 0 ++ eight 20 4 7 0 0 0 0 0;
  accepted = 1;
  weights = weights_d;
  table = table_d;
  used = 1;
  list = list_d;
  corners = 3;
}

-- I: 1×1 full: empty list, 0 corners; a further place gives 19 with one slot, 20 with two
abbrev case_i : ℕ → ℕ → List ℕ → Case
case_i slots code table = record {
  w = 1;
  h = 1;
  slots = slots;
  block = eight 1 0 1 0 1 1 0 0 ++ eight 1 0 2 0 1 1 0 0;
  answers = eight 0 1 1 0 0 0 1 1 ++ eight code 1 2 0 0 0 0 0;
  accepted = 1;
  weights = o 1 ∷ [];
  table = table;
  used = 1;
  list = [];
  corners = 0;
}

abbrev pub cases : List Case
cases =
    case_a ∷ case_b ∷ case_c ∷ case_d ∷ case_e ∷ case_f 0 ∷ case_f 1 ∷ case_f2 ∷ case_gh 2 2 ∷ case_gh 4 1
    ∷ case_i 1 19 (eight 1 0 0 0 1 1 0 0)
    ∷ case_i 2 20 (eight 1 0 0 0 1 1 0 0 ++ free)
    ∷ []

-- CASES A TO I HOLD
pub cases_hold : all case_holds cases ≡ true
unfolding case_holds
cases_hold = refl
