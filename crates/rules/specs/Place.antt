-- A PLACE, A PIN AND A SET, by the lines that can refuse them.
--
-- A place in numbers: a module w × h with this id by rule 0, 1 or 2, for which no request's bytes are read, so that 11, 12 and 13 are out of the way (that a place request comes to the same
-- is `place_in_numbers`, meaning/proofs/Operations).
use Rattle.std.specs.Prelude.{not, ◌||◌, List, [], ◌∷◌, ℕ, ◌+◌, ltb, eqb}
use Rattle.rules.specs.Surface.{occupied}
use Rattle.rules.specs.Empties.{cells_empty}
use Rattle.rules.specs.Judging.{Line, ◌when◌, first}
use Rattle.rules.specs.Requests.{rule_of, id_asked, wide, high, byte6, byte7, pinned, id_placed, some_free, lowest_free, position, rule_place, any_cell_taken, or_none, judged_to}
use Rattle.rules.specs.Refusals.{Step, Done}

abbrev pub place_number_lines : ℕ → ℕ → List ℕ → ℕ → ℕ → ℕ → ℕ → List Line
place_number_lines W H t id rule w h =
    let occ = occupied t in
    14 when eqb id 0 ∷
    15 when id_placed t id ∷
    17 when (eqb w 0 || eqb h 0) ∷
    19 when not (some_free t) ∷
    20 when not (position occ W H w h) ∷
    22 when any_cell_taken occ (rule_place occ W H rule w h) ∷
    []

-- what it comes to: what a place request for it comes to (a theorem)
unfoldable pub place_step : ℕ → ℕ → List ℕ → ℕ → ℕ → ℕ → ℕ → Step
place_step W H t id rule w h =
    let code = first (place_number_lines W H t id rule w h) in
    let done = Done (lowest_free t) (or_none (rule_place (occupied t) W H rule w h)) in
    judged_to code done

-- "New operation 6 takes the fields of a pin and sets a block, with a pin's refusals in the same order": the lines for the fields of a pin, whichever of 3 and 6 the operation is
abbrev pub pin_lines : ℕ → ℕ → List ℕ → List ℕ → List Line
pin_lines W H t q =
    12 when not (eqb (rule_of q) 0) ∷
    14 when eqb (id_asked q) 0 ∷
    15 when id_placed t (id_asked q) ∷
    17 when (eqb (wide q) 0 || eqb (high q) 0) ∷
    18 when (ltb W (byte6 q + wide q) || ltb H (byte7 q + high q)) ∷
    19 when not (some_free t) ∷
    21 when not (cells_empty (occupied t) (pinned q)) ∷
    []

-- what a pin and a set come to, on every table (`pin_step_lem`, meaning/proofs/Theorems)
unfoldable pub pin_step : ℕ → ℕ → List ℕ → List ℕ → Step
pin_step W H t q =
    let code = first (pin_lines W H t q) in
    let done = Done (lowest_free t) (pinned q) in
    judged_to code done
