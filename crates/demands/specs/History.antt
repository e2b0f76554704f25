-- THE HISTORY: "the modules that the history of requests says are placed"; blocks "in demand 3 belong to the history" (order 2), each with its kind. It is
-- worked out from requests and answers alone, as bytes; no table and no weights. q is the bytes of all requests, a those of all answers, one behind the other.
use Rattle.std.specs.Prelude.{Bool, false, not, cond, ◌||◌, List, [], ◌∷◌, ℕ, zero, suc, eqb, ℤ, pos, neg_ℤ, get_or}
use Rattle.rules.specs.Tests.{least, keep, all}
use Rattle.rules.specs.Surface.{rect, covers, upwards, number}
use Rattle.rules.specs.Requests.{id_asked, is_place, is_remove, is_pin, is_exchange, is_set}
use Rattle.rules.specs.Blocks.{request}
use Rattle.rules.specs.declared.Rect.{Rect}

-- a module or a block: its slot, its id, its rectangle and its kind ("0 a module, 1 a block")
pub record Module : Type 0 where
  pub slot : ℕ
  pub id : ℕ
  pub place : Rect
  pub kind : ℕ

abbrev pub module_at : ℕ → ℕ → Rect → ℕ → Module
module_at i id r kind = record { slot = i; id = id; place = r; kind = kind }

-- "The answer is 8 bytes ..: code, operation and id as they came, then x, y, w, h"
abbrev pub code_in : List ℕ → ℕ
code_in a = get_or a 0 0

abbrev pub place_in : List ℕ → Rect
place_in a = rect (get_or a 4 0) (get_or a 5 0) (get_or a 6 0) (get_or a 7 0)

-- the modules with another id
abbrev pub others : ℕ → List Module → List Module
others id h = keep (λ (m : Module). not (eqb m.id id)) h

-- "Place and pin use the lowest free slot, so a freed slot is used again": the least that no module has ("1 to 256 slots")
abbrev pub unused : List Module → ℕ → Bool
unused h i = all (λ (m : Module). not (eqb m.slot i)) h

unfoldable pub least_unused : List Module → ℕ
least_unused h = least 256 (unused h)

-- "Exchange .. keeps its slot": the slot of the module with this id
unfoldable pub slot_in : ℕ → List Module → ℕ
slot_in id [] = 0
slot_in id (m ∷ h) = cond (eqb m.id id) m.slot (slot_in id h)

-- a request q with the answer a: code 0 to place and pin adds the module, to a set the block, to remove takes the id's away, to exchange puts the new one for it; any
-- other answer changes nothing
abbrev pub noted : List ℕ → List ℕ → List Module → List Module
noted q a h =
    let id = id_asked q in
    let r = place_in a in
    cond (not (eqb (code_in a) 0)) h
    (cond (is_place q || is_pin q) (module_at (least_unused h) id r 0 ∷ h)
    (cond (is_set q) (module_at (least_unused h) id r 1 ∷ h)
    (cond (is_remove q) (others id h)
    (cond (is_exchange q) (module_at (slot_in id h) id r 0 ∷ others id h)
    h))))

-- the modules that the first k requests and answers say are placed
unfoldable pub history : List ℕ → List ℕ → ℕ → List Module
history q a zero = []
history q a (suc k) = noted (request q k) (request a k) (history q a k)

-- ---- "every cell's weight equals the one worked out afresh from" them

-- cell (x, y) is occupied
unfoldable pub taken : List Module → ℕ → ℕ → Bool
taken [] x y = false
taken (m ∷ h) x y = covers m.place x y || taken h x y

-- "An occupied cell in column c of a module (x, y, w, h) holds −(x + w − c)": the number of the module that has cell (c, y)
unfoldable pub remains : List Module → ℕ → ℕ → ℕ
remains [] c y = 0
remains (m ∷ h) c y = cond (covers m.place c y) (number m.slot m.place c) (remains h c y)

-- "An empty cell holds the number of empty cells in its column, itself included, counted upwards without a gap."
unfoldable pub history_weight : List Module → ℕ → ℕ → ℤ
history_weight h x y = cond (taken h x y) (neg_ℤ (pos (remains h x y))) (pos (upwards (taken h) x y))
