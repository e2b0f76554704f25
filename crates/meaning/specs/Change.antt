-- A CHANGE OF THE MODULES: what putting one in and taking one out ask, and which cells they leave as they were (demand 3).
use Rattle.std.specs.Prelude.{◌≡◌, true, false, ◌⊎◌, List, ℕ, ◌+◌, ◌*◌, ◌≤◌, ◌<◌, ℤ}
use Rattle.rules.specs.Surface.{Standing, slots, id_of, rect_of, is_hard, free_record, free_slot, with_record, occupied, fresh}
use Rattle.rules.specs.Empties.{cells_empty}
use Rattle.rules.specs.Requests.{id_low, id_high, id_asked, is_remove, is_exchange, makes_new, kind_asked, id_placed, slot_of, lowest_free, step_of}
use Rattle.rules.specs.declared.Rect.{Rect}
use Rattle.rules.specs.Refusals.{Step, Refused}

-- the module lies on the surface
pub record On (W H : ℕ) (m : Rect) : Type 0 where
  pub wide : 1 ≤ m.w
  pub tall : 1 ≤ m.h
  pub columns : m.x + m.w ≤ W
  pub lines : m.y + m.h ≤ H

-- a module with a new id, or a block, by its kind, may be put into the free slot i, at the place r, whose cells are all empty
pub record Placing (W H : ℕ) (s : List ℤ) (t : List ℕ) (i low high : ℕ) (r : Rect) (kind : ℕ) : Type 0 where
  pub standing : Standing W H s t
  pub slot : i < slots t
  pub unused : free_slot t i ≡ true
  pub place : On W H r
  pub empty : cells_empty (occupied t) r ≡ true
  pub some : 1 ≤ low + 256 * high
  pub new : id_placed t (low + 256 * high) ≡ false
  pub known : kind ≤ 1

-- slot i has a module
pub record Taking (W H : ℕ) (s : List ℤ) (t : List ℕ) (i : ℕ) : Type 0 where
  pub standing : Standing W H s t
  pub slot : i < slots t
  pub used : free_slot t i ≡ false

-- cell (c, r) is out of the reach of the module m: it is in none of the module's columns, or above it, or at or past an occupied cell below it. t is the
-- table without m
pub data Spared (m : Rect) (t : List ℕ) (c r : ℕ) : Type 0 where
  aside : (c < m.x) ⊎ (m.x + m.w ≤ c) → Spared m t c r
  higher : r < m.y → Spared m t c r
  past : (j : ℕ) → m.y + m.h ≤ j → j ≤ r → occupied t c j ≡ true → Spared m t c r

-- ---- what a request may come to

-- the step d is e, what the rules give, or a refusal with a code that is not 0
pub data StepOrRefusal (d e : Step) : Type 0 where
  same : d ≡ e → StepOrRefusal d e
  refusal : (c : ℕ) → (c ≡ 0 → ⊥) → d ≡ Refused c → StepOrRefusal d e

-- a step function that gives what the rules give, or refuses, by any code but 0
abbrev pub Stricter : ℕ → ℕ → (List ℕ → List ℕ → Step) → Type 0
Stricter W H f = (t q : List ℕ) → StepOrRefusal (f t q) (step_of W H t q)

-- a request of an operation that makes a module
pub record Newcomer (q : List ℕ) : Type 0 where
  pub makes : makes_new q ≡ true
  pub no_remove : is_remove q ≡ false
  pub no_exchange : is_exchange q ≡ false

-- slot i has the module that a remove or an exchange asks for. It is no block
pub record OldModule (W H : ℕ) (s : List ℤ) (t q : List ℕ) (i : ℕ) : Type 0 where
  pub at : i ≡ slot_of t (id_asked q)
  pub named : id_of t i ≡ id_asked q
  pub soft : is_hard t i ≡ false
  pub taking : Taking W H s t i

-- WHAT AN ACCEPTED REQUEST q DOES: with the slot i and the rectangle r it puts a module in, takes one out, or takes one out and puts another, whose cells were all empty with the old one there, into its slot
pub data Change (W H : ℕ) (s : List ℤ) (t q : List ℕ) (i : ℕ) (r : Rect) : Type 0 where
  puts : Newcomer q → i ≡ lowest_free t → Placing W H s t i (id_low q) (id_high q) r (kind_asked q) → Change W H s t q i r
  takes : is_remove q ≡ true → is_exchange q ≡ false → OldModule W H s t q i → r ≡ rect_of t i → Change W H s t q i r
  swaps : is_remove q ≡ false → is_exchange q ≡ true → OldModule W H s t q i → cells_empty (occupied t) r ≡ true →
      Placing W H (fresh W H (with_record t i free_record)) (with_record t i free_record) i (id_low q) (id_high q) r (kind_asked q) → Change W H s t q i r
