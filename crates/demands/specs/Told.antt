-- A TABLE THAT THE HISTORY TELLS: it holds exactly the modules and blocks of the history, each in its slot and of its kind.
use Rattle.std.specs.Prelude.{◌≡◌, true, false, ◌↔◌, ℕ, ◌<◌}
use mathlib.Core.List.{List, Memᴰ}
use Rattle.rules.specs.Surface.{slots, byte, id_of, rect_of, kind_of, free_slot}
use Rattle.rules.specs.Empties.{Ordered}
use Rattle.rules.specs.declared.Rect.{Rect}
use Rattle.demands.specs.History.{Module, module_at}

-- the module's slot is used, with its id, its rectangle and its kind
pub record HasModule (t : List ℕ) (m : Module) : Type 0 where
  pub low : m.slot < slots t
  pub used : free_slot t m.slot ≡ false
  pub id : id_of t m.slot ≡ m.id
  pub place : rect_of t m.slot ≡ m.place
  pub kind : kind_of t m.slot ≡ m.kind

pub record Told (h : List Module) (t : List ℕ) : Type 0 where
  pub exact : (m : Module) → Memᴰ m h ↔ HasModule t m
  pub differ : Ordered (λ (m n : Module). m.id ≡ n.id → ⊥) h

-- some slot of the table has a module with this id, this rectangle and this kind
pub record Placed (t : List ℕ) (id : ℕ) (r : Rect) (kind : ℕ) : Type 0 where
  pub slot : ℕ
  pub has : HasModule t (module_at slot id r kind)

-- slot i is free, and every slot before it is used
pub record LowestFree (t : List ℕ) (i : ℕ) : Type 0 where
  pub slot : i < slots t
  pub free : free_slot t i ≡ true
  pub before : (j : ℕ) → j < i → free_slot t j ≡ false

-- slot i is used, and n is its id
pub record SlotOfId (t : List ℕ) (i n : ℕ) : Type 0 where
  pub slot : i < slots t
  pub used : free_slot t i ≡ false
  pub named : id_of t i ≡ n

-- n is the id of a block: some slot of the table has a block with this id
pub record HardId (t : List ℕ) (n : ℕ) : Type 0 where
  pub slot : ℕ
  pub low : slot < slots t
  pub named : id_of t slot ≡ n
  pub hard : kind_of t slot ≡ 1

-- EVERY BLOCK STAYS from one table to another: wherever the first has a block, the other has the same eight bytes
abbrev pub HardStays : List ℕ → List ℕ → Type 0
HardStays t t' = (i : ℕ) → kind_of t i ≡ 1 → (k : ℕ) → k < 8 → byte t' i k ≡ byte t i k
