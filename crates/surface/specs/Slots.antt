-- The used slots, side by side, and the parts of "a surface stands" that speak of the table alone.
use Rattle.std.specs.Prelude.{◌≡◌, Bool, true, ◌&&◌, List, ℕ, ◌≤◌, ◌<◌, get_or}
use Rattle.rules.specs.Tests.{count}
use Rattle.rules.specs.Surface.{used_slot, slots_sound, ids_differ, modules_apart}

-- the n used slots among the first i have their numbers side by side in u, so that k used slots stand before number k
pub record Gathered (t u : List ℕ) (i n : ℕ) : Type 0 where
  pub many : n ≡ count i (used_slot t)
  pub low : (k : ℕ) → k < n → get_or u k 0 < i
  pub used : (k : ℕ) → k < n → used_slot t (get_or u k 0) ≡ true
  pub before : (k : ℕ) → k < n → count (get_or u k 0) (used_slot t) ≡ k

-- "A surface stands when every slot is free or has an id ..; no two used slots have the same id; no two modules share a cell"
unfoldable pub table_stands : ℕ → ℕ → List ℕ → Bool
table_stands W H t = slots_sound W H t && ids_differ t && modules_apart W H t

-- none of the first n ids is over top
abbrev pub Under : List ℕ → ℕ → ℕ → Type 0
Under ids n top = (k : ℕ) → k < n → get_or ids k 0 ≤ top
