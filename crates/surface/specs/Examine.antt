-- What "the surface is examined" comes to.
use Rattle.std.specs.Prelude.{◌≡◌, Bool, true, cond, List, ℕ, ℤ, Result, Ok, Err}
use Rattle.rules.specs.Surface.{fresh, used_slots}
use Rattle.rules.specs.Refusals.{result_code}
use Rattle.rules.specs.declared.Refusal.{Refusal}
use Rattle.surface.specs.Slots.{table_stands}

-- this paper's value of each case: the count of used slots, or no count; the number of each is its `result_code`
abbrev pub used_of : Result ℕ Refusal → ℕ
used_of (Ok u) = u
used_of (Err e) = 0

-- the answer r tells whether a surface with this table stands: code 0, or code 6, "the surface does not stand"
pub record Tells (standing : Bool) (t : List ℕ) (r : Result ℕ Refusal) : Type 0 where
  pub code : result_code r ≡ cond standing 0 6
  pub used : used_of r ≡ cond standing (used_slots t) 0

-- the table is examined; where it stands, its weights are worked out afresh
pub record WorkedOut (W H : ℕ) (t : List ℕ) (r : Result ℕ Refusal) (m : List ℤ) : Type 0 where
  pub answer : Tells (table_stands W H t) t r
  pub weights : table_stands W H t ≡ true → m ≡ fresh W H t
