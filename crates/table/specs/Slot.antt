-- A slot of the table that is looked for.
use Rattle.std.specs.Prelude.{ℕ, cond, ltb, Option, Some, None}

-- slot i where it is one of the n that there are, else none
abbrev pub found_below : ℕ → ℕ → Option ℕ
found_below n i = cond (ltb i n) (Some i) None

-- the slot that was found, and n where none was
abbrev pub slot_or : ℕ → Option ℕ → ℕ
slot_or n None = n
slot_or n (Some i) = i
