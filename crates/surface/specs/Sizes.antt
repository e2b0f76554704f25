-- The codes that are given before anything is read: by sizes and lengths.
use Rattle.std.specs.Prelude.{not, List, [], ◌∷◌, ℕ, eqb}
use Rattle.rules.specs.Judging.{Line, ◌when◌}
use Rattle.rules.specs.Calls.{bad_block}

-- 4 and 5, by the lengths of block and answers
abbrev pub block_lines : ℕ → ℕ → List Line
block_lines nq na = 4 when bad_block nq ∷ 5 when not (eqb na nq) ∷ []
