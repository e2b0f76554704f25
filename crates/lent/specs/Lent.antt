-- What is known inside a call: codes that do not apply, and the surface examined.
use Rattle.std.specs.Prelude.{◌≡◌, true, List, ◌++◌, ℕ, ℤ, length, Result}
use Rattle.rules.specs.Judging.{first}
use Rattle.rules.specs.Surface.{stands}
use Rattle.rules.specs.Calls.{size_lines}
use Rattle.rules.specs.Host.{LentSurface, bad_bytes, weights_in}
use Rattle.surface.specs.Sizes.{block_lines}
use Rattle.surface.specs.Examine.{Tells}
use Rattle.rules.specs.declared.Refusal.{Refusal}

-- sizes and lengths are right: codes 1, 2 and 3 do not apply
pub record Right (W H : ℕ) (l : LentSurface) : Type 0 where
  pub right : first (size_lines (bad_bytes W H l) W H (length l.table)) ≡ 0

-- and 4 and 5 neither
pub record RightBlock (W H : ℕ) (l : LentSurface) (q a : List ℕ) : Type 0 where
  pub right : first (size_lines (bad_bytes W H l) W H (length l.table) ++ block_lines (length q) (length a)) ≡ 0

-- the surface is examined; where it stands, s holds its weights
pub record LentExamined (W H : ℕ) (l : LentSurface) (r : Result ℕ Refusal) (s : List ℤ) : Type 0 where
  pub answer : Tells (stands W H (weights_in l) l.table) l.table r
  pub weights : stands W H (weights_in l) l.table ≡ true → s ≡ weights_in l
