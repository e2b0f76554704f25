-- A record of the table, as it is written.
use Rattle.std.specs.Prelude.{ℕ, ◌<◌}
use Rattle.rules.specs.declared.Rect.{Rect}
use Rattle.table.specs.declared.Kind.{Kind}
use Rattle.table.specs.declared.Kind.TheVariants.{Module, Block}

-- a rectangle's numbers are bytes
pub record Bytes (r : Rect) : Type 0 where
  pub x : r.x < 256
  pub y : r.y < 256
  pub w : r.w < 256
  pub h : r.h < 256

-- "0 a module, 1 a block"
abbrev pub kind_byte : Kind → ℕ
kind_byte Module = 0
kind_byte Block = 1
