-- The size of a surface as the two numbers of the definitions: W is 0 while there is none, and H is h then.
use Rattle.std.specs.Prelude.{ℕ, Option, Some, None}
use Rattle.stream.specs.declared.size.Size.{Size}

abbrev pub columns_of : Option Size → ℕ
columns_of (Some z) = z.columns
columns_of None = 0

abbrev pub rows_of : Option Size → ℕ → ℕ
rows_of (Some z) h = z.rows
rows_of None h = h
