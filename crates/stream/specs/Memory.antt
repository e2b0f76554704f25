-- The program's memory in the words of `Records`, `Promise` and `Input`.
use Rattle.std.specs.Prelude.{List, ℕ}
use Rattle.stream.specs.declared.memory.Memory.{Memory}
use Rattle.stream.specs.Size.{columns_of, rows_of}
use Rattle.stream.specs.Records.{Kept, kept}
use Rattle.stream.specs.Promise.{Served, ServedAll}
use Rattle.stream.specs.Input.{SoFar}

abbrev pub kept_in : Memory → Kept
kept_in m = kept (columns_of m.size) (rows_of m.size m.rows) m.weights m.table

-- the record q is served: what was z is m then, and a its answer
abbrev pub ServedIn : List ℕ → Kept → Memory → List ℕ → Type 0
ServedIn q z m a = Served q z (columns_of m.size) (rows_of m.size m.rows) m.weights m.table a

-- the records q are served: what was z is m then, and a their answers
abbrev pub AllServedIn : List ℕ → Kept → Memory → List ℕ → Type 0
AllServedIn q z m a = ServedAll q z (columns_of m.size) (rows_of m.size m.rows) m.weights m.table a

-- some reads have led to m from the first state on, and the bytes l are held
abbrev pub SoFarIn : Memory → List ℕ → Type 0
SoFarIn m l = SoFar (columns_of m.size) (rows_of m.size m.rows) m.weights m.table l
