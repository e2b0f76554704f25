-- THE INPUT IN READS of any lengths: each read goes behind the bytes that are held, the whole records are served, and the rest is held. That is the loop of
-- the program `freelist`: `serve` promises the first two of a read's parts (ServedAll), `carry` the third.
use Rattle.std.specs.Prelude.{◌≡◌, List, [], ◌∷◌, ◌++◌, ℕ, ◌*◌, ℤ, take, drop}
use Rattle.stream.specs.Records.{Kept, kept, first_kept, records, after_records, answers_to}

-- what there is between two reads: what is kept, all answers so far, and the bytes that are held
pub record Reading : Type 0 where
  pub state : Kept
  pub answers : List ℕ
  pub held : List ℕ

-- at the start
abbrev pub begun : Kept → Reading
begun z = record { state = z; answers = []; held = [] }

-- the whole records of q, and the bytes after the last of them
abbrev pub whole : List ℕ → List ℕ
whole q = take (8 * records q) q

abbrev pub rest : List ℕ → List ℕ
rest q = drop (8 * records q) q

-- the whole records of q are served, and the rest of q is held
abbrev pub served : List ℕ → Reading → Reading
served q y = record {
  state = after_records (whole q) y.state (records (whole q));
  answers = y.answers ++ answers_to (whole q) y.state (records (whole q));
  held = rest q;
}

-- one read after the other
unfoldable pub after_reads : List (List ℕ) → Reading → Reading
after_reads [] y = y
after_reads (c ∷ cs) y = after_reads cs (served (y.held ++ c) y)

-- the bytes of the reads, one behind the other, behind q
unfoldable pub in_turn : List ℕ → List (List ℕ) → List ℕ
in_turn q [] = q
in_turn q (c ∷ cs) = in_turn (q ++ c) cs

-- from the first state on, some reads have led to sizes and slices, and the bytes l are held
pub record SoFar (w h : ℕ) (s : List ℤ) (t l : List ℕ) : Type 0 where
  pub reads : List (List ℕ)
  pub state : kept w h s t ≡ (after_reads reads (begun first_kept)).state
  pub held : l ≡ (after_reads reads (begun first_kept)).held
