-- A BLOCK: "the requests then run in turn, each on the surface that the one before left. A refused request changes neither weights nor table, and
-- the block goes on."
use Rattle.std.specs.Prelude.{List, [], ◌++◌, ℕ, zero, suc, ◌+◌, ◌*◌, ◌/◌, ℤ, length, take, drop}
use Rattle.rules.specs.Requests.{step_of, answer_of, table_after, weights_after, accepted_one}
use Rattle.rules.specs.Refusals.{Step}

-- what a block has left so far: weights, table, the answers written, how many requests were accepted
pub record State : Type 0 where
  pub weights : List ℤ
  pub table : List ℕ
  pub answers : List ℕ
  pub accepted : ℕ

abbrev pub started : List ℤ → List ℕ → State
started s t = record { weights = s; table = t; answers = []; accepted = 0 }

-- one request, with the eight bytes q, that comes to d
abbrev pub with_step : ℕ → ℕ → List ℕ → Step → State → State
with_step W H q d z = record {
  weights = weights_after W H q d z.table z.weights;
  table = table_after q d z.table;
  answers = z.answers ++ answer_of q d;
  accepted = z.accepted + accepted_one d;
}

-- what a request comes to may be said by any step function, of table and request; by the rules it is `step_of`
unfoldable pub next_by : (List ℕ → List ℕ → Step) → ℕ → ℕ → List ℕ → State → State
next_by f W H q z = with_step W H q (f z.table q) z

abbrev pub next : ℕ → ℕ → List ℕ → State → State
next W H q z = next_by (step_of W H) W H q z

-- how many requests a block has, and the eight bytes of request k
abbrev pub requests : List ℕ → ℕ
requests q = length q / 8

abbrev pub request : List ℕ → ℕ → List ℕ
request q k = take 8 (drop (8 * k) q)

-- after the first k requests of block q
unfoldable pub after_by : (List ℕ → List ℕ → Step) → ℕ → ℕ → List ℕ → State → ℕ → State
after_by f W H q z zero = z
after_by f W H q z (suc k) = next_by f W H (request q k) (after_by f W H q z k)

abbrev pub after : ℕ → ℕ → List ℕ → State → ℕ → State
after W H q z k = after_by (step_of W H) W H q z k
