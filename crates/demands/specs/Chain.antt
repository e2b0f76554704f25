-- CHAINS OF CALLS: "Take a cleared surface whose sizes stay and whose cells and table nobody else writes to, and any sequence of requests, accepted and
-- refused, cut anyhow into blocks that are not themselves refused." What the exported calls returned and left is known by their contracts alone.
use Rattle.std.specs.Prelude.{◌≡◌, List, [], ◌∷◌, ◌++◌, ℕ, zero, suc, ◌+◌}
use Rattle.rules.specs.Blocks.{State, started, request, after}
use Rattle.rules.specs.Calls.{code_of_result, first_of_result}
use Rattle.rules.specs.Host.{LentSurface, weights_in, HostClearedBy, HostRanBy}

-- RUN WAS CALLED AND CAME BACK: with this surface, block and room for answers, with this number, surface and answers, and its contract holds
pub record RunCall (W H : ℕ) : Type 0 where
  pub lent : LentSurface
  pub block : List ℕ
  pub room : List ℕ
  pub result : ℕ
  pub left : LentSurface
  pub answers : List ℕ
  pub contract : HostRanBy W H lent block room result left answers

module _ {W H : ℕ} (c : RunCall W H) where
  -- the block was not itself refused
  abbrev pub NotRefused : Type 0
  NotRefused = code_of_result c.result ≡ 0

  -- request k, and the answer to it, as bytes
  abbrev pub asked : ℕ → List ℕ
  asked k = request c.block k

  abbrev pub answered : ℕ → List ℕ
  answered k = request c.answers k

  -- what the first k requests have left of the surface and the table that the host has lent, answered and counted
  abbrev pub up_to : ℕ → State
  up_to k = after W H c.block (started (weights_in c.lent) c.lent.table) k

-- blocks, the latest first: their requests in turn
unfoldable pub joined : List (List ℕ) → List ℕ
joined [] = []
joined (q ∷ qs) = joined qs ++ q

-- W columns, H rows. Clear was called on l₀, and then run, once for each block, on what the call before left, none of them refused: qs has the blocks, the latest at its head; l is left
-- now, a is the bytes of all answers, n how many requests were accepted
pub data Chain (W H : ℕ) (l₀ : LentSurface) : List (List ℕ) → LentSurface → List ℕ → ℕ → Type 0 where
  cleared : {r : ℕ} {l : LentSurface} → HostClearedBy W H l₀ r l → code_of_result r ≡ 0 → Chain W H l₀ [] l [] 0
  block : {qs : List (List ℕ)} {a : List ℕ} {n : ℕ} (c : RunCall W H) → Chain W H l₀ qs c.lent a n → NotRefused c →
      Chain W H l₀ (c.block ∷ qs) c.left (a ++ c.answers) (n + first_of_result c.result)

-- a chain over these blocks, whatever it has left
pub record ChainOver (W H : ℕ) (l₀ : LentSurface) (qs : List (List ℕ)) : Type 0 where
  pub left : LentSurface
  pub answers : List ℕ
  pub accepted : ℕ
  pub chain : Chain W H l₀ qs left answers accepted

-- the first k requests of q, each a block of its own, the latest first
unfoldable pub ones : List ℕ → ℕ → List (List ℕ)
ones q zero = []
ones q (suc k) = request q k ∷ ones q k

-- RUN AFTER RUN, each on what the one before left, accepted or refused, with no clear between: from the surface l on, l' is left now
pub data Onward (W H : ℕ) (l : LentSurface) : LentSurface → Type 0 where
  here : Onward W H l l
  run : (c : RunCall W H) → Onward W H l c.lent → Onward W H l c.left
