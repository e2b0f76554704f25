-- What serving leaves of the surface that is lent for it.
use Rattle.std.specs.Prelude.{◌≡◌, List, ℕ}
use Rattle.requests.specs.Steps.{Served, ServedAt}
use Rattle.requests.specs.declared.serve.SurfaceMut.{SurfaceMut}

-- the surface is as wide and as high as before, and its weights and its table are those that were lent
pub record Kept (old new : SurfaceMut) : Type 0 where
  pub w : new.w ≡ old.w
  pub h : new.h ≡ old.h
  pub weights : new.weights.ghost_name ≡ old.weights.ghost_name
  pub table : new.table.ghost_name ≡ old.table.ghost_name

-- the request q is served on it, with the answer a, and 1 where it is accepted
abbrev pub Serves : SurfaceMut → SurfaceMut → List ℕ → List ℕ → ℕ → Type 0
Serves old new q a n = Served old.w old.h q old.weights.now old.table.now new.weights.now new.table.now a n

-- the request at an offset of the block q is, in that place of the answers a, which are then a'
abbrev pub ServesAt : SurfaceMut → SurfaceMut → List ℕ → ℕ → List ℕ → List ℕ → ℕ → Type 0
ServesAt old new q at a a' n = ServedAt old.w old.h q at old.weights.now old.table.now a new.weights.now new.table.now a' n
