-- What a walk over the weights leaves of the grid that it is given.
use Rattle.std.specs.Prelude.{◌≡◌}
use Rattle.modules.specs.declared.Grid.{Grid}

-- the grid is as wide and as high as before, and its weights are those that were lent
pub record Kept (old new : Grid) : Type 0 where
  pub w : new.w ≡ old.w
  pub h : new.h ≡ old.h
  pub lent : new.weights.ghost_name ≡ old.weights.ghost_name
