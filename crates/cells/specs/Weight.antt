-- What one signed weight says, as a test and as numbers: "negative 16-bit weights for occupied cells, positive counts for empty".
use Rattle.std.specs.Prelude.{Bool, true, false, not, List, ℕ, suc, ◌+◌, ℤ, pos, negsuc, length, get_or}
use Rattle.rules.specs.Tests.{every, eq_z}
use Rattle.rules.specs.Surface.{cell}

-- below 0: the cell is occupied
abbrev pub taken_z : ℤ → Bool
taken_z (pos n) = false
taken_z (negsuc n) = true

-- the count that a cell holds which is not occupied, 0 of an occupied one
abbrev pub count_of : ℤ → ℕ
count_of (pos n) = n
count_of (negsuc n) = 0

-- the width that an occupied cell holds, 0 of an empty one: "negation gives the columns to skip"
abbrev pub width_of : ℤ → ℕ
width_of (pos n) = 0
width_of (negsuc n) = suc n

-- no cell of the w by h rectangle at (x, y) is occupied, as the signs say
unfoldable pub untaken : ℕ → List ℤ → ℕ → ℕ → ℕ → ℕ → Bool
untaken W s x y w h = every h (λ j. every w (λ i. not (taken_z (cell W s (x + i) (y + j)))))

-- a list of weights that is as long holds the same
unfoldable pub same_weights : List ℤ → List ℤ → Bool
same_weights s u = every (length s) (λ k. eq_z (get_or s k (pos 0)) (get_or u k (pos 0)))
