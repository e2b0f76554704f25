-- Rows of weights: written by a loop, and counted on from the marks.
use Rattle.std.specs.Prelude.{◌≡◌, cond, List, ℕ, zero, suc, ◌+◌, ◌≤◌, ◌<◌, ℤ, pos, length, get_or}
use Rattle.rules.specs.Surface.{cell}
use Rattle.cells.specs.Weight.{taken_z, count_of}

-- n cells from `at` hold what f says, and nothing else has changed
pub record RowWritten (s₀ s : List ℤ) (at n : ℕ) (f : ℕ → ℤ) : Type 0 where
  pub long : length s ≡ length s₀
  pub inside : (k : ℕ) → k < n → get_or s (at + k) (pos 0) ≡ f k
  pub before : (k : ℕ) → k < at → get_or s k (pos 0) ≡ get_or s₀ k (pos 0)
  pub after : (k : ℕ) → at + n ≤ k → get_or s k (pos 0) ≡ get_or s₀ k (pos 0)

-- an occupied cell keeps its mark m; an empty one counts on from a, the weight above it, from 1 where that cell is occupied
unfoldable pub counted_on : ℤ → ℤ → ℤ
counted_on m a = cond (taken_z m) m (pos (suc (count_of a)))

-- what cell (x, y) of the marks comes to; above the first row there is nothing to count
unfoldable pub counted_at : ℕ → List ℤ → ℕ → ℕ → ℤ
counted_at W m x zero = counted_on (cell W m x 0) (pos 0)
counted_at W m x (suc y) = counted_on (cell W m x (suc y)) (counted_at W m x y)

-- the first n rows of the marks s₀ are counted, the others are as they were
pub record CountedTo (W : ℕ) (s₀ s : List ℤ) (n : ℕ) : Type 0 where
  pub long : length s ≡ length s₀
  pub counted : (x y : ℕ) → x < W → y < n → cell W s x y ≡ counted_at W s₀ x y
  pub ahead : (x y : ℕ) → x < W → n ≤ y → cell W s x y ≡ cell W s₀ x y
