-- One row of a surface: which stretches of it are the bottom of a maximal empty rectangle, and the staircase (Handa and Vemuri) that finds them.
-- `f c` is the height of the empty run that ends in cell c of the row, 0 where c is occupied and from the row's width on; `b c` says that c has
-- support: it is empty, and the cell under it is occupied or the row is the last. Assumes nothing.
use Rattle.std.specs.Prelude.{◌≡◌, Bool, cond, ◌&&◌, ◌||◌, List, [], ◌∷◌, ◌++◌, ℕ, zero, suc, ◌+◌, ◌≤◌, ◌<◌, min, length, get_or, ltb}
use Rattle.rules.specs.Tests.{put}
use Rattle.listing.specs.declared.entry.Entry.{Entry}
use Rattle.listing.specs.declared.stairs.Stair.{Stair}

-- the least of f l .. f (l + k)
unfoldable pub least : (ℕ → ℕ) → ℕ → ℕ → ℕ
least f l zero = f l
least f l (suc k) = min (f l) (least f (suc l) k)

-- the height left of l, 0 at the edge
unfoldable pub before : (ℕ → ℕ) → ℕ → ℕ
before f zero = 0
before f (suc l) = f l

-- one of b l .. b (l + k) holds
unfoldable pub some : (ℕ → Bool) → ℕ → ℕ → Bool
some b l zero = b l
some b l (suc k) = some b l k || b (l + suc k)

-- THE DEFINITION. The entries whose right column is r and whose left column is one of l .. r, n = r + 1 - l: left columns rise
unfoldable pub from_left : (ℕ → ℕ) → (ℕ → Bool) → ℕ → ℕ → ℕ → List Entry
from_left f b r l zero = []
from_left f b r l (suc k) =
    put (ltb (before f l) (least f l k) && (ltb (f (suc r)) (least f l k) && some b l k))
    (record { left = l; right = r; height = least f l k })
    (from_left f b r (suc l) k)

abbrev pub entries_at : (ℕ → ℕ) → (ℕ → Bool) → ℕ → List Entry
entries_at f b r = from_left f b r 0 (suc r)

-- the entries of a row of w cells: right columns rise
unfoldable pub row_entries : (ℕ → ℕ) → (ℕ → Bool) → ℕ → List Entry
row_entries f b zero = []
row_entries f b (suc r) = row_entries f b r ++ entries_at f b r

-- THE STAIRS over n cells from l on: heights that reach back to l .. and no further, lefts rise
unfoldable pub stairs_from : (ℕ → ℕ) → ℕ → ℕ → List Stair
stairs_from f l zero = []
stairs_from f l (suc k) =
    put (ltb (before f l) (least f l k)) (record { left = l; height = least f l k }) (stairs_from f (suc l) k)

-- the stairs over the first x cells
abbrev pub stairs : (ℕ → ℕ) → ℕ → List Stair
stairs f x = stairs_from f 0 x

-- WHAT A STEP DOES. The stairs lower than v stay; the first that is not starts the stair of height v, or x does; c says whether there is one
unfoldable pub pushed : Bool → ℕ → ℕ → List Stair → List Stair
pushed c v x [] = put c (record { left = x; height = v }) []
pushed c v x (s ∷ t) = cond (ltb s.height v) (s ∷ pushed c v x t) (put c (record { left = s.left; height = v }) [])

-- the stairs higher than v that start before e leave as entries
unfoldable pub leaving : ℕ → ℕ → ℕ → List Stair → List Entry
leaving v e r [] = []
leaving v e r (s ∷ t) =
    put (ltb v s.height && ltb s.left e) (record { left = s.left; right = r; height = s.height }) (leaving v e r t)

-- one more than the last column with support among the first x, 0 where there is none
unfoldable pub reach : (ℕ → Bool) → ℕ → ℕ
reach b zero = 0
reach b (suc x) = cond (b x) (suc x) (reach b x)

-- how many heights among the first x are smaller than the one before
unfoldable pub turns : (ℕ → ℕ) → ℕ → ℕ
turns f zero = 0
turns f (suc x) = turns f x + cond (ltb (f x) (before f x)) 1 0

-- WHAT THE CODE HOLDS. The heights of the stairs rise
abbrev pub no_stair : Stair
no_stair = record { left = 0; height = 0 }

abbrev pub Rises : List Stair → Type 0
Rises s = (i j : ℕ) → i < j → j < length s → (get_or s i no_stair).height < (get_or s j no_stair).height

-- the first k of the stairs are lower than v, and the next is not
pub record CutAt (s : List Stair) (v k : ℕ) : Type 0 where
  pub within : k ≤ length s
  pub low : (j : ℕ) → j < k → (get_or s j no_stair).height < v
  pub high : k < length s → v ≤ (get_or s k no_stair).height

-- the cells lo .. x - 1 have a height: they are empty
abbrev pub Open : (ℕ → ℕ) → ℕ → ℕ → Type 0
Open f lo x = (c : ℕ) → lo ≤ c → c < x → f c ≡ 0 → ⊥
