-- WHAT A RULE SAYS: "Among list entries with room for the module: rule 0 takes the first; rule 1 the least area of the entry less that of the module; rule 2 the least (H − y − h)·W + x of
-- the entry. Ties go to the earlier entry. The module stands in the entry's lower left corner."
use Rattle.std.specs.Prelude.{◌≡◌, Bool, ℕ, ◌≤◌, ◌<◌}
use mathlib.Core.List.{List, ◌∷◌, ◌++◌, Memᴰ}
use Rattle.rules.specs.Tests.{keep}
use Rattle.rules.specs.Empties.{Maximal, entries}
use Rattle.rules.specs.Requests.{fits, cost, lower_left}
use Rattle.rules.specs.declared.Rect.{Rect}

-- c is the first of those that cost least in a list
pub record FirstLeast (f : Rect → ℕ) (l : List Rect) (c : Rect) : Type 0 where
  pub before : List Rect
  pub after : List Rect
  pub is : l ≡ before ++ (c ∷ after)
  pub dearer : (d : Rect) → Memᴰ d before → f c < f d
  pub least : (d : Rect) → Memᴰ d after → f c ≤ f d

-- the place r is that of rule `rule` for a module of w columns and h rows: the entry behind it, which has room and is the first that costs least
pub record ByRule (occ : ℕ → ℕ → Bool) (W H rule w h : ℕ) (r : Rect) : Type 0 where
  pub entry : Rect
  pub is_maximal : Maximal occ W H entry
  pub wide : w ≤ entry.w
  pub high : h ≤ entry.h
  pub best : FirstLeast (cost W H w h rule) (keep (fits w h) (entries occ W H)) entry
  pub is : r ≡ lower_left w h entry
