-- THE THEOREMS that the walk along the rows rests on, each under the sentence that it answers. The proofs stand in the files that the `use` lines name.
use mathlib.Core.Path.{◌≡◌}
use mathlib.Core.Bool.{Bool, true, false}
use mathlib.Core.List.{List, []}
use Prim.Native.Nat.{ℕ, suc, ◌+◌, ◌<◌}
use lib.Dec.{ltb}
use Rattle.rules.specs.Tests.{chain}
use Rattle.rules.specs.Surface.{occupied}
use Rattle.rules.specs.Empties.{Maximal, entries, scanned, corner}
use Rattle.rules.specs.declared.Rect.{Rect}
use Rattle.listing.specs.declared.entry.Entry.{Entry}
use Rattle.listing.specs.Row.{stairs, pushed, leaving, reach, entries_at}
use Rattle.listing.specs.Meaning.{IsEntry}
use Rattle.listing.specs.Listed.{height_of, support, entry_of, entry_rect, entries_in, rects_in, listed}
use Rattle.listing.proofs.StairLaws as S
use Rattle.listing.proofs.Plane as P
use Rattle.listing.proofs.ListLaws as L
use Rattle.listing.proofs.Corners as C

-- ---- "The list is ordered by bottom row, then by right column, then by left column, all rising": it is the rows' lists one behind the other

pub list_by_rows : (occ : ℕ → ℕ → Bool) (W H : ℕ) → entries occ W H ≡ chain H (rects_in occ W H)
unfolding listed
list_by_rows = L.entries_listed

-- ---- "A row y is scanned when ..": a row that is not has no entry, and no corner

pub only_scanned : (t : List ℕ) (W H y : ℕ) → y < H → scanned H t y ≡ false → entries_in (occupied t) W H y ≡ []
only_scanned = L.unscanned

-- ---- a maximal empty rectangle is an entry of its bottom row, and the reverse

pub maximal_in_row : (occ : ℕ → ℕ → Bool) (W H : ℕ) (a : Rect) (y : ℕ) → a.y + a.h ≡ suc y → Maximal occ W H a → IsEntry (height_of occ W y) (support occ W H y) W (entry_of a)
maximal_in_row = P.maximal_entry

pub row_is_maximal : (occ : ℕ → ℕ → Bool) (W H y : ℕ) (e : Entry) → y < H → IsEntry (height_of occ W y) (support occ W H y) W e → Maximal occ W H (entry_rect y e)
row_is_maximal = P.entry_maximal

-- ---- the staircase of document 000: one cell more pushes its stair, and exactly the stairs that leave at a corner and have support are entries

pub one_cell_more : (f : ℕ → ℕ) (x : ℕ) → stairs f (suc x) ≡ pushed (ltb 0 (f x)) (f x) x (stairs f x)
one_cell_more = S.push_law

pub leaving_are_entries : (f : ℕ → ℕ) (b : ℕ → Bool) (r : ℕ) → entries_at f b r ≡ leaving (f (suc r)) (reach b (suc r)) r (stairs f (suc r))
leaving_are_entries = S.leave_law

-- ---- "A corner is an empty cell of a scanned row that stands in the last column or whose right neighbour has a smaller weight": the height goes down

pub corner_by_heights : (W H : ℕ) (t : List ℕ) (y : ℕ) → scanned H t y ≡ true → (x : ℕ) → x < W → corner W H t x y ≡ ltb (height_of (occupied t) W y (suc x)) (height_of (occupied t) W y x)
corner_by_heights = C.corner_is
