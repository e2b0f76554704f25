-- What the entries of a row are, without saying how they are found; and the order of the list. Assumes nothing.
use Rattle.std.specs.Prelude.{◌≡◌, ◌⊎◌, Bool, true, ℕ, ◌+◌, ◌-◌, ◌≤◌, ◌<◌}
use Rattle.listing.specs.declared.entry.Entry.{Entry}

-- a cell of l .. r with the property P
pub record Cell (l r : ℕ) (P : ℕ → Type 0) : Type 0 where
  pub cell : ℕ
  pub from : l ≤ cell
  pub upto : cell ≤ r
  pub has : P cell

-- h is the least of f l .. f r
pub record IsLeast (f : ℕ → ℕ) (l r h : ℕ) : Type 0 where
  pub below : (c : ℕ) → l ≤ c → c ≤ r → h ≤ f c
  pub met : Cell l r (λ c. f c ≡ h)

-- e is an entry of the row of w cells with the heights f and the support b: as wide as its height allows, and held from below
pub record IsEntry (f : ℕ → ℕ) (b : ℕ → Bool) (w : ℕ) (e : Entry) : Type 0 where
  pub order : e.left ≤ e.right
  pub inside : e.right < w
  pub positive : 0 < e.height
  pub height : IsLeast f e.left e.right e.height
  pub left_end : (e.left ≡ 0) ⊎ (f (e.left - 1) < e.height)
  pub right_end : (e.right + 1 ≡ w) ⊎ (f (e.right + 1) < e.height)
  pub held : Cell e.left e.right (λ c. b c ≡ true)

-- by right cell, then by left cell
abbrev pub Before : Entry → Entry → Type 0
Before e e' = (e.right < e'.right) ⊎ ((e.right ≡ e'.right) × (e.left < e'.left))
