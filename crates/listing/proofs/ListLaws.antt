-- The list of a surface is its rows' entries one behind the other; a row has at most W, and one that is not scanned has none. Assumes nothing.
use mathlib.Core.Path.{◌≡◌, refl, sym, ap, ◌∙◌, subst}
use mathlib.Core.Logic.{inl, inr, ⊎_elim, ◌↔◌}
use mathlib.Core.Bool.{Bool, false}
use mathlib.Core.List.Memᴰ
use mathlib.Core.List.{List, [], map, ◌∷◌, Memᴰ}
use Prim.Native.Nat.{ℕ, zero, suc, ◌+◌, ◌-◌, ◌≤◌, ◌<◌}
use native.Mathlib.Nat.{le_refl}
use native.Mathlib.Omega.{arith}
use lib.ListN.{length, get_or, length-map}
use Rattle.rules.specs.Surface.{occupied}
use Rattle.rules.specs.Empties.{Maximal, entries, Earlier, Ordered, scanned}
use Rattle.rules.specs.declared.Rect.{Rect}
use Rattle.rules.proofs.Tests.{not_both, chain_mem, mem_chain}
use Rattle.meaning.proofs.Rectangles.{rect_eq, entries_are}
use Rattle.meaning.proofs.Order.{entries_ordered, ordered_chain}
use Rattle.meaning.proofs.Bound.{one_row_few}
use Rattle.meaning.proofs.Corners.{bottom_scanned}
use Rattle.listing.specs.declared.entry.Entry.{Entry}
use Rattle.listing.specs.Meaning.{IsEntry, Before}
use Rattle.listing.specs.Listed.{height_of, support, entry_of, entry_rect, entries_in, rects_in, listed, no_entry, Drawn}
use Rattle.listing.proofs.Meaning.{entries_mem, entries_ordered as row-ordered, ordered_map}
use Rattle.listing.proofs.Cells.{height_past}
use Rattle.listing.proofs.Plane.{maximal_entry, entry_maximal, from_top}

-- ---- two lists in order with the same members are one

module _ {A : Type 0} (R : A → A → Type 0) (asym : (a b : A) → R a b → R b a → ⊥) where
  heads : (x y : A) (l m : List A) → Ordered R (x ∷ l) → Ordered R (y ∷ m) → Memᴰ x (y ∷ m) → Memᴰ y (x ∷ l) → x ≡ y
  unfolding Ordered
  heads x y l m p q i j =
      ⊎_elim
      (λ (e : x ≡ y). e)
      (λ k. ⊎_elim (λ (e : y ≡ x). sym e) (λ n. absurd (asym x y (p.0 y n) (q.0 x k))) (Memᴰ.cases_cons j))
      (Memᴰ.cases_cons i)

  -- what follows the head is not the head
  tails : (x y : A) (l m : List A) → Ordered R (x ∷ l) → x ≡ y → ((a : A) → Memᴰ a (x ∷ l) → Memᴰ a (y ∷ m)) → (a : A) → Memᴰ a l → Memᴰ a m
  unfolding Ordered
  tails x y l m p e f a n =
      ⊎_elim
      (λ (q : a ≡ y). let r = Memᴰ.cast (e ∙ sym q) n in absurd (asym x x (p.0 x r) (p.0 x r)))
      (λ k. k)
      (Memᴰ.cases_cons (f a (Memᴰ.tail n)))

  pub same_ordered : (l m : List A) → Ordered R l → Ordered R m → ((a : A) → Memᴰ a l → Memᴰ a m) → ((a : A) → Memᴰ a m → Memᴰ a l) → l ≡ m
  unfolding Ordered
  same_ordered [] [] p q f g = refl
  same_ordered [] (y ∷ m) p q f g = absurd (Memᴰ.not-nil (g y (Memᴰ.head refl)))
  same_ordered (x ∷ l) [] p q f g = absurd (Memᴰ.not-nil (f x (Memᴰ.head refl)))
  same_ordered (x ∷ l) (y ∷ m) p q f g =
      let e : x ≡ y = heads x y l m p q (f x (Memᴰ.head refl)) (g y (Memᴰ.head refl)) in
      let t : l ≡ m = same_ordered l m p.1 q.1 (tails x y l m p e f) (tails y x m l q (sym e) g) in
      λ j. e j ∷ t j

-- a list with no member
no_member : {A : Type 0} (l : List A) → ((a : A) → Memᴰ a l → ⊥) → l ≡ []
no_member [] f = refl
no_member (x ∷ l) f = absurd (f x (Memᴰ.head refl))

-- of two rectangles one is earlier
pub earlier_one : (a b : Rect) → Earlier a b → Earlier b a → ⊥
earlier_one a b (inl p) (inl q) = omega arith
earlier_one a b (inl p) (inr (q, r)) = omega arith
earlier_one a b (inr (p, r)) (inl q) = omega arith
earlier_one a b (inr (p, inl r)) (inr (q, inl s)) = omega arith
earlier_one a b (inr (p, inl r)) (inr (q, inr (s, u))) = omega arith
earlier_one a b (inr (p, inr (r, u))) (inr (q, inl s)) = omega arith
earlier_one a b (inr (p, inr (r, u))) (inr (q, inr (s, v))) = omega arith

module _ (occ : ℕ → ℕ → Bool) (W H : ℕ) where
  meant : (y : ℕ) (e : Entry) → Memᴰ e (entries_in occ W H y) → IsEntry (height_of occ W y) (support occ W H y) W e
  unfolding entries_in
  meant y e m = (entries_mem (height_of occ W y) (support occ W H y) W (height_past occ W y W (le_refl W)) e).0 m

  -- an entry's rectangle: its bottom row and its last column
  bottom_of : (y : ℕ) (e : Entry) → y < H → Memᴰ e (entries_in occ W H y) → suc y - e.height + e.height ≡ suc y
  bottom_of y e h m = from_top occ W H y e h (meant y e m)

  right_of : (y : ℕ) (e : Entry) → Memᴰ e (entries_in occ W H y) → e.left + (suc e.right - e.left) ≡ suc e.right
  right_of y e m = omega (arith, (meant y e m).order)

  -- a rectangle of row y is maximal, and its bottom row is y
  pub record Of (y : ℕ) (a : Rect) : Type 0 where
    pub is_maximal : Maximal occ W H a
    pub bottom : a.y + a.h ≡ suc y

  of_entry : (y : ℕ) (e : Entry) → y < H → Memᴰ e (entries_in occ W H y) → Of y (entry_rect y e)
  of_entry y e h m = record { is_maximal = entry_maximal occ W H y e h (meant y e m); bottom = bottom_of y e h m }

  pub of_row : (y : ℕ) (a : Rect) → y < H → Memᴰ a (rects_in occ W H y) → Of y a
  unfolding rects_in
  of_row y a h m =
      let n = Memᴰ.of_map (entry_rect y) (entries_in occ W H y) m in
      rw (← n.2) (of_entry y n.0 h n.1)

  in_row : (a : Rect) → Maximal occ W H a → Memᴰ a (rects_in occ W H (a.y + a.h - 1))
  unfolding rects_in entries_in
  in_row a m =
      let y = a.y + a.h - 1 in
      let q : a.y + a.h ≡ suc y = omega (arith, m.is_empty.tall) in
      let back : a ≡ entry_rect y (entry_of a) = rect_eq a (entry_rect y (entry_of a)) refl (omega arith) (omega (arith, m.is_empty.wide)) refl in
      Memᴰ.cast back
      (Memᴰ.map (entry_rect y) ((entries_mem (height_of occ W y) (support occ W H y) W (height_past occ W y W (le_refl W)) (entry_of a)).1 (maximal_entry occ W H a y q m)))

  -- THE ROWS HAVE EXACTLY THE MAXIMAL EMPTY RECTANGLES
  pub listed_mem : (a : Rect) → Memᴰ a (listed occ W H H) ↔ Maximal occ W H a
  unfolding listed
  listed_mem a = (
    (λ m. let w = mem_chain (rects_in occ W H) H m in (of_row w.0 a w.1 w.2).is_maximal),
    (λ m. chain_mem (rects_in occ W H) H (a.y + a.h - 1) (omega (arith, m.is_empty.lines, m.is_empty.tall)) (in_row a m)),
  )

  rects_ordered : (y : ℕ) → y < H → Ordered Earlier (rects_in occ W H y)
  unfolding rects_in
  rects_ordered y h =
      ordered_map Before Earlier (entry_rect y) (entries_in occ W H y)
      (λ a b m n k.
      rw (bottom_of y a h m, bottom_of y b h n, right_of y a m, right_of y b n)
      (inr (refl, ⊎_elim (λ (p : a.right < b.right). inl (omega arith)) (λ (p : (a.right ≡ b.right) × (a.left < b.left)). inr (ap suc p.0, p.1)) k)))
      (unfold entries_in in row-ordered (height_of occ W y) (support occ W H y) W)

  pub listed_ordered : Ordered Earlier (listed occ W H H)
  unfolding listed
  listed_ordered =
      ordered_chain Earlier (rects_in occ W H) H rects_ordered
      (λ j k h g a b m n. inl (omega (arith, (of_row j a (omega arith) m).bottom, (of_row k b g n).bottom)))

  -- THE LIST IS THE ROWS' ENTRIES ONE BEHIND THE OTHER
  pub entries_listed : entries occ W H ≡ listed occ W H H
  entries_listed =
      same_ordered Earlier earlier_one (entries occ W H) (listed occ W H H) (entries_ordered occ W H) listed_ordered
      (λ a m. (listed_mem a).1 ((entries_are occ W H a).0 m))
      (λ a m. (entries_are occ W H a).1 ((listed_mem a).0 m))

  -- A ROW HAS AT MOST W ENTRIES
  pub row_few : (y : ℕ) → y < H → length (entries_in occ W H y) ≤ W
  unfolding rects_in
  row_few y h =
      rw (← length-map (entries_in occ W H y) (entry_rect y))
      (one_row_few occ W H y (rects_in occ W H y) (λ a m. let o = of_row y a h m in (o.is_maximal, o.bottom)) (rects_ordered y h))

-- A ROW THAT IS NOT SCANNED HAS NO ENTRY
pub unscanned : (t : List ℕ) (W H y : ℕ) → y < H → scanned H t y ≡ false → entries_in (occupied t) W H y ≡ []
unscanned t W H y h e =
    no_member (entries_in (occupied t) W H y)
    (λ a m.
    let o = of_entry (occupied t) W H y a h m in
    let q : suc y - a.height + a.height - 1 ≡ y = omega (arith, o.bottom) in
    not_both (scanned H t y) (ap (scanned H t) (sym q) ∙ bottom_scanned t W H (entry_rect y a) o.is_maximal) e)

pub unscanned_rects : (t : List ℕ) (W H y : ℕ) → y < H → scanned H t y ≡ false → rects_in (occupied t) W H y ≡ []
unfolding rects_in
unscanned_rects t W H y h e = ap (map (entry_rect y)) (unscanned t W H y h e)

pub rects_length : (occ : ℕ → ℕ → Bool) (W H y : ℕ) → length (rects_in occ W H y) ≡ length (entries_in occ W H y)
unfolding rects_in
rects_length occ W H y = length-map (entries_in occ W H y) (entry_rect y)

-- the entries of a row, on a surface of at most 64 columns and rows
pub drawn : (occ : ℕ → ℕ → Bool) (W H y : ℕ) → y < H → W ≤ 64 → H ≤ 64 → (e : Entry) → Memᴰ e (entries_in occ W H y) → Drawn y e
drawn occ W H y p q r e m =
    let i = meant occ W H y e m in
    record { low = omega arith; order = i.order; inside = omega (arith, i.inside); tall = i.positive; top = omega (arith, bottom_of occ W H y e p m) }

mem_at : {A : Type 0} (l : List A) (i : ℕ) (d : A) → i < length l → Memᴰ (get_or l i d) l
mem_at [] i d h = absurd (omega arith)
mem_at (a ∷ l) zero d h = Memᴰ.head refl
mem_at (a ∷ l) (suc i) d h = Memᴰ.tail (mem_at l i d (omega arith))

pub all_drawn : (occ : ℕ → ℕ → Bool) (W H y : ℕ) (l : List Entry) → y < H → W ≤ 64 → H ≤ 64 → l ≡ entries_in occ W H y
    → (i : ℕ) → i < length l → Drawn y (get_or l i no_entry)
all_drawn occ W H y l p q r e i h =
    let g = get_or l i no_entry in
    drawn occ W H y p q r g (subst (λ m. Memᴰ g m) e (mem_at l i no_entry h))
