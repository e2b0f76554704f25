-- A rectangle is a maximal empty one exactly if it is an entry of its bottom row. Assumes nothing.
use mathlib.Core.Path.{◌≡◌, sym, ap, ◌∙◌}
use mathlib.Core.Logic.{◌⊎◌, inl, inr, ⊎_elim}
use mathlib.Core.Bool.{Bool, true, false, cond, false≢true}
use Prim.Native.Nat.{ℕ, suc, ◌+◌, ◌-◌, ◌≤◌, ◌<◌}
use native.Mathlib.Nat.{le_refl, eq-or-lt_of_le}
use native.Mathlib.Omega.{arith}
use lib.Dec.{ltb}
use borrow.Author.Tests.{lt-ltb, le-ltb}
use Rattle.rules.specs.Surface.{upwards}
use Rattle.rules.specs.Empties.{Empty, Inside, Maximal}
use Rattle.rules.specs.declared.Rect.{Rect}
use Rattle.rules.proofs.Tests.{lt_or_le, decide, fails, and_right}
use Rattle.meaning.proofs.Rectangles.{rect_eq}
use Rattle.listing.specs.declared.entry.Entry.{Entry}
use Rattle.listing.specs.Row.{least, some}
use Rattle.listing.specs.Meaning.{Cell, IsEntry}
use Rattle.listing.proofs.Meaning.{least_le, least_met, some_held, held_some}
use Rattle.listing.specs.Listed.{height_of, support, entry_of, entry_rect}
use Rattle.listing.proofs.Cells.{height_in, held_by}
use Rattle.meaning.proofs.Weights.{upwards_le, upwards_ge}
use Rattle.meaning.proofs.Bottom.{free_reaches, on_reaches}

module _ (occ : ℕ → ℕ → Bool) (W H : ℕ) where
  -- d is the bottom row
  runs : (a : Rect) (d : ℕ) → a.y + a.h ≡ suc d → Empty occ W H a → (c : ℕ) → a.x ≤ c → c < a.x + a.w → a.h ≤ upwards occ c d
  runs a d q m = free_reaches occ a d q m.free

  built : (a : Rect) (d : ℕ) → a.y + a.h ≡ suc d → d < H → 1 ≤ a.w → 1 ≤ a.h → a.x + a.w ≤ W
      → ((c : ℕ) → a.x ≤ c → c < a.x + a.w → a.h ≤ upwards occ c d) → Empty occ W H a
  built a d q l i j k f = on_reaches occ a d q W H (record { wide = i; tall = j; columns = k; lines = omega arith }) f

  -- an empty cell of the row has a height; its support, and what support tells
  support_of : (d c : ℕ) → c < W → occ c d ≡ false → support occ W H d c ≡ cond (ltb (suc d) H) (occ c (suc d)) true
  support_of d c l e =
      held_by occ W d c H
      (λ z. omega (arith, height_in occ W d c l, upwards_ge occ c d 1 (omega arith) (λ r u v. let y : r ≡ d = omega arith in ap (occ c) y ∙ e)))

  support_below : (d c : ℕ) → suc d < H → support occ W H d c ≡ true → occ c (suc d) ≡ true
  unfolding support
  support_below d c p e = and_right (ltb 0 (height_of occ W d c)) (occ c (suc d)) (rw (lt-ltb (suc d) H p) at e)

  -- an empty cell under a column of empty cells
  one_lower : (c : ℕ) {d h : ℕ} → occ c (suc d) ≡ false → h ≤ upwards occ c d → suc h ≤ upwards occ c (suc d)
  unfolding upwards
  one_lower c e p = rw e (omega arith)

  -- ---- a maximal rectangle is an entry
  module _ (a : Rect) (d : ℕ) (q : a.y + a.h ≡ suc d) (m : Maximal occ W H a) where
    abbrev f : ℕ → ℕ
    f = height_of occ W d

    abbrev right : ℕ
    right = a.x + a.w - 1

    d_in : d < H
    d_in = omega (arith, m.is_empty.lines)

    high : (c : ℕ) → a.x ≤ c → c < a.x + a.w → a.h ≤ f c
    high c p r = rw (height_in occ W d c (omega (arith, m.is_empty.columns))) (runs a d q m.is_empty c p r)

    -- the columns of a larger rectangle around it, with its bottom row at d', are not all as high
    no_larger : (b : Rect) (d' : ℕ) → b.y + b.h ≡ suc d' → (d' < H) × (b.x + b.w ≤ W) × (a.w + a.h < b.w + b.h)
        → (b.x ≤ a.x) × (b.y ≤ a.y) × (a.x + a.w ≤ b.x + b.w) × (a.y + a.h ≤ b.y + b.h)
        → ((c : ℕ) → b.x ≤ c → c < b.x + b.w → b.h ≤ upwards occ c d') → ⊥
    no_larger b d' z l i f =
        let e = built b d' z l.0 (omega (arith, m.is_empty.wide)) (omega (arith, m.is_empty.tall)) l.1 f in
        let s : b ≡ a = m.most b e (record { left = i.0; top = i.1; right = i.2; bottom = i.3 }) in
        omega (arith, ap (λ (r : Rect). r.w + r.h) s)

    no_higher : ((c : ℕ) → a.x ≤ c → c < a.x + a.w → suc a.h ≤ f c) → ⊥
    no_higher g =
        let g₀ : suc a.h ≤ upwards occ a.x d = rw (height_in occ W d a.x (omega (arith, m.is_empty.columns, m.is_empty.wide))) at (g a.x (le_refl _) (omega (arith, m.is_empty.wide))) in
        let t : suc a.h ≤ suc d = omega (arith, upwards_le occ a.x d) in
        no_larger (record { x = a.x; y = a.y - 1; w = a.w; h = suc a.h }) d (omega arith) (omega (arith, d_in, m.is_empty.columns)) (omega arith)
        (λ c p r. rw (height_in occ W d c (omega (arith, m.is_empty.columns))) at (g c p r))

    no_wider_left : (l : ℕ) → a.x ≡ suc l → a.h ≤ f l → ⊥
    no_wider_left l e g =
        no_larger (record { x = l; y = a.y; w = suc a.w; h = a.h }) d q (omega (arith, d_in, m.is_empty.columns)) (omega arith)
        (λ c p r.
        ⊎_elim
        (λ (z : l ≡ c). rw (← z, ← height_in occ W d l (omega (arith, m.is_empty.columns))) g)
        (λ (z : l < c). runs a d q m.is_empty c (omega arith) (omega arith))
        (eq-or-lt_of_le p))

    no_wider_right : a.x + a.w < W → a.h ≤ f (a.x + a.w) → ⊥
    no_wider_right l g =
        no_larger (record { x = a.x; y = a.y; w = suc a.w; h = a.h }) d q (omega (arith, d_in)) (omega arith)
        (λ c p r.
        ⊎_elim
        (λ (z : c < a.x + a.w). runs a d q m.is_empty c p z)
        (λ (z : a.x + a.w ≤ c). let e : c ≡ a.x + a.w = omega arith in rw (e, ← height_in occ W d (a.x + a.w) l) g)
        (lt_or_le c (a.x + a.w)))

    -- its bottom row is empty
    bare : (c : ℕ) → a.x ≤ c → c < a.x + a.w → occ c d ≡ false
    bare c i j = m.is_empty.free c d i j (omega (arith, m.is_empty.tall)) (omega arith)

    no_lower : ((c : ℕ) → a.x ≤ c → c < a.x + a.w → support occ W H d c ≡ false) → ⊥
    no_lower g =
        ⊎_elim
        (λ (p : suc d < H).
        no_larger (record { x = a.x; y = a.y; w = a.w; h = suc a.h }) (suc d) (omega arith) (omega (arith, m.is_empty.columns)) (omega arith)
        (λ c i j. one_lower c (rw (lt-ltb (suc d) H p) at (sym (support_of d c (omega (arith, m.is_empty.columns)) (bare c i j)) ∙ g c i j)) (runs a d q m.is_empty c i j)))
        (λ (p : H ≤ suc d).
        let l : a.x < a.x + a.w = omega (arith, m.is_empty.wide) in
        false≢true (sym (g a.x (le_refl _) l) ∙ support_of d a.x (omega (arith, m.is_empty.columns)) (bare a.x (le_refl _) l) ∙ rw (le-ltb (suc d) H p)))
        (lt_or_le (suc d) H)

    -- left cell and right cell, and how far apart
    apart : ℕ
    apart = a.w - 1

    spans : a.x + apart ≡ right
    unfolding apart
    spans = omega (arith, m.is_empty.wide)

    height_met : least f a.x apart ≡ a.h
    unfolding apart
    height_met =
        let c = least_met f a.x apart in
        let g : a.h ≤ least f a.x apart = omega (arith, c.has, high c.cell c.from (omega (arith, c.upto, m.is_empty.wide))) in
        ⊎_elim
        (λ (p : a.h < least f a.x apart). absurd (no_higher (λ e i j. omega (arith, least_le f a.x apart e i (omega arith)))))
        (λ (p : least f a.x apart ≤ a.h). omega arith)
        (lt_or_le a.h (least f a.x apart))

    held_below : Cell a.x (a.x + apart) (λ c. support occ W H d c ≡ true)
    unfolding apart
    held_below =
        ⊎_elim
        (λ e. some_held (support occ W H d) a.x apart e)
        (λ e. absurd (no_lower (λ c i j. fails (support occ W H d c) (λ s. false≢true (sym e ∙ held_some (support occ W H d) a.x apart c i (omega arith) s)))))
        (decide (some (support occ W H d) a.x apart))

    ends_left : (a.x ≡ 0) ⊎ (f (a.x - 1) < a.h)
    ends_left =
        ⊎_elim
        (λ (p : 0 < a.x). ⊎_elim inr (λ (g : a.h ≤ f (a.x - 1)). absurd (no_wider_left (a.x - 1) (omega arith) g)) (lt_or_le (f (a.x - 1)) a.h))
        (λ (p : a.x ≤ 0). inl (omega arith))
        (lt_or_le 0 a.x)

    ends_right : (right + 1 ≡ W) ⊎ (f (right + 1) < a.h)
    ends_right =
        let z : right + 1 ≡ a.x + a.w = omega (arith, m.is_empty.wide) in
        rw z
        (⊎_elim
        (λ (p : a.x + a.w < W).
        ⊎_elim (λ (g : f (a.x + a.w) < a.h). inr g) (λ (g : a.h ≤ f (a.x + a.w)). absurd (no_wider_right p g)) (lt_or_le (f (a.x + a.w)) a.h))
        (λ (p : W ≤ a.x + a.w). inl (omega (arith, m.is_empty.columns)))
        (lt_or_le (a.x + a.w) W))

    -- A MAXIMAL RECTANGLE IS AN ENTRY OF ITS BOTTOM ROW
    pub maximal_entry : IsEntry (height_of occ W d) (support occ W H d) W (entry_of a)
    maximal_entry = record {
      order = omega (arith, m.is_empty.wide);
      inside = omega (arith, m.is_empty.wide, m.is_empty.columns);
      positive = m.is_empty.tall;
      height = record {
        below = λ c p r. high c p (omega (arith, m.is_empty.wide));
        met = rw height_met at (rw spans at (least_met f a.x apart));
      };
      left_end = ends_left;
      right_end = ends_right;
      held = rw spans at held_below;
    }

  -- ---- an entry is a maximal rectangle
  module _ (d : ℕ) (e : Entry) (d-on : d < H) (i : IsEntry (height_of occ W d) (support occ W H d) W e) where
    tall_enough : (c : ℕ) → e.left ≤ c → c < e.left + (suc e.right - e.left) → e.height ≤ upwards occ c d
    tall_enough c p r = rw (height_in occ W d c (omega (arith, i.inside, i.order))) at (i.height.below c p (omega (arith, i.order)))

    pub from_top : suc d - e.height + e.height ≡ suc d
    from_top = omega (arith, tall_enough e.left (le_refl _) (omega (arith, i.order)), upwards_le occ e.left d)

    -- b is empty and contains the entry's rectangle; its bottom row is d'
    module _ (b : Rect) (m : Empty occ W H b) (n : Inside (entry_rect d e) b) (d' : ℕ) (q : b.y + b.h ≡ suc d') where
      same_bottom : d' ≡ d
      same_bottom =
          ⊎_elim
          (λ (p : d < d').
          let c = i.held in
          let o : occ c.cell (suc d) ≡ true = support_below d c.cell (omega (arith, m.lines)) c.has in
          absurd (false≢true (sym (m.free c.cell (suc d) (omega (arith, c.from, n.left)) (omega (arith, c.upto, n.right, i.order)) (omega (arith, n.top)) (omega arith)) ∙ o)))
          (λ (p : d' ≤ d). omega (arith, n.bottom, from_top))
          (lt_or_le d d')

      bottom : b.y + b.h ≡ suc d
      bottom = q ∙ ap suc same_bottom

      -- its columns are as high as it is
      column : (c : ℕ) → b.x ≤ c → c < b.x + b.w → b.h ≤ height_of occ W d c
      column c p r = rw (height_in occ W d c (omega (arith, m.columns))) (runs b d bottom m c p r)

      same_height : b.h ≡ e.height
      same_height =
          let c = i.height.met in
          omega (
            arith,
            n.top,
            bottom,
            from_top,
            c.has,
            column c.cell (omega (arith, c.from, n.left)) (omega (arith, c.upto, n.right, i.order)),
          )

      same_left : b.x ≡ e.left
      same_left =
          ⊎_elim
          (λ (p : b.x < e.left).
          let g = column (e.left - 1) (omega arith) (omega (arith, n.right, i.order)) in
          absurd (⊎_elim (λ (z : e.left ≡ 0). omega arith) (λ (z : height_of occ W d (e.left - 1) < e.height). omega (arith, same_height, g)) i.left_end))
          (λ (p : e.left ≤ b.x). omega (arith, n.left))
          (lt_or_le b.x e.left)

      same_right : b.x + b.w ≡ suc e.right
      same_right =
          ⊎_elim
          (λ (p : suc e.right < b.x + b.w).
          let g = column (e.right + 1) (omega (arith, n.left, i.order)) (omega arith) in
          absurd (⊎_elim (λ (z : e.right + 1 ≡ W). omega (arith, m.columns)) (λ (z : height_of occ W d (e.right + 1) < e.height). omega (arith, same_height, g)) i.right_end))
          (λ (p : b.x + b.w ≤ suc e.right). omega (arith, n.right, i.order))
          (lt_or_le (suc e.right) (b.x + b.w))

      same : b ≡ entry_rect d e
      same = rect_eq b (entry_rect d e) same_left (omega (arith, same_bottom, same_height, from_top)) (omega (arith, same_left, same_right)) same_height

    -- AN ENTRY OF A ROW IS A MAXIMAL RECTANGLE
    pub entry_maximal : Maximal occ W H (entry_rect d e)
    entry_maximal = record {
      is_empty = built (entry_rect d e) d from_top d-on (omega (arith, i.order)) i.positive (omega (arith, i.order, i.inside)) tall_enough;
      most = λ b m n. same b m n (b.y + b.h - 1) (omega (arith, m.tall));
    }
