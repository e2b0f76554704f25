-- The lower right cell of each maximal rectangle is a corner, and its row is scanned. Assumes nothing.
use mathlib.Core.Path.{◌≡◌, ap, ap₂, ◌∙◌, subst, refl}
use mathlib.Core.Bool.{Bool, true, false, not, ◌&&◌}
use mathlib.Core.List.{List}
use Prim.Native.Nat.{ℕ, suc, ◌+◌, ◌-◌, ◌*◌, ◌≤◌, ◌<◌}
use native.Mathlib.Nat.{le_refl}
use native.Mathlib.Omega.{arith}
use lib.Dec.{eqb}
use lib.Signed.{lt_z}
use borrow.Author.Tests.{le-leb, lt-ltb, eq-eqb, not-false}
use Rattle.rules.specs.Tests.{every, count}
use Rattle.rules.specs.Surface.{rect, covers, slots, rect_of, used_slot, holds, occupied, upwards, weight}
use Rattle.rules.specs.Empties.{cells_empty, Maximal, scanned, corner, corners}
use Rattle.rules.specs.declared.Rect.{Rect}
use Rattle.rules.proofs.Tests.{and_both, four_and, not_both, or_left, or_right, fails, every_fails, any_at, any_yes, count_le, count_all, total_le}
use Rattle.meaning.proofs.Splits.{by_test, by_less}
use Rattle.meaning.proofs.Rectangles.{cells_empty_at, not_larger}
use Rattle.meaning.proofs.Bottom.{free_reaches}
use Rattle.meaning.proofs.Weights.{upwards_free, covers_within, Within, holds_covers, holds_used, holds_both, weight_occupied, weight_empty}

-- an occupied cell of a rectangle
pub record Taken (occ : ℕ → ℕ → Bool) (a : Rect) : Type 0 where
  pub x : ℕ
  pub y : ℕ
  pub within : Within a x y
  pub taken : occ x y ≡ true

pub taken_in : (occ : ℕ → ℕ → Bool) (a : Rect) → cells_empty occ a ≡ false → Taken occ a
unfolding cells_empty
taken_in occ a e =
    let j = every_fails a.h (λ j. every a.w (λ i. not (occ (a.x + i) (a.y + j)))) e in
    let i = every_fails a.w (λ i. not (occ (a.x + i) (a.y + j.0))) j.2 in
    record {
      x = a.x + i.0;
      y = a.y + j.0;
      within = record { left = omega arith; right = omega (arith, i.1); top = omega arith; bottom = omega (arith, j.1) };
      taken = not-false _ i.2;
    }

module _ (t : List ℕ) (W H : ℕ) (a : Rect) (m : Maximal (occupied t) W H a) where
  abbrev occ : ℕ → ℕ → Bool
  occ = occupied t

  -- one more row below, one more column to the right
  abbrev below : Rect
  below = rect a.x (a.y + a.h) a.w 1

  abbrev beside : Rect
  beside = rect (a.x + a.w) a.y 1 a.h

  no_lower : a.y + a.h < H → cells_empty occ below ≡ true → ⊥
  no_lower p e =
      not_larger occ W H m (rect a.x a.y a.w (suc a.h))
      (record { left = le_refl _; top = le_refl _; right = le_refl _; bottom = omega arith }) (omega arith) m.is_empty.columns (omega arith)
      (λ x y g h k l. by_less y (a.y + a.h) (m.is_empty.free x y g h k) (λ z. cells_empty_at occ W H below e x y g h z (omega arith)))

  no_wider : a.x + a.w < W → cells_empty occ beside ≡ true → ⊥
  no_wider p e =
      not_larger occ W H m (rect a.x a.y (suc a.w) a.h)
      (record { left = le_refl _; top = le_refl _; right = omega arith; bottom = le_refl _ }) (omega arith) (omega arith) m.is_empty.lines
      (λ x y g h k l. by_less x (a.x + a.w) (λ z. m.is_empty.free x y g z k l) (λ z. cells_empty_at occ W H beside e x y z (omega arith) k l))

  -- under a maximal rectangle the surface ends, or a module begins: a cell is occupied, and the one above it is not
  begins : Taken occ below → (i : ℕ) × (i < slots t) × ((used_slot t i && eqb (rect_of t i).y (a.y + a.h)) ≡ true)
  unfolding occupied
  begins k =
      let w = any_at (slots t) (holds t k.x k.y) k.taken in
      let i = w.0 in
      let r = rect_of t i in
      let row : k.y ≡ a.y + a.h = omega (arith, k.within.top, k.within.bottom) in
      let c = covers_within r k.x k.y (holds_covers t k.x k.y i w.2) in
      let u = holds_used t k.x k.y i w.2 in
      let top : r.y ≡ a.y + a.h =
      by_less r.y (a.y + a.h)
      (λ p.
      let y = a.y + a.h - 1 in
      let v = cover r k.x y c.left c.right (omega arith) (omega (arith, c.bottom, m.is_empty.tall)) in
      let free = m.is_empty.free k.x y k.within.left k.within.right (omega (arith, m.is_empty.tall)) (omega (arith, m.is_empty.tall)) in
      not_both (occ k.x y) (any_yes (slots t) (holds t k.x y) i w.1 (holds_both t k.x y i u v)) free)
      (λ p. omega (arith, c.top)) in
      (i, w.1, and_both u (eq-eqb _ _ top))
    where
      cover : (r : Rect) (x y : ℕ) → r.x ≤ x → x < r.x + r.w → r.y ≤ y → y < r.y + r.h → covers r x y ≡ true
      cover r x y p q u v = unfold covers in four_and (le-leb _ _ p) (lt-ltb _ _ q) (le-leb _ _ u) (lt-ltb _ _ v)

  -- EVERY ENTRY'S BOTTOM ROW IS SCANNED
  pub bottom_scanned : scanned H t (a.y + a.h - 1) ≡ true
  unfolding scanned
  bottom_scanned =
      let q : suc (a.y + a.h - 1) ≡ a.y + a.h = omega (arith, m.is_empty.tall) in
      rw q
      (by_less (a.y + a.h) H
      (λ p. let w = begins (taken_in occ below (fails _ (no_lower p))) in or_right (eqb (a.y + a.h) H) _ (any_yes (slots t) _ w.0 w.1 w.2))
      (λ p. or_left (eqb (a.y + a.h) H) _ (eq-eqb (a.y + a.h) H (omega (arith, m.is_empty.lines)))))

  abbrev right : ℕ
  right = a.x + a.w - 1

  abbrev bottom : ℕ
  bottom = a.y + a.h - 1

  corner_free : occ right bottom ≡ false
  corner_free =
      m.is_empty.free right bottom (omega (arith, m.is_empty.wide)) (omega (arith, m.is_empty.wide)) (omega (arith, m.is_empty.tall)) (omega (arith, m.is_empty.tall))

  tall_enough : a.h ≤ upwards occ right bottom
  tall_enough = free_reaches occ a bottom (omega (arith, m.is_empty.tall)) m.is_empty.free right (omega (arith, m.is_empty.wide)) (omega (arith, m.is_empty.wide))

  -- the cell to the right is occupied, or stands on a shorter run
  smaller : a.x + a.w < W → lt_z (weight t (a.x + a.w) bottom) (weight t right bottom) ≡ true
  smaller p =
      let next = a.x + a.w in
      by_test (occ next bottom) (λ e. ap₂ lt_z (weight_occupied t next bottom e).1 (weight_empty t right bottom corner_free)) (λ e.
      let k = taken_in occ beside (fails _ (no_wider p)) in
      let column : k.x ≡ next = omega (arith, k.within.left, k.within.right) in
      let short : upwards occ next bottom < a.h =
      by_less (upwards occ next bottom) a.h (λ q. q) (λ q.
      not_both (occ k.x k.y) k.taken
      (ap (λ c. occ c k.y) column ∙ upwards_free occ next bottom k.y (omega (arith, k.within.bottom)) (omega (arith, k.within.top, m.is_empty.tall)))) in
      ap₂ lt_z (weight_empty t next bottom e) (weight_empty t right bottom corner_free)
      ∙ lt-ltb (upwards occ next bottom) (upwards occ right bottom) (omega (arith, tall_enough)))

  -- THE LOWER RIGHT CELL OF EACH MAXIMAL RECTANGLE IS A CORNER
  pub lower_right_corner : corner W H t right bottom ≡ true
  unfolding corner
  lower_right_corner =
      let q : suc right ≡ a.x + a.w = omega (arith, m.is_empty.wide) in
      and_both (and_both (ap not corner_free) bottom_scanned)
      (rw q
      (by_less (a.x + a.w) W
      (λ p. or_right (eqb (a.x + a.w) W) _ (smaller p))
      (λ p. or_left (eqb (a.x + a.w) W) _ (eq-eqb (a.x + a.w) W (omega (arith, m.is_empty.columns))))))

-- AT MOST W-as-H CORNERS
pub corners_few : (W H : ℕ) (t : List ℕ) → corners W H t ≤ W * H
unfolding corners
corners_few W H t =
    subst (λ n. corners W H t ≤ W * n) (count_all H (λ y. true) (λ k h. refl))
    (total_le H W (λ y. true) (λ y. count W (λ x. corner W H t x y)) (λ y h. count_le W (λ x. corner W H t x y)))
