-- Empty and maximal rectangles: the tests say what the declarative definitions say, and the list holds exactly the maximal ones. Assumes nothing.
use mathlib.Core.Path.{◌≡◌, refl, ap}
use mathlib.Core.Bool.{Bool, true, false, not, ◌||◌}
use mathlib.Core.Logic.{⊎_elim, ◌↔◌}
use mathlib.Core.List.{Memᴰ}
use Prim.Native.Nat.{ℕ, suc, ◌+◌, ◌-◌, ◌≤◌, ◌<◌}
use native.Mathlib.Omega.{arith}
use lib.Dec.{leb, eqb}
use borrow.Author.Tests.{leb-true, le-leb, eqb-true, eq-eqb, not-true, not-false}
use Rattle.rules.specs.Tests.{every, all}
use Rattle.rules.specs.Empties.{on_surface, cells_empty, empty, Empty, Inside, Maximal, contains, same_rect, spanning, rects, maximal, entries}
use Rattle.rules.specs.declared.Rect.{Rect}
use Rattle.meaning.specs.Change.{On}
use Rattle.meaning.proofs.Splits.{by_test, by_or}
use Rattle.rules.proofs.Tests.{and_left, and_right, and_both, and_four, four_and, and_fails, or_left, or_right, or_neither, not_both, every_at, every_yes, keep_mem, mem_keep, all_at, all_yes, all_fails, chain_mem}

pub rect_eq : (a b : Rect) → a.x ≡ b.x → a.y ≡ b.y → a.w ≡ b.w → a.h ≡ b.h → a ≡ b
rect_eq a b p q r s = λ j. record { x = p j; y = q j; w = r j; h = s j }

-- ---- tests of two rectangles

pub contains_inside : (b a : Rect) → contains b a ≡ true → Inside a b
contains_inside b a e =
    let f = and_four (leb b.x a.x) (leb b.y a.y) (leb (a.x + a.w) (b.x + b.w)) (leb (a.y + a.h) (b.y + b.h)) e in
    record { left = leb-true _ _ f.0; top = leb-true _ _ f.1; right = leb-true _ _ f.2; bottom = leb-true _ _ f.3 }

pub inside_contains : (b a : Rect) → Inside a b → contains b a ≡ true
inside_contains b a i = four_and (le-leb _ _ i.left) (le-leb _ _ i.top) (le-leb _ _ i.right) (le-leb _ _ i.bottom)

pub same_rect_eq : (a b : Rect) → same_rect a b ≡ true → a ≡ b
same_rect_eq a b e =
    let f = and_four (eqb a.x b.x) (eqb a.y b.y) (eqb a.w b.w) (eqb a.h b.h) e in
    rect_eq a b (eqb-true _ _ f.0) (eqb-true _ _ f.1) (eqb-true _ _ f.2) (eqb-true _ _ f.3)

pub eq_same_rect : (a b : Rect) → a ≡ b → same_rect a b ≡ true
eq_same_rect a b e =
    four_and (eq-eqb _ _ (ap (λ (r : Rect). r.x) e)) (eq-eqb _ _ (ap (λ (r : Rect). r.y) e)) (eq-eqb _ _ (ap (λ (r : Rect). r.w) e)) (eq-eqb _ _ (ap (λ (r : Rect). r.h) e))

-- ---- on the surface

module _ (W H : ℕ) (a : Rect) where
  pub on_surface_on : on_surface W H a ≡ true → On W H a
  unfolding on_surface
  on_surface_on e =
      let f = and_four (leb 1 a.w) (leb 1 a.h) (leb (a.x + a.w) W) (leb (a.y + a.h) H) e in
      record { wide = leb-true _ _ f.0; tall = leb-true _ _ f.1; columns = leb-true _ _ f.2; lines = leb-true _ _ f.3 }

  pub on_on_surface : On W H a → on_surface W H a ≡ true
  unfolding on_surface
  on_on_surface o = four_and (le-leb _ _ o.wide) (le-leb _ _ o.tall) (le-leb _ _ o.columns) (le-leb _ _ o.lines)

  -- rects has every rectangle of the surface
  pub rects_mem : On W H a → Memᴰ a (rects W H)
  unfolding rects
  rects_mem o =
      let bottom = a.y + a.h - 1 in
      let right = a.x + a.w - 1 in
      chain_mem _ H bottom (omega (arith, o.tall, o.lines))
      (chain_mem _ W right (omega (arith, o.wide, o.columns))
      (chain_mem _ (suc right) a.x (omega (arith, o.wide))
      (chain_mem _ (suc bottom) a.y (omega (arith, o.tall))
      (Memᴰ.head (rect_eq a (spanning bottom right a.x a.y) refl refl (omega (arith, o.wide)) (omega (arith, o.tall)))))))

-- ---- empty

module _ (occ : ℕ → ℕ → Bool) (W H : ℕ) where
  pub empty_on : {a : Rect} → Empty occ W H a → On W H a
  empty_on e = record { wide = e.wide; tall = e.tall; columns = e.columns; lines = e.lines }

  pub cells_empty_at : (a : Rect) → cells_empty occ a ≡ true → (x y : ℕ) → a.x ≤ x → x < a.x + a.w → a.y ≤ y → y < a.y + a.h → occ x y ≡ false
  unfolding cells_empty
  cells_empty_at a e x y p q r s =
      let i = x - a.x in
      let j = y - a.y in
      let row = every_at a.h (λ j. every a.w (λ i. not (occ (a.x + i) (a.y + j)))) e j (omega arith) in
      let here : occ (a.x + i) (a.y + j) ≡ false = not-true _ (every_at a.w (λ i. not (occ (a.x + i) (a.y + j))) row i (omega arith)) in
      let ex : a.x + i ≡ x = omega arith in
      let ey : a.y + j ≡ y = omega arith in
      rw (ex, ey) at here

  pub cells_empty_yes : (a : Rect) → ((x y : ℕ) → a.x ≤ x → x < a.x + a.w → a.y ≤ y → y < a.y + a.h → occ x y ≡ false) → cells_empty occ a ≡ true
  unfolding cells_empty
  cells_empty_yes a f =
      every_yes a.h _ (λ j p. every_yes a.w _ (λ i q. ap not (f (a.x + i) (a.y + j) (omega arith) (omega arith) (omega arith) (omega arith))))

  -- THE TEST FOR EMPTY SAYS THAT EVERY CELL IS EMPTY
  pub empty_is : (a : Rect) → (empty occ W H a ≡ true) ↔ Empty occ W H a
  unfolding empty
  empty_is a = (
    (λ e.
        let o = on_surface_on W H a (and_left (on_surface W H a) (cells_empty occ a) e) in
        record { wide = o.wide; tall = o.tall; columns = o.columns; lines = o.lines; free = cells_empty_at a (and_right (on_surface W H a) (cells_empty occ a) e) }),
    (λ e. and_both (on_on_surface W H a (empty_on e)) (cells_empty_yes a e.free)),
  )

  -- a part of an empty rectangle is empty
  pub part_empty : {a b : Rect} → Empty occ W H b → Inside a b → 1 ≤ a.w → 1 ≤ a.h → Empty occ W H a
  part_empty {a} {b} e i p q = record {
    wide = p;
    tall = q;
    columns = omega (arith, e.columns, i.right);
    lines = omega (arith, e.lines, i.bottom);
    free = λ x y f g h k. e.free x y (omega (arith, i.left)) (omega (arith, i.right)) (omega (arith, i.top)) (omega (arith, i.bottom));
  }

  -- ---- maximal

  -- a maximal rectangle lies in no other that is empty
  pub not_larger : {A : Type 0} {a : Rect} → Maximal occ W H a → (b : Rect) → Inside a b → a.w + a.h < b.w + b.h → b.x + b.w ≤ W → b.y + b.h ≤ H →
      ((x y : ℕ) → b.x ≤ x → x < b.x + b.w → b.y ≤ y → y < b.y + b.h → occ x y ≡ false) → A
  not_larger {A} {a} m b i l c h f =
      let e = m.most b (record { wide = omega (arith, m.is_empty.wide, i); tall = omega (arith, m.is_empty.tall, i); columns = c; lines = h; free = f }) i in
      absurd (omega (arith, ap (λ (r : Rect). r.w + r.h) e))

  -- another empty rectangle that contains a
  pub record Larger (a : Rect) : Type 0 where
    pub by : Rect
    pub is_empty : Empty occ W H by
    pub inside : Inside a by
    pub other : (by ≡ a → ⊥)

  abbrev unbeaten : Rect → Rect → Bool
  unbeaten a b = not (contains b a) || same_rect b a || not (empty occ W H b)

  -- an empty rectangle that is not maximal has a larger one
  pub larger : (a : Rect) → empty occ W H a ≡ true → maximal occ W H a ≡ false → Larger a
  unfolding maximal
  larger a e n =
      let no_all : all (unbeaten a) (rects W H) ≡ false = ⊎_elim (λ (q : empty occ W H a ≡ false). not_both _ e q) (λ q. q) (and_fails (empty occ W H a) _ n) in
      let w = all_fails (unbeaten a) (rects W H) no_all in
      let b = w.0 in
      let u = or_neither (not (contains b a) || same_rect b a) (not (empty occ W H b)) w.2 in
      let v = or_neither (not (contains b a)) (same_rect b a) u.0 in
      record {
        by = b;
        is_empty = (empty_is b).0 (not-false _ u.1);
        inside = contains_inside b a (not-false _ v.0);
        other = λ q. not_both (same_rect b a) (eq_same_rect b a q) v.1;
      }

  -- THE TEST FOR MAXIMAL IS HANDA AND VEMURI'S DEFINITION, OVER ALL RECTANGLES
  pub maximal_is : (a : Rect) → (maximal occ W H a ≡ true) ↔ Maximal occ W H a
  unfolding maximal
  maximal_is a = (
    (λ e. record {
      is_empty = (empty_is a).0 (and_left (empty occ W H a) _ e);
      most = λ b f i.
          let t = all_at (unbeaten a) (rects W H) (and_right (empty occ W H a) _ e) (rects_mem W H b (empty_on f)) in
          by_or (not (contains b a) || same_rect b a) (not (empty occ W H b)) t
          (λ q. by_or (not (contains b a)) (same_rect b a) q (λ z. not_both (contains b a) (inside_contains b a i) (not-true _ z)) (same_rect_eq b a))
          (λ q. not_both (empty occ W H b) ((empty_is b).1 f) (not-true _ q));
    }),
    (λ m. and_both ((empty_is a).1 m.is_empty) (all_yes (unbeaten a) (rects W H) (λ b n.
        by_test (contains b a)
        (λ c.
        by_test (empty occ W H b)
        (λ f. or_left _ _ (or_right (not (contains b a)) (same_rect b a) (eq_same_rect b a (m.most b ((empty_is b).0 f) (contains_inside b a c)))))
        (λ f. or_right (not (contains b a) || same_rect b a) _ (ap not f)))
        (λ c. or_left _ _ (or_left _ _ (ap not c)))))),
  )

  -- THE LIST HOLDS EXACTLY THE MAXIMAL EMPTY RECTANGLES
  pub entries_are : (a : Rect) → Memᴰ a (entries occ W H) ↔ Maximal occ W H a
  unfolding entries
  entries_are a = (
    (λ m. (maximal_is a).0 (mem_keep (maximal occ W H) (rects W H) m).1),
    (λ m. keep_mem (maximal occ W H) (rects W H) (rects_mem W H a (empty_on m.is_empty)) ((maximal_is a).1 m)),
  )
