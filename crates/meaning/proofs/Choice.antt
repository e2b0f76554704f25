-- A rule finds a place exactly when some position has all its cells empty, and what it finds is empty. Assumes nothing.
use mathlib.Core.Path.{◌≡◌, refl, sym, ap, ap₂, ◌∙◌, subst}
use mathlib.Core.Bool.{Bool, true}
use mathlib.Core.Logic.{◌↔◌}
use mathlib.Core.List.Memᴰ
use mathlib.Core.List.{List, [], ◌∷◌, ◌++◌, Memᴰ, head-eq_of_cons-eq, tail-eq_of_cons-eq}
use mathlib.Core.Option.{Option, none, some}
use Prim.Native.Nat.{ℕ, zero, suc, ◌+◌, ◌≤◌, ◌<◌}
use native.Mathlib.Nat.{le_refl}
use native.Mathlib.Omega.{arith}
use lib.Dec.{leb, ltb}
use borrow.Author.Tests.{leb-true, le-leb, ltb-true, ltb-false}
use Rattle.rules.specs.Tests.{any, keep}
use Rattle.rules.specs.Surface.{rect}
use Rattle.rules.specs.Empties.{empty, Inside, Empty, Maximal, maximal, entries}
use Rattle.rules.specs.Requests.{position, fits, cost, cheapest, chosen_of, chosen, lower_left, standing, rule_place}
use Rattle.rules.specs.declared.Rect.{Rect}
use Rattle.rules.proofs.Tests.{and_left, and_right, and_both, any_at, any_yes, keep_mem, mem_keep}
use Rattle.meaning.proofs.Splits.{split, by_test, by_less, by_cons}
use Rattle.meaning.specs.Rule.{FirstLeast, ByRule}
use Rattle.meaning.proofs.Rectangles.{rect_eq, empty_is, part_empty, maximal_is, larger, Larger, entries_are}

module _ (occ : ℕ → ℕ → Bool) (W H : ℕ) where
  -- ---- every empty rectangle lies in a maximal one

  pub record Grown (a : Rect) : Type 0 where
    pub to : Rect
    pub is_maximal : Maximal occ W H to
    pub inside : Inside a to

  -- what contains another and is not it has more columns and rows
  pub more : (a : Rect) (l : Larger occ W H a) → a.w + a.h < l.by.w + l.by.h
  more a l =
      let i = l.inside in
      by_less (a.w + a.h) (l.by.w + l.by.h) (λ p. p)
      (λ p. absurd (l.other (rect_eq l.by a (omega (arith, i)) (omega (arith, i)) (omega (arith, i)) (omega (arith, i)))))

  within : {a b c : Rect} → Inside a b → Inside b c → Inside a c
  within i j = record { left = omega (arith, i, j); top = omega (arith, i, j); right = omega (arith, i, j); bottom = omega (arith, i, j) }

  -- it is maximal, or a larger one is to be looked at
  grow_by : (a : Rect) → Empty occ W H a → (Larger occ W H a → Grown a) → Grown a
  grow_by a e f =
      by_test (maximal occ W H a)
      (λ p. record { to = a; is_maximal = (maximal_is occ W H a).0 p; inside = record { left = le_refl _; top = le_refl _; right = le_refl _; bottom = le_refl _ } })
      (λ p. f (larger occ W H a ((empty_is occ W H a).1 e) p))

  grow : (n : ℕ) (a : Rect) → Empty occ W H a → W + H ≤ n + (a.w + a.h) → Grown a
  grow zero a e h = grow_by a e (λ l. absurd (omega (arith, more a l, l.is_empty.columns, l.is_empty.lines)))
  grow (suc n) a e h =
      grow_by a e (λ l. let g = grow n l.by l.is_empty (omega (arith, more a l)) in record { to = g.to; is_maximal = g.is_maximal; inside = within l.inside g.inside })

  -- EVERY EMPTY RECTANGLE LIES IN A MAXIMAL ONE
  pub grown : (a : Rect) → Empty occ W H a → Grown a
  grown a e = grow (W + H) a e (omega arith)

-- ---- the choice: the first of those that cost least

module _ (f : Rect → ℕ) where
  pub cheapest_le : (e : Rect) (l : List Rect) → f (cheapest f e l) ≤ f e
  unfolding cheapest
  cheapest_le e [] = le_refl _
  cheapest_le e (d ∷ l) = split (λ c. f (cheapest f c l) ≤ f e) (ltb (f d) (f e)) (λ q. omega (arith, ltb-true (f d) (f e) q, cheapest_le d l)) (λ q. cheapest_le e l)

  -- THE RULE TAKES THE FIRST OF THOSE THAT COST LEAST
  pub cheapest_is : (e : Rect) (l : List Rect) → FirstLeast f (e ∷ l) (cheapest f e l)
  unfolding cheapest
  cheapest_is e [] = record { before = []; after = []; is = refl; dearer = λ d m. absurd (Memᴰ.not-nil m); least = λ d m. absurd (Memᴰ.not-nil m) }
  cheapest_is e (d ∷ l) =
      split (λ c. FirstLeast f (e ∷ d ∷ l) (cheapest f c l)) (ltb (f d) (f e))
      (λ q.
      let z = ltb-true (f d) (f e) q in
      let p = cheapest_is d l in
      record {
        before = e ∷ p.before;
        after = p.after;
        is = ap (λ u. e ∷ u) p.is;
        dearer = λ k m. by_cons m (λ y. let u = ap f y in omega (arith, cheapest_le d l)) (p.dearer k);
        least = p.least;
      })
      (λ q. let r = cheapest_is e l in stays (ltb-false (f d) (f e) q) (cheapest f e l) r.before r.after r.is r.dearer r.least)
    where
      -- e stays the first of those that cost least, or some later one costs less than it
      stays : f e ≤ f d → (c : Rect) (b a : List Rect) → (e ∷ l) ≡ (b ++ (c ∷ a)) → ((k : Rect) → Memᴰ k b → f c < f k) → ((k : Rect) → Memᴰ k a → f c ≤ f k) → FirstLeast f (e ∷ d ∷ l) c
      stays q c [] a s p r =
          let h : e ≡ c = head-eq_of_cons-eq s in
          let t : l ≡ a = tail-eq_of_cons-eq s in
          record {
            before = [];
            after = d ∷ a;
            is = ap₂ (λ u v. u ∷ d ∷ v) h t;
            dearer = λ k m. absurd (Memᴰ.not-nil m);
            least = λ k m. by_cons m (λ z. omega (arith, ap f z, ap f h)) (r k);
          }
      stays q c (x ∷ b) a s p r =
          let h : e ≡ x = head-eq_of_cons-eq s in
          let t : l ≡ b ++ (c ∷ a) = tail-eq_of_cons-eq s in
          let u = p x (Memᴰ.head refl) in
          let v = ap f h in
          record {
            before = x ∷ d ∷ b;
            after = a;
            is = ap₂ (λ y z. y ∷ d ∷ z) h t;
            dearer = λ k m. by_cons m (λ z. p k (Memᴰ.head z)) (λ n. by_cons n (λ z. let w = ap f z in omega arith) (λ o. p k (Memᴰ.tail o)));
            least = r;
          }

  pub cheapest_mem : (e : Rect) (l : List Rect) → Memᴰ (cheapest f e l) (e ∷ l)
  unfolding cheapest
  cheapest_mem e [] = Memᴰ.head refl
  cheapest_mem e (d ∷ l) =
      split (λ c. Memᴰ (cheapest f c l) (e ∷ d ∷ l)) (ltb (f d) (f e))
      (λ q. Memᴰ.tail (cheapest_mem d l))
      (λ q. by_cons (cheapest_mem e l) (λ z. Memᴰ.head z) (λ n. Memᴰ.tail (Memᴰ.tail n)))

  -- something is chosen from every list that has an item, and it is an item
  pub chosen_of_some : (l : List Rect) {a : Rect} → Memᴰ a l → (c : Rect) × (chosen_of f l ≡ some c)
  chosen_of_some [] m = absurd (Memᴰ.not-nil m)
  chosen_of_some (e ∷ l) m = (cheapest f e l, refl)

  pub chosen_of_mem : (l : List Rect) (c : Rect) → chosen_of f l ≡ some c → Memᴰ c l × FirstLeast f l c
  chosen_of_mem [] c e = absurd (let z : ◌≡◌ {A = ℕ} 0 1 = cc in omega arith)
  chosen_of_mem (d ∷ l) c e =
      let q : cheapest f d l ≡ c = cc in
      (Memᴰ.cast (sym q) (cheapest_mem d l), subst (FirstLeast f (d ∷ l)) q (cheapest_is d l))

-- ---- the place that a rule chose

module _ (occ : ℕ → ℕ → Bool) (W H : ℕ) (rule w h : ℕ) where
  -- A PLACE BY RULE IS THE LOWER LEFT CORNER OF THE FIRST ENTRY WITH ROOM THAT COSTS LEAST
  pub rule_place_is : (r : Rect) → rule_place occ W H rule w h ≡ some r → ByRule occ W H rule w h r
  unfolding rule_place chosen
  rule_place_is r e = go (chosen_of (cost W H w h rule) (keep (fits w h) (entries occ W H))) refl e
    where
      go : (o : Option Rect) → chosen_of (cost W H w h rule) (keep (fits w h) (entries occ W H)) ≡ o → standing w h o ≡ some r → ByRule occ W H rule w h r
      go none p q = absurd (let z : ◌≡◌ {A = ℕ} 0 1 = cc in omega arith)
      go (some c) p q =
          let m = chosen_of_mem (cost W H w h rule) (keep (fits w h) (entries occ W H)) c p in
          let k = mem_keep (fits w h) (entries occ W H) m.0 in
          let s : lower_left w h c ≡ r = cc in
          record {
            entry = c;
            is_maximal = (entries_are occ W H c).0 k.0;
            wide = leb-true w c.w (and_left (leb w c.w) (leb h c.h) k.1);
            high = leb-true h c.h (and_right (leb w c.w) (leb h c.h) k.1);
            best = m.1;
            is = sym s;
          }

  module _ (w1 : 1 ≤ w) (h1 : 1 ≤ h) where
    -- WHAT A RULE FINDS IS EMPTY
    pub rule_place_empty : (r : Rect) → rule_place occ W H rule w h ≡ some r → Empty occ W H r
    rule_place_empty r e =
        let b = rule_place_is r e in
        let i : Inside (lower_left w h b.entry) b.entry = record {
          left = le_refl _;
          top = omega (arith, b.high);
          right = omega (arith, b.wide);
          bottom = omega (arith, b.high);
        } in
        subst (Empty occ W H) (sym b.is) (part_empty occ W H b.is_maximal.is_empty i w1 h1)

    -- A RULE FINDS A PLACE EXACTLY WHEN SOME POSITION HAS ALL ITS CELLS EMPTY
    pub rule_finds : ((r : Rect) × (rule_place occ W H rule w h ≡ some r)) ↔ (position occ W H w h ≡ true)
    unfolding position rule_place chosen
    rule_finds = (
      (λ p.
          let r = p.0 in
          let e = rule_place_empty r p.1 in
          let b = rule_place_is r p.1 in
          let ew : r.w ≡ w = ap (λ (a : Rect). a.w) b.is in
          let eh : r.h ≡ h = ap (λ (a : Rect). a.h) b.is in
          let s : r ≡ rect r.x r.y w h = rect_eq r (rect r.x r.y w h) refl refl ew eh in
          any_yes H _ r.y (omega (arith, e.lines, e.tall))
          (any_yes W _ r.x (omega (arith, e.columns, e.wide)) (ap (empty occ W H) (sym s) ∙ (empty_is occ W H r).1 e))),
      (λ p.
          let y = any_at H (λ y. any W (λ x. empty occ W H (rect x y w h))) p in
          let x = any_at W (λ x. empty occ W H (rect x y.0 w h)) y.2 in
          let g = grown occ W H (rect x.0 y.0 w h) ((empty_is occ W H _).0 x.2) in
          let b = g.to in
          let fitting : fits w h b ≡ true = and_both (le-leb w b.w (omega (arith, g.inside.left, g.inside.right))) (le-leb h b.h (omega (arith, g.inside.top, g.inside.bottom))) in
          let c = chosen_of_some (cost W H w h rule) _ (keep_mem (fits w h) (entries occ W H) ((entries_are occ W H b).1 g.is_maximal) fitting) in
          (lower_left w h c.0, ap (standing w h) c.1)),
    )
