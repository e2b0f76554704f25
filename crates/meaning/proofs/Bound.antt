-- At most W entries with one bottom row: each has a column that is blocked right above its top row, and no two share that column and their bottom row. So at most W
-- for each row that is some entry's bottom row, and W-as-H in all. Assumes nothing.
use mathlib.Core.Path.{◌≡◌, refl, sym, ap, ◌∙◌, subst}
use mathlib.Core.Bool.{Bool, true, false, not, cond, ◌||◌}
use mathlib.Core.List.{List, [], ◌∷◌, Memᴰ}
use Prim.Native.Nat.{ℕ, zero, suc, ◌+◌, ◌-◌, ◌*◌, ◌≤◌, ◌<◌, min, max}
use native.Mathlib.Nat.{le_refl}
use native.Mathlib.Omega.{arith}
use lib.Dec.{eqb}
use lib.ListN.{length}
use borrow.Author.Tests.{eqb-true, eqb-false, not-true}
use Rattle.rules.specs.Tests.{total, count, least_from, keep}
use Rattle.rules.specs.Surface.{rect}
use Rattle.rules.specs.Empties.{Empty, Maximal, entries, Earlier, Ordered}
use Rattle.rules.specs.declared.Rect.{Rect}
use Rattle.rules.proofs.Tests.{or_neither, not_both, fails, least_from_is, count_all, total_le, mem_keep}
use Rattle.meaning.proofs.Splits.{by_test, by_or, by_less}
use Rattle.meaning.proofs.Rectangles.{not_larger, entries_are}
use Rattle.meaning.proofs.Order.{ordered_keep, ordered_by, entries_ordered, earlier_other}

-- ---- the items of a list, by a key below n

-- what is kept and what is not are all
keep_both : {A : Type 0} (p : A → Bool) (l : List A) → length l ≡ length (keep p l) + length (keep (λ a. not (p a)) l)
unfolding keep
keep_both p [] = refl
keep_both p (x ∷ l) = by_test (p x) (λ e. rw e (omega (arith, keep_both p l))) (λ e. rw e (omega (arith, keep_both p l)))

-- of fewer, no more are kept
keep_few : {A : Type 0} (p q : A → Bool) (l : List A) → length (keep p (keep q l)) ≤ length (keep p l)
unfolding keep
keep_few p q [] = le_refl 0
keep_few p q (x ∷ l) =
    let k = keep_few p q l in
    by_test (q x)
    (λ e. rw e (by_test (p x) (λ f. rw f (omega (arith, k))) (λ f. rw f k)))
    (λ e. rw e (by_test (p x) (λ f. rw f (omega (arith, k))) (λ f. rw f k)))

-- none is kept where the test holds for none
none_kept : {A : Type 0} (p : A → Bool) (l : List A) → ((a : A) → Memᴰ a l → p a ≡ true → ⊥) → length (keep p l) ≤ 0
unfolding keep
none_kept p [] f = le_refl 0
none_kept p (x ∷ l) f = rw (fails (p x) (f x (Memᴰ.head refl))) (none_kept p l (λ a m. f a (Memᴰ.tail m)))

module _ {A : Type 0} (key : A → ℕ) where
  abbrev at : ℕ → A → Bool
  at n a = eqb (key a) n

  -- at most f k items with each key k: at most the sum of f in all
  by_keys : (n : ℕ) (f : ℕ → ℕ) (l : List A) → ((a : A) → Memᴰ a l → key a < n) → ((k : ℕ) → k < n → length (keep (at k) l) ≤ f k) → length l ≤ total n f
  unfolding total
  by_keys zero f [] h g = omega arith
  by_keys zero f (x ∷ l) h g = absurd (let z = h x (Memᴰ.head refl) in omega arith)
  by_keys (suc n) f l h g =
      let others : A → Bool = λ a. not (at n a) in
      let r : length (keep others l) ≤ total n f =
      by_keys n f (keep others l)
      (λ a m.
      let k = mem_keep others l m in
      let z = h a k.0 in
      let d = eqb-false (key a) n (not-true _ k.1) in
      omega arith)
      (λ k z. let q = keep_few (at k) others l in omega (arith, g k (omega arith))) in
      omega (arith, keep_both (at n) l, g n (omega arith))

  abbrev Apart : A → A → Type 0
  Apart a b = key a ≡ key b → ⊥

  -- different keys: one item with each
  one_each : (k : ℕ) (l : List A) → ((a : A) → Memᴰ a l → key a ≡ k) → Ordered Apart l → length l ≤ 1
  unfolding Ordered
  one_each k [] f o = omega arith
  one_each k (x ∷ []) f o = omega arith
  one_each k (x ∷ y ∷ l) f o = absurd (o.0 y (Memᴰ.head refl) (f x (Memᴰ.head refl) ∙ sym (f y (Memᴰ.tail (Memᴰ.head refl)))))

  -- so at most n
  few : (n : ℕ) (l : List A) → ((a : A) → Memᴰ a l → key a < n) → Ordered Apart l → length l ≤ n
  few n l f o =
      let r : length l ≤ total n (λ k. 1) =
      by_keys n (λ k. 1) l f (λ k h. one_each k (keep (at k) l) (λ a m. eqb-true (key a) k (mem_keep (at k) l m).1) (ordered_keep Apart (at k) l o)) in
      let e = count_all n (λ k. true) (λ k h. refl) in
      omega arith

-- ---- the key of a maximal rectangle

module _ (occ : ℕ → ℕ → Bool) (W H : ℕ) where
  -- column c is blocked right above row y: row 0 is at the top, or the cell above is occupied
  abbrev blocked : ℕ → ℕ → Bool
  blocked y c = eqb y 0 || occ c (y - 1)

  -- the first column of a rectangle that is blocked above it
  column : Rect → ℕ
  column a = least_from a.x a.w (blocked a.y)

  -- a maximal rectangle has one, since it does not grow upwards
  record Blocked (a : Rect) (c : ℕ) : Type 0 where
    from : a.x ≤ c
    upto : c < a.x + a.w
    above : blocked a.y c ≡ true

  blocked_at : (a : Rect) → Maximal occ W H a → Blocked a (column a)
  unfolding column
  blocked_at a m =
      let c = least_from a.x a.w (blocked a.y) in
      let l = least_from_is a.x a.w (blocked a.y) in
      by_less c (a.x + a.w) (λ p. record { from = l.from; upto = p; above = l.here p }) (λ p.
      let clear : (x : ℕ) → a.x ≤ x → x < a.x + a.w → (eqb a.y 0 ≡ false) × (occ x (a.y - 1) ≡ false) =
      λ x f g. or_neither (eqb a.y 0) (occ x (a.y - 1)) (l.before x f (omega arith)) in
      let high = eqb-false a.y 0 (clear a.x (le_refl _) (omega (arith, m.is_empty.wide))).0 in
      not_larger occ W H m (rect a.x (a.y - 1) a.w (suc a.h))
      (record { left = le_refl _; top = omega arith; right = le_refl _; bottom = omega arith }) (omega arith) m.is_empty.columns (omega (arith, m.is_empty.lines))
      (λ x y f g h k.
      by_less y a.y
      (λ z. let q : y ≡ a.y - 1 = omega arith in ap (occ x) q ∙ (clear x f g).1)
      (λ z. m.is_empty.free x y f g z (omega arith))))

  -- a starts no lower than b where they share that column and their bottom row
  not_lower : (a b : Rect) (c : ℕ) → Empty occ W H a → a.y + a.h ≡ b.y + b.h → a.x ≤ c → c < a.x + a.w → Blocked b c → 1 ≤ b.h → b.y ≤ a.y
  not_lower a b c e q f g k t =
      by_less a.y b.y
      (λ p.
      by_or (eqb b.y 0) (occ c (b.y - 1)) k.above
      (λ z. let y0 = eqb-true b.y 0 z in absurd (omega arith))
      (λ z. not_both (occ c (b.y - 1)) z (e.free c (b.y - 1) f g (omega arith) (omega arith))))
      (λ p. p)

  -- two maximal rectangles with the same rows and a column in common are one
  same_rows : (a b : Rect) (c : ℕ) → Maximal occ W H a → Maximal occ W H b → a.y ≡ b.y → a.h ≡ b.h →
      a.x ≤ c → c < a.x + a.w → b.x ≤ c → c < b.x + b.w → a ≡ b
  same_rows a b c m n ey eh f g k l =
      let left = min a.x b.x in
      let end = max (a.x + a.w) (b.x + b.w) in
      let both : Rect = rect left a.y (end - left) a.h in
      let e : Empty occ W H both = record {
        wide = omega arith;
        tall = m.is_empty.tall;
        columns = omega (arith, m.is_empty.columns, n.is_empty.columns);
        lines = m.is_empty.lines;
        free = λ x y p q r s.
            let in_a : a.x ≤ x → x < a.x + a.w → occ x y ≡ false = λ u v. m.is_empty.free x y u v r s in
            let in_b : b.x ≤ x → x < b.x + b.w → occ x y ≡ false = λ u v. n.is_empty.free x y u v (omega arith) (omega arith) in
            by_less x c
            (λ z. by_less x a.x (λ u. in_b (omega arith) (omega arith)) (λ u. in_a u (omega arith)))
            (λ z. by_less x (a.x + a.w) (λ u. in_a (omega arith) u) (λ u. in_b (omega arith) (omega arith)));
      } in
      let p : both ≡ a = m.most both e (record { left = omega arith; top = le_refl _; right = omega arith; bottom = le_refl _ }) in
      let q : both ≡ b = n.most both e (record { left = omega arith; top = omega arith; right = omega arith; bottom = omega arith }) in
      sym p ∙ q

  column_low : (a : Rect) → Maximal occ W H a → column a < W
  column_low a m = let k = blocked_at a m in omega (arith, k.upto, m.is_empty.columns)

  -- two with the same bottom row and the same such column are one
  column_one : (a b : Rect) → Maximal occ W H a → Maximal occ W H b → a.y + a.h ≡ b.y + b.h → column a ≡ column b → a ≡ b
  column_one a b m n bottom cols =
      let ka = blocked_at a m in
      let kb = blocked_at b n in
      let fa : a.x ≤ column b = omega (arith, ka.from) in
      let ga : column b < a.x + a.w = omega (arith, ka.upto) in
      let fb : b.x ≤ column a = omega (arith, kb.from) in
      let gb : column a < b.x + b.w = omega (arith, kb.upto) in
      let p = not_lower a b (column b) m.is_empty bottom fa ga kb n.is_empty.tall in
      let q = not_lower b a (column a) n.is_empty (sym bottom) fb gb ka m.is_empty.tall in
      same_rows a b (column b) m n (omega arith) (omega arith) fa ga kb.from kb.upto

  -- AT MOST W WITH ONE BOTTOM ROW, in any list of maximal rectangles that is in order
  pub one_row_few : (y : ℕ) (l : List Rect) → ((a : Rect) → Memᴰ a l → Maximal occ W H a × (a.y + a.h ≡ suc y)) → Ordered Earlier l → length l ≤ W
  one_row_few y l f o =
      few column W l
      (λ a m. column_low a (f a m).0)
      (ordered_by _ _ l (λ a b m n p e. earlier_other a b p (column_one a b (f a m).0 (f b n).0 ((f a m).1 ∙ sym (f b n).1) e)) o)

  abbrev bottom : Rect → ℕ
  bottom a = a.y + a.h - 1

  pub row_bound : (y : ℕ) → length (keep (λ a. eqb (a.y + a.h - 1) y) (entries occ W H)) ≤ W
  row_bound y =
      one_row_few y (keep (at bottom y) (entries occ W H))
      (λ a m.
      let k = mem_keep (at bottom y) (entries occ W H) m in
      let i = (entries_are occ W H a).0 k.0 in
      let q = eqb-true (bottom a) y k.1 in
      (i, omega (arith, i.is_empty.tall)))
      (ordered_keep Earlier (at bottom y) (entries occ W H) (entries_ordered occ W H))

  -- AT MOST W ENTRIES FOR EACH ROW OF A SET that has every entry's bottom row
  pub rows_bound : (p : ℕ → Bool) → ((a : Rect) → Memᴰ a (entries occ W H) → p (a.y + a.h - 1) ≡ true) → length (entries occ W H) ≤ W * count H p
  rows_bound p f =
      let l = entries occ W H in
      let r : length l ≤ total H (λ y. cond (p y) W 0) =
      by_keys bottom H (λ y. cond (p y) W 0) l
      (λ a m. let i = ((entries_are occ W H a).0 m).is_empty in omega (arith, i.tall, i.lines))
      (λ y h. by_test (p y) (λ e. rw e (row_bound y)) (λ e. rw e (none_kept (at bottom y) l (λ a m q. not_both (p y) (ap p (sym (eqb-true (bottom a) y q)) ∙ f a m) e)))) in
      omega (arith, total_le H W p (λ y. cond (p y) W 0) (λ y h. le_refl _))

  -- AT MOST W-as-H ENTRIES: all rows are such a set
  pub entries_few : length (entries occ W H) ≤ W * H
  entries_few = subst (λ n. length (entries occ W H) ≤ W * n) (count_all H (λ y. true) (λ k h. refl)) (rows_bound (λ y. true) (λ a m. refl))
