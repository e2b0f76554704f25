-- The list is in the stated order, so that nothing stands in it twice. Assumes nothing.
use mathlib.Core.Path.{◌≡◌, refl, sym, ap, subst}
use mathlib.Core.Bool.{Bool}
use mathlib.Core.Logic.{◌⊎◌, inl, inr, ⊎_elim}
use mathlib.Core.List.Memᴰ
use mathlib.Core.List.{List, [], ◌∷◌, ◌++◌, Memᴰ}
use Prim.Native.Nat.{ℕ, zero, suc, ◌+◌, ◌-◌, ◌≤◌, ◌<◌}
use native.Mathlib.Omega.{arith}
use Rattle.rules.specs.Tests.{keep, chain}
use Rattle.rules.specs.Empties.{Inside, Maximal, spanning, rects, maximal, entries, Earlier, Ordered}
use Rattle.rules.specs.declared.Rect.{Rect}
use Rattle.rules.proofs.Tests.{mem_keep, mem_chain}
use Rattle.meaning.proofs.Splits.{by_test}
use Rattle.meaning.proofs.Rectangles.{entries_are}

-- ---- ordered lists

module _ {A : Type 0} where
  pub ordered_append : (R : A → A → Type 0) (l m : List A) → Ordered R l → Ordered R m → ((a b : A) → Memᴰ a l → Memᴰ b m → R a b) → Ordered R (l ++ m)
  unfolding Ordered
  ordered_append R [] m p q f = q
  ordered_append R (x ∷ l) m p q f = (
    (λ b n. ⊎_elim (λ k. p.0 b k) (λ k. f x b (Memᴰ.head refl) k) (Memᴰ.append_cases l n)),
    ordered_append R l m p.1 q (λ a b k n. f a b (Memᴰ.tail k) n),
  )

  pub ordered_chain : (R : A → A → Type 0) (f : ℕ → List A) (n : ℕ) → ((k : ℕ) → k < n → Ordered R (f k)) → ((j k : ℕ) → j < k → k < n → (a b : A) → Memᴰ a (f j) → Memᴰ b (f k) → R a b) → Ordered R (chain n f)
  unfolding Ordered chain
  ordered_chain R f zero p q = tt
  ordered_chain R f (suc n) p q =
      ordered_append R (chain n f) (f n)
      (ordered_chain R f n (λ k h. p k (omega arith)) (λ j k h g. q j k h (omega arith)))
      (p n (omega arith))
      (λ a b k m. let w = mem_chain f n k in q w.0 n w.1 (omega arith) a b w.2 m)

  pub ordered_keep : (R : A → A → Type 0) (p : A → Bool) (l : List A) → Ordered R l → Ordered R (keep p l)
  unfolding Ordered keep
  ordered_keep R p [] o = tt
  ordered_keep R p (x ∷ l) o = let r = ordered_keep R p l o.1 in by_test (p x) (λ e. rw e ((λ b m. o.0 b (mem_keep p l m).0), r)) (λ e. rw e r)

  -- another relation, where it follows for the list's items
  pub ordered_by : (R S : A → A → Type 0) (l : List A) → ((a b : A) → Memᴰ a l → Memᴰ b l → R a b → S a b) → Ordered R l → Ordered S l
  unfolding Ordered
  ordered_by R S [] f o = tt
  ordered_by R S (x ∷ l) f o = (
    (λ b m. f x b (Memᴰ.head refl) (Memᴰ.tail m) (o.0 b m)),
    ordered_by R S l (λ a b k m. f a b (Memᴰ.tail k) (Memᴰ.tail m)) o.1,
  )

-- ---- all rectangles, by bottom row, right column, left column, top row

abbrev Ahead : Rect → Rect → Type 0
Ahead a b =
    (a.y + a.h < b.y + b.h)
    ⊎ ((a.y + a.h ≡ b.y + b.h)
    × ((a.x + a.w < b.x + b.w) ⊎ ((a.x + a.w ≡ b.x + b.w) × ((a.x < b.x) ⊎ ((a.x ≡ b.x) × (a.y < b.y))))))

abbrev tops : ℕ → ℕ → ℕ → List Rect
tops b r l = chain (suc b) (λ t. spanning b r l t ∷ [])

abbrev lefts : ℕ → ℕ → List Rect
lefts b r = chain (suc r) (tops b r)

abbrev rights : ℕ → ℕ → List Rect
rights W b = chain W (lefts b)

-- what a rectangle's ends tell of it
record Ends (b r l : ℕ) (a : Rect) : Type 0 where
  bottom : a.y + a.h ≡ suc b
  right : a.x + a.w ≡ suc r
  left : a.x ≡ l

ends_at : (b r l t : ℕ) {a : Rect} → l ≤ r → t ≤ b → a ≡ spanning b r l t → Ends b r l a
ends_at b r l t {a} p q e =
    let ex : a.x ≡ l = ap (λ (c : Rect). c.x) e in
    let ey : a.y ≡ t = ap (λ (c : Rect). c.y) e in
    let ew : a.w ≡ suc r - l = ap (λ (c : Rect). c.w) e in
    let eh : a.h ≡ suc b - t = ap (λ (c : Rect). c.h) e in
    record { bottom = omega (arith, ey, eh); right = omega (arith, ex, ew); left = ex }

in_tops : (b r l : ℕ) {a : Rect} → l ≤ r → Memᴰ a (tops b r l) → Ends b r l a
in_tops b r l p m =
    let w = mem_chain _ (suc b) m in
    ends_at b r l w.0 p (omega (arith, w.1)) (Memᴰ.eq_of_singleton w.2)

record Left (b r : ℕ) (a : Rect) : Type 0 where
  at : ℕ
  ends : Ends b r at a

in_lefts : (b r : ℕ) {a : Rect} → Memᴰ a (lefts b r) → Left b r a
in_lefts b r m = let w = mem_chain _ (suc r) m in record { at = w.0; ends = in_tops b r w.0 (omega (arith, w.1)) w.2 }

in_rights : (W b : ℕ) {a : Rect} → Memᴰ a (rights W b) → a.y + a.h ≡ suc b
in_rights W b m = let w = mem_chain _ W m in (in_lefts b w.0 w.2).ends.bottom

tops_ordered : (b r l : ℕ) → l ≤ r → Ordered Ahead (tops b r l)
unfolding Ordered
tops_ordered b r l p =
    ordered_chain Ahead (λ t. spanning b r l t ∷ []) (suc b) (λ k h. ((λ c m. absurd (Memᴰ.not-nil m)), tt))
    (λ j k h g a c m n.
    let ea = Memᴰ.eq_of_singleton m in
    let ec = Memᴰ.eq_of_singleton n in
    let u = ends_at b r l j p (omega arith) ea in
    let v = ends_at b r l k p (omega arith) ec in
    let ya : a.y ≡ j = ap (λ (q : Rect). q.y) ea in
    let yc : c.y ≡ k = ap (λ (q : Rect). q.y) ec in
    inr (omega (arith, u.bottom, v.bottom), inr (omega (arith, u.right, v.right), inr (omega (arith, u.left, v.left), omega arith))))

lefts_ordered : (b r : ℕ) → Ordered Ahead (lefts b r)
lefts_ordered b r =
    ordered_chain Ahead (tops b r) (suc r) (λ k h. tops_ordered b r k (omega arith))
    (λ j k h g a c m n.
    let u = in_tops b r j (omega arith) m in
    let v = in_tops b r k (omega arith) n in
    inr (omega (arith, u.bottom, v.bottom), inr (omega (arith, u.right, v.right), inl (omega (arith, u.left, v.left)))))

rights_ordered : (W b : ℕ) → Ordered Ahead (rights W b)
rights_ordered W b =
    ordered_chain Ahead (lefts b) W (λ k h. lefts_ordered b k)
    (λ j k h g a c m n.
    let u = (in_lefts b j m).ends in
    let v = (in_lefts b k n).ends in
    inr (omega (arith, u.bottom, v.bottom), inl (omega (arith, u.right, v.right))))

rects_ordered : (W H : ℕ) → Ordered Ahead (rects W H)
unfolding rects
rects_ordered W H =
    ordered_chain Ahead (rights W) H (λ k h. rights_ordered W k)
    (λ j k h g a c m n. inl (omega (arith, in_rights W j m, in_rights W k n)))

-- ---- the list

module _ (occ : ℕ → ℕ → Bool) (W H : ℕ) where
  -- two maximal rectangles that end alike are one: the taller contains the other
  earlier : (a b : Rect) → Maximal occ W H a → Maximal occ W H b → Ahead a b → Earlier a b
  earlier a b m n (inl p) = inl p
  earlier a b m n (inr (p, inl q)) = inr (p, inl q)
  earlier a b m n (inr (p, inr (q, inl r))) = inr (p, inr (q, r))
  earlier a b m n (inr (p, inr (q, inr (r, s)))) =
      let i : Inside b a = record { left = omega arith; top = omega arith; right = omega arith; bottom = omega arith } in
      let e : a ≡ b = n.most a m.is_empty i in
      let f : a.y ≡ b.y = ap (λ (c : Rect). c.y) e in
      absurd (omega arith)

  -- THE LIST IS IN THE STATED ORDER
  pub entries_ordered : Ordered Earlier (entries occ W H)
  unfolding entries
  entries_ordered =
      ordered_by Ahead Earlier (entries occ W H)
      (λ a b m n. earlier a b ((entries_are occ W H a).0 m) ((entries_are occ W H b).0 n))
      (ordered_keep Ahead (maximal occ W H) (rects W H) (rects_ordered W H))

-- what is earlier is another
pub earlier_other : (a b : Rect) → Earlier a b → a ≡ b → ⊥
earlier_other a b p e =
    ⊎_elim (λ (q : a.y + a.h < a.y + a.h). omega arith)
    (λ q. ⊎_elim (λ (r : a.x + a.w < a.x + a.w). omega arith) (λ (r : (a.x + a.w ≡ a.x + a.w) × (a.x < a.x)). omega arith) q.1)
    (subst (Earlier a) (sym e) p)
