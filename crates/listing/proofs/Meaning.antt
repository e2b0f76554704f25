-- The list of a row has exactly its entries, each once, in order. Assumes nothing.
use mathlib.Core.Path.{◌≡◌, refl, ap, ◌∙◌}
use mathlib.Core.Logic.{◌⊎◌, inl, inr, ⊎_elim, ◌↔◌}
use mathlib.Core.Bool.{Bool, true, false, ◌&&◌, or-true, false≢true}
use mathlib.Core.List.Memᴰ
use mathlib.Core.List.{List, [], ◌∷◌, Memᴰ, map, ◌++◌}
use Prim.Native.Nat.{ℕ, zero, suc, ◌+◌, ◌-◌, ◌≤◌, ◌<◌}
use native.Mathlib.Nat.{le_refl, eq-or-lt_of_le}
use native.Mathlib.Numerals.{add-one, sub-one}
use native.Mathlib.Omega.{arith}
use lib.Dec.{ltb}
use borrow.Author.Tests.{ltb-true, lt-ltb}
use Rattle.rules.specs.Tests.{put, chain}
use Rattle.listing.specs.declared.entry.Entry.{Entry}
use Rattle.listing.specs.Row.{least, before, some, from_left, row_entries, entries_at}
use Rattle.rules.specs.Empties.{Ordered}
use Rattle.rules.proofs.Tests.{lt_or_le, and_left, and_right, or_which, chain_mem, mem_chain}
use Rattle.meaning.proofs.Order.{ordered_chain}
use Rattle.listing.specs.Meaning.{Cell, IsEntry, Before}

-- ---- the least, and support

pub least_le : (f : ℕ → ℕ) (l k c : ℕ) → l ≤ c → c ≤ l + k → least f l k ≤ f c
unfolding least
least_le f l zero c p q = let e : l ≡ c = omega arith in rw e (le_refl _)
least_le f l (suc k) c p q =
    ⊎_elim
    (λ (e : l ≡ c). let e' : f l ≡ f c = ap f e in omega arith)
    (λ (h : l < c). omega (arith, least_le f (suc l) k c h (omega arith)))
    (eq-or-lt_of_le p)

pub least_met : (f : ℕ → ℕ) (l k : ℕ) → Cell l (l + k) (λ c. f c ≡ least f l k)
unfolding least
least_met f l zero = record { cell = l; from = le_refl l; upto = omega arith; has = refl }
least_met f l (suc k) =
    let c = least_met f (suc l) k in
    ⊎_elim
    (λ (h : f l < least f (suc l) k). record { cell = l; from = le_refl l; upto = omega arith; has = omega arith })
    (λ (h : least f (suc l) k ≤ f l). record { cell = c.cell; from = omega (arith, c.from); upto = omega (arith, c.upto); has = omega (arith, c.has) })
    (lt_or_le (f l) (least f (suc l) k))

pub some_held : (b : ℕ → Bool) (l k : ℕ) → some b l k ≡ true → Cell l (l + k) (λ c. b c ≡ true)
unfolding some
some_held b l zero e = record { cell = l; from = le_refl l; upto = omega arith; has = e }
some_held b l (suc k) e =
    ⊎_elim
    (λ s. let c = some_held b l k s in record { cell = c.cell; from = c.from; upto = omega (arith, c.upto); has = c.has })
    (λ q. record { cell = l + suc k; from = omega arith; upto = le_refl _; has = q })
    (or_which (some b l k) (b (l + suc k)) e)

pub held_some : (b : ℕ → Bool) (l k c : ℕ) → l ≤ c → c ≤ l + k → b c ≡ true → some b l k ≡ true
unfolding some
held_some b l zero c p q e = let e' : l ≡ c = omega arith in rw e' e
held_some b l (suc k) c p q e =
    ⊎_elim
    (λ (h : c ≡ l + suc k). rw (← h, e) (or-true (some b l k)))
    (λ (h : c < l + suc k). rw (held_some b l k c p (omega arith) e))
    (eq-or-lt_of_le q)

-- ---- membership

mem_keep : {A : Type 0} {a x : A} (c : Bool) {t : List A} → Memᴰ a (put c x t) → ((c ≡ true) × (a ≡ x)) ⊎ Memᴰ a t
mem_keep true m = ⊎_elim (λ e. inl (refl, e)) inr (Memᴰ.cases_cons m)
mem_keep false m = inr m

keep_mem : {A : Type 0} {a : A} (c : Bool) (x : A) {t : List A} → Memᴰ a t → Memᴰ a (put c x t)
keep_mem true x m = Memᴰ.tail m
keep_mem false x m = m

keep_head : {A : Type 0} {a : A} (c : Bool) (x : A) (t : List A) → c ≡ true → a ≡ x → Memᴰ a (put c x t)
keep_head true x t e q = Memᴰ.head q
keep_head false x t e q = absurd (false≢true e)

-- the test at a left cell: the height steps up to it, down behind the right cell, and there is support
abbrev pub hits : (ℕ → ℕ) → (ℕ → Bool) → ℕ → ℕ → ℕ → Bool
hits f b r l k = ltb (before f l) (least f l k) && (ltb (f (suc r)) (least f l k) && some b l k)

-- what the list for the right cell r holds from l on
pub record Found (f : ℕ → ℕ) (b : ℕ → Bool) (r l : ℕ) (e : Entry) : Type 0 where
  pub start : ℕ
  pub more : ℕ
  pub from : l ≤ start
  pub ends : start + more ≡ r
  pub hit : hits f b r start more ≡ true
  pub is : e ≡ record { left = start; right = r; height = least f start more }

from_found : (f : ℕ → ℕ) (b : ℕ → Bool) (r l n : ℕ) (e : Entry) → l + n ≡ suc r → Memᴰ e (from_left f b r l n) → Found f b r l e
unfolding from_left
from_found f b r l zero e q m = absurd (Memᴰ.not-nil m)
from_found f b r l (suc k) e q m =
    ⊎_elim
    (λ p. record { start = l; more = k; from = le_refl l; ends = omega arith; hit = p.0; is = p.1 })
    (λ p. let g = from_found f b r (suc l) k e (omega arith) p in record { start = g.start; more = g.more; from = omega (arith, g.from); ends = g.ends; hit = g.hit; is = g.is })
    (mem_keep (hits f b r l k) m)

found_from : (f : ℕ → ℕ) (b : ℕ → Bool) (r l n : ℕ) (e : Entry) → l + n ≡ suc r → Found f b r l e → Memᴰ e (from_left f b r l n)
unfolding from_left
found_from f b r l zero e q g = absurd (omega (arith, g.from, g.ends))
found_from f b r l (suc k) e q g =
    ⊎_elim
    (λ (p : l ≡ g.start).
    let t : k ≡ g.more = omega (arith, g.ends) in
    keep_head (hits f b r l k) _ _ (rw (p, t) g.hit) (g.is ∙ rw (p, t)))
    (λ (p : l < g.start).
    keep_mem (hits f b r l k) _
    (found_from f b r (suc l) k e (omega arith) (record { start = g.start; more = g.more; from = p; ends = g.ends; hit = g.hit; is = g.is })))
    (eq-or-lt_of_le g.from)

-- the list of a row is the lists for its right cells one behind the other
by_right : (f : ℕ → ℕ) (b : ℕ → Bool) (w : ℕ) → row_entries f b w ≡ chain w (entries_at f b)
unfolding row_entries chain
by_right f b zero = refl
by_right f b (suc r) = ap (λ l. l ++ entries_at f b r) (by_right f b r)

-- ---- the meaning

before_ends : (f : ℕ → ℕ) (l h : ℕ) → before f l < h → (l ≡ 0) ⊎ (f (l - 1) < h)
unfolding before
before_ends f zero h p = inl refl
before_ends f (suc l) h p = inr (rw sub-one p)

ends_before : (f : ℕ → ℕ) (l h : ℕ) → 0 < h → (l ≡ 0) ⊎ (f (l - 1) < h) → before f l < h
unfolding before
ends_before f zero h z p = z
ends_before f (suc l) h z (inl e) = absurd (omega arith)
ends_before f (suc l) h z (inr p) = rw sub-one at p

module _ (f : ℕ → ℕ) (b : ℕ → Bool) (w : ℕ) (edge : f w ≡ 0) where
  found_is : (r : ℕ) (e : Entry) → r < w → Found f b r 0 e → IsEntry f b w e
  found_is r e h g =
      let k = g.more in
      let l = g.start in
      let up : before f l < least f l k = ltb-true _ _ (and_left (ltb (before f l) (least f l k)) _ g.hit) in
      let rest = and_right (ltb (before f l) (least f l k)) (ltb (f (suc r)) (least f l k) && some b l k) g.hit in
      rw (g.is, ← g.ends) (record {
        order = omega arith;
        inside = omega (arith, g.ends);
        positive = omega (arith, up);
        height = record { below = least_le f l k; met = least_met f l k };
        left_end = before_ends f l (least f l k) up;
        right_end = inr (rw (g.ends, add-one) (ltb-true _ _ (and_left (ltb (f (suc r)) (least f l k)) (some b l k) rest)));
        held = some_held b l k (and_right (ltb (f (suc r)) (least f l k)) (some b l k) rest);
      })

  is_found : (e : Entry) → IsEntry f b w e → Found f b e.right 0 e
  is_found e i =
      let l = e.left in
      let r = e.right in
      let k = r - l in
      let q : l + k ≡ r = omega (arith, i.order) in
      let m = least_met f l k in
      let c = i.height.met in
      let t : e.height ≡ least f l k = omega (arith, i.height.below m.cell m.from (omega (arith, m.upto)), m.has, least_le f l k c.cell c.from (omega (arith, c.upto)), c.has) in
      let up : before f l < least f l k = rw (← t) (ends_before f l e.height i.positive i.left_end) in
      let down : f (suc r) < least f l k =
      ⊎_elim
      (λ (p : r + 1 ≡ w). let z : f (suc r) ≡ 0 = rw (← add-one, p) edge in omega (arith, i.positive))
      (λ (p : f (r + 1) < e.height). rw (← t) (rw add-one at p))
      i.right_end in
      record {
        start = l;
        more = k;
        from = omega arith;
        ends = q;
        hit = rw (lt-ltb _ _ up, lt-ltb _ _ down, held_some b l k i.held.cell i.held.from (omega (arith, i.held.upto)) i.held.has);
        is = rw (← t);
      }

  -- THE LIST HAS EXACTLY THE ENTRIES
  pub entries_mem : (e : Entry) → Memᴰ e (row_entries f b w) ↔ IsEntry f b w e
  entries_mem e = (
    λ m. let g = mem_chain (entries_at f b) w (rw by_right at m) in found_is g.0 e g.1 (from_found f b g.0 0 (suc g.0) e (omega arith) g.2),
    λ i. rw by_right (chain_mem (entries_at f b) w e.right i.inside (found_from f b e.right 0 (suc e.right) e (omega arith) (is_found e i))),
  )

-- ---- the order

module _ {A : Type 0} (R : A → A → Type 0) where
  ordered_keep : (c : Bool) (x : A) (t : List A) → ((b : A) → Memᴰ b t → R x b) → Ordered R t → Ordered R (put c x t)
  unfolding Ordered
  ordered_keep true x t a o = (a, o)
  ordered_keep false x t a o = o

-- a map that keeps the relation keeps the order
pub ordered_map : {A B : Type 0} (R : A → A → Type 0) (S : B → B → Type 0) (g : A → B) (l : List A)
    → ((a b : A) → Memᴰ a l → Memᴰ b l → R a b → S (g a) (g b)) → Ordered R l → Ordered S (map g l)
unfolding Ordered
ordered_map R S g [] k o = tt
ordered_map R S g (x ∷ l) k o = (
  (λ b m.
      let n = Memᴰ.of_map g l m in
      rw (← n.2) (k x n.0 (Memᴰ.head refl) (Memᴰ.tail n.1) (o.0 n.0 n.1))),
  ordered_map R S g l (λ a b m n. k a b (Memᴰ.tail m) (Memᴰ.tail n)) o.1,
)

from_ordered : (f : ℕ → ℕ) (b : ℕ → Bool) (r l n : ℕ) → l + n ≡ suc r → Ordered Before (from_left f b r l n)
unfolding from_left Ordered
from_ordered f b r l zero q = tt
from_ordered f b r l (suc k) q =
    ordered_keep Before (hits f b r l k) (record { left = l; right = r; height = least f l k }) (from_left f b r (suc l) k)
    (λ e m. let g = from_found f b r (suc l) k e (omega arith) m in rw g.is (inr (refl, g.from)))
    (from_ordered f b r (suc l) k (omega arith))

-- THE LIST IS IN ORDER, AND NO ENTRY STANDS IN IT TWICE
pub entries_ordered : (f : ℕ → ℕ) (b : ℕ → Bool) (w : ℕ) → Ordered Before (row_entries f b w)
entries_ordered f b w =
    rw by_right
    (ordered_chain Before (entries_at f b) w (λ r h. from_ordered f b r 0 (suc r) (omega arith))
    (λ j k h g a c m n. rw ((from_found f b j 0 (suc j) a (omega arith) m).is, (from_found f b k 0 (suc k) c (omega arith) n).is) (inl h)))
