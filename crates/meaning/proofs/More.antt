-- Two tables of which one has one module more: which cells are occupied, the columns, the weights, and which weights are the same. Assumes nothing.
use mathlib.Core.Path.{◌≡◌, refl, sym, ap, ap₂, ◌∙◌}
use mathlib.Core.Bool.{Bool, true, false, not, cond, ◌&&◌, ◌||◌, true≢false}
use mathlib.Core.List.{List}
use Prim.Native.Nat.{ℕ, zero, suc, ◌+◌, ◌*◌, ◌≤◌, ◌<◌}
use native.Mathlib.Omega.{arith}
use lib.IntN.{ℤ}
use lib.ListN.{length}
use Rattle.rules.specs.Tests.{any, least_from, least}
use Rattle.rules.specs.Surface.{covers, slots, rect_of, free_slot, holds, occupied, holder, number, cell, fresh}
use Rattle.rules.specs.declared.Rect.{Rect}
use Rattle.meaning.proofs.Splits.{split, by_test, by_same}
use Rattle.rules.proofs.Tests.{any_yes, any_none, any_same, fails, not_both}
use Rattle.meaning.proofs.Weights.{covers_within, holder_low, holder_holds, fresh_cell, fresh_of}
use Rattle.meaning.specs.Column.{column, weight_in, beside, HoldsAll}
use Rattle.meaning.specs.Change.{Spared}
use Rattle.meaning.specs.Change.Spared.{aside, higher, past}
use Rattle.meaning.proofs.Columns.{weight_same, weight_after, beside_out, column_taken, column_empty, column_number, weight_column}
use Rattle.meaning.proofs.Tables.{Alike, alike_slots, alike_rect, alike_holds}

least_same : (a n : ℕ) (p q : ℕ → Bool) → ((k : ℕ) → p k ≡ q k) → least_from a n p ≡ least_from a n q
unfolding least_from
least_same a zero p q h = refl
least_same a (suc n) p q h = ap₂ (λ b k. cond b a k) (h a) (least_same (suc a) n p q h)

-- u is t with the module m more, in slot i; its cells are empty in t
pub record OneMore (t u : List ℕ) (i : ℕ) (m : Rect) : Type 0 where
  pub slot : i < slots t
  pub alike : Alike t u i
  pub unused : free_slot t i ≡ true
  pub used : free_slot u i ≡ false
  pub rect : rect_of u i ≡ m
  pub alone : (x y : ℕ) → covers m x y ≡ true → occupied t x y ≡ false

module _ (t u : List ℕ) (i : ℕ) (m : Rect) (o : OneMore t u i m) where
  module _ (x y : ℕ) where
    holds_none : holds t x y i ≡ false
    unfolding holds
    holds_none = ap (λ f. not f && covers (rect_of t i) x y) o.unused

    pub holds_here : holds u x y i ≡ covers m x y
    unfolding holds
    holds_here = ap₂ (λ f r. not f && covers r x y) o.used o.rect

    holds_same : covers m x y ≡ false → (j : ℕ) → holds u x y j ≡ holds t x y j
    holds_same e j =
        by_same j i (λ q. ap (holds u x y) q ∙ holds_here ∙ e ∙ sym (ap (holds t x y) q ∙ holds_none)) (λ ne. alike_holds o.alike j ne x y)

    -- outside the module the same cells are occupied, by the same modules
    occupied_same : covers m x y ≡ false → occupied u x y ≡ occupied t x y
    unfolding occupied
    occupied_same e = ap (λ n. any n (holds u x y)) (alike_slots o.alike) ∙ any_same (slots t) (holds u x y) (holds t x y) (λ k l. holds_same e k)

    holder_same : covers m x y ≡ false → holder u x y ≡ holder t x y
    unfolding holder
    holder_same e = ap (λ n. least n (holds u x y)) (alike_slots o.alike) ∙ least_same 0 (slots t) (holds u x y) (holds t x y) (holds_same e)

    occupied_in : covers m x y ≡ true → occupied u x y ≡ true
    unfolding occupied
    occupied_in e = any_yes (slots u) (holds u x y) i (omega (arith, alike_slots o.alike, o.slot)) (holds_here ∙ e)

    -- A CELL IS OCCUPIED IF IT WAS, OR IF THE MODULE HAS IT
    pub occupied_more : occupied u x y ≡ (occupied t x y || covers m x y)
    occupied_more = by_test (covers m x y) (λ e. rw (occupied_in e, o.alone x y e, e)) (λ e. rw (occupied_same e, e) (by_test (occupied t x y) (λ k. rw k) (λ k. rw k)))

    -- and was if it is and the module hasn't it
    pub occupied_less : occupied t x y ≡ (occupied u x y && not (covers m x y))
    occupied_less = by_test (covers m x y) (λ e. rw (o.alone x y e, occupied_in e, e)) (λ e. rw (occupied_same e, e) (by_test (occupied t x y) (λ k. rw k) (λ k. rw k)))

    -- the module has its cells
    holder_in : covers m x y ≡ true → holder u x y ≡ i
    unfolding occupied
    holder_in e =
        by_same (holder u x y) i (λ q. q) (λ ne.
        not_both (holds t x y (holder u x y))
        (sym (alike_holds o.alike (holder u x y) ne x y) ∙ holder_holds u x y (occupied_in e))
        (any_none (slots t) (holds t x y) (o.alone x y e) (holder u x y) (omega (arith, alike_slots o.alike, holder_low u x y (occupied_in e)))))

  -- the columns are those of t with the module besides
  pub column_more : (c r : ℕ) → column u c r ≡ beside m (number i m) (column t) c r
  column_more c r =
      split (λ n. column u c r ≡ n) (covers m c r)
      (λ e. column_number u c r (occupied_in c r e) ∙ ap (λ k. number k (rect_of u k) c) (holder_in c r e) ∙ ap (λ a. number i a c) o.rect)
      (λ e.
      by_test (occupied t c r)
      (λ q.
      let ne : holder t c r ≡ i → ⊥ = λ z. true≢false (sym (holder_holds t c r q) ∙ ap (holds t c r) z ∙ holds_none c r) in
      column_number u c r (occupied_same c r e ∙ q)
      ∙ ap (λ k. number k (rect_of u k) c) (holder_same c r e)
      ∙ ap (λ a. number (holder t c r) a c) (alike_rect o.alike (holder t c r) ne)
      ∙ sym (column_number t c r q))
      (λ q. column_empty u c r (occupied_same c r e ∙ q) ∙ sym (column_empty t c r q)))

-- ---- weights by their columns

pub fresh_holds : (W H : ℕ) (t : List ℕ) → HoldsAll W H (column t) (fresh W H t)
fresh_holds W H t c hc r hr = fresh_cell W H t c r hc hr ∙ weight_column t c r

pub holds_fresh : (W H : ℕ) (t : List ℕ) (s : List ℤ) → 0 < W → length s ≡ W * H → HoldsAll W H (column t) s → s ≡ fresh W H t
holds_fresh W H t s w e h = fresh_of W H t s w e (λ c r hc hr. h c hc r hr ∙ sym (weight_column t c r))

module _ (W H : ℕ) (t u : List ℕ) (i : ℕ) (m : Rect) (o : OneMore t u i m) where
  -- ---- the frame

  module _ (c r : ℕ) where
    beside_same : covers m c r ≡ false → column u c r ≡ column t c r
    beside_same e = column_more t u i m o c r ∙ ap (λ b. cond b (number i m c) (column t c r)) e

    above : r < m.y → covers m c r ≡ false
    above l = fails (covers m c r) (λ e. let w = covers_within m c r e in omega (arith, w.top))

    below : m.y + m.h ≤ r → covers m c r ≡ false
    below l = fails (covers m c r) (λ e. let w = covers_within m c r e in omega (arith, w.bottom))

  spared_same : (c r : ℕ) → Spared m t c r → weight_in (column u c) r ≡ weight_in (column t c) r
  spared_same c r (aside a) = weight_same (column u c) (column t c) r (λ q l. column_more t u i m o c q ∙ beside_out m (number i m) (column t) c a q)
  spared_same c r (higher l) = weight_same (column u c) (column t c) r (λ q k. beside_same c q (above c q (omega arith)))
  spared_same c r (past j a b e) =
      weight_after (column u c) (column t c) j r b
      (λ z. column_taken t c j e (sym (beside_same c j (below c j a)) ∙ z))
      (λ q k l. beside_same c q (below c q (omega arith)))

  -- A CELL OUT OF THE MODULE'S REACH HAS THE SAME WEIGHT WITH THE MODULE AND WITHOUT
  pub frame : (c r : ℕ) → c < W → r < H → Spared m t c r → cell W (fresh W H u) c r ≡ cell W (fresh W H t) c r
  frame c r hc hr p = fresh_holds W H u c hc r hr ∙ spared_same c r p ∙ sym (fresh_holds W H t c hc r hr)
