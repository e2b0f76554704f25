-- Laws of the marks, and of the slots taken in turn. Nothing here speaks of a function's places. Assumes nothing.
use mathlib.Core.Path.{◌≡◌, refl, sym, ap, ap₂, ◌∙◌, subst}
use mathlib.Core.Bool.{Bool, true, false, not, ◌&&◌, true≢false}
use mathlib.Core.Logic.{◌⊎◌, inl, inr, ⊎_elim}
use mathlib.Core.List.{List}
use Rattle.std.specs.Prelude.{Err}
use Prim.Native.Nat.{ℕ, zero, suc, ◌+◌, ◌-◌, ◌*◌, ◌≤◌, ◌<◌}
use native.Mathlib.Nat.{eq-or-lt_of_le, mul-le-mul_right, mul_comm}
use native.Mathlib.Omega.{arith}
use borrow.Author.Count.{below_more}
use borrow.Author.Tests.{not-true, not-false, le-leb, lt-ltb, ltb-true}
use lib.Arith.{digits_lt}
use lib.Dec.{eqb}
use lib.ListN.{length, get_or, set, replicate, length-replicate, get_or-replicate}
use lib.Seq.{get_or-set_same, get_or-set_other}
use lib.IntN.{ℤ, pos, neg_ℤ}
use Rattle.rules.specs.Tests.{every, any, total, count, least}
use Rattle.rules.specs.Surface.{covers, slots, id_of, rect_of, free_slot, used_slot, sound_slot, holds, number, cell, remaining, modules_apart}
use Rattle.rules.specs.declared.Rect.{Rect}
use Rattle.rules.specs.Requests.{has_id}
use Rattle.rules.specs.declared.Refusal.TheVariants.{DoesNotStand}
use Rattle.rules.proofs.Tests.{lt_or_le, and_left, and_right, and_both, four_and, or_left, or_right, fails, not_both, decide, every_at, every_no, every_fails, any_at, any_yes, any_none, any_same, least_is}
use Rattle.meaning.proofs.Weights.{covers_within, Within, number_some, holds_covers}
use Rattle.meaning.proofs.Tables.{look_found, least_any}
use Rattle.meaning.proofs.Stands.{Sound, told_sound, told_apart}
use Rattle.cells.specs.Weight.{taken_z, untaken}
use Rattle.cells.proofs.Laws.{row_before}
use Rattle.surface.specs.Rows.{RowWritten}
use Rattle.surface.specs.Slots.{Gathered, table_stands, Under}
use Rattle.surface.specs.Marks.{Marked, mark_of, MarkedTo, TakenTo, Takeable, SlotTaken}
use Rattle.surface.proofs.SlotLaws.{read_rect, any_hit, any_miss, count_hit, count_miss, count_mono, falls_alike, falls_shared, table_stands_lem}

-- ---- a rectangle of marks

pub rect_none : (W : ℕ) (s : List ℤ) (x y n : ℕ) (g : ℕ → ℕ) → Marked W s s x y n 0 g
rect_none W s x y n g = record {
  long = refl;
  inside = λ c r a b d e. absurd (omega arith);
  beside = λ c r a b. refl;
  above = λ c r a b. refl;
  below = λ c r a b. refl;
}

pub rect_more : (W : ℕ) (s₀ s t : List ℤ) (x y n j : ℕ) (g : ℕ → ℕ) → x + n ≤ W → Marked W s₀ s x y n j g → RowWritten s t ((y + j) * W + x) n (λ k. neg_ℤ (pos (g (x + k)))) → Marked W s₀ t x y n (j + 1) g
rect_more W s₀ s t x y n j g on m r = record {
  long = r.long ∙ m.long;
  inside = λ c q a b d e.
      ⊎_elim
      (λ (z : q < y + j). kept c q (omega arith) (λ e. absurd (omega arith)) ∙ m.inside c q a b d z)
      (λ (z : y + j ≤ q). let w : q ≡ y + j = omega arith in ap (cell W t c) w ∙ this_row c a b)
      (lt_or_le q (y + j));
  beside = λ c q a b. kept c q a (λ _. b) ∙ m.beside c q a b;
  above = λ c q a b. kept c q a (λ e. absurd (omega arith)) ∙ m.above c q a b;
  below = λ c q a b. kept c q a (λ e. absurd (omega arith)) ∙ m.below c q a (omega arith);
}
  where
    at : ℕ
    at = (y + j) * W + x

    -- a cell of another row, or of this one on either side
    kept : (c q : ℕ) → c < W → (q ≡ y + j → (c < x) ⊎ (x + n ≤ c)) → cell W t c q ≡ cell W s c q
    kept c q a o =
        ⊎_elim
        (λ (z : q < y + j). r.before (q * W + c) (omega (arith, row_before W q (y + j) (c + 1) z (omega arith))))
        (λ (z : y + j ≤ q).
        ⊎_elim
        (λ (w : y + j ≡ q). let e : (y + j) * W ≡ q * W = ap (λ k. k * W) w in
        ⊎_elim (λ (b : c < x). r.before (q * W + c) (omega arith)) (λ (b : x + n ≤ c). r.after (q * W + c) (omega arith)) (o (sym w)))
        (λ (w : y + j < q). r.after (q * W + c) (omega (arith, row_before W (y + j) q (x + n) w on)))
        (eq-or-lt_of_le z))
        (lt_or_le q (y + j))

    this_row : (c : ℕ) → x ≤ c → c < x + n → cell W t c (y + j) ≡ neg_ℤ (pos (g c))
    this_row c a b =
        let e : (y + j) * W + c ≡ at + (c - x) = omega arith in
        let f : x + (c - x) ≡ c = omega arith in
        ap (λ k. get_or t k (pos 0)) e ∙ r.inside (c - x) (omega arith) ∙ ap (λ k. neg_ℤ (pos (g k))) f

-- ---- the mark of a cell

neg_taken : (n : ℕ) → 1 ≤ n → taken_z (neg_ℤ (pos n)) ≡ true
neg_taken zero h = absurd (omega arith)
neg_taken (suc n) h = refl

-- where there is one, the least is one of them
least_here : (n : ℕ) (p : ℕ → Bool) → any n p ≡ true → (least n p < n) × (p (least n p) ≡ true)
least_here n p e = let low : least n p < n = ltb-true _ _ (least_any n p ∙ e) in (low, (least_is n p).here (omega arith))

-- a marked cell is one that a module has, and its mark is negative
pub mark_taken : (t : List ℕ) (n x y : ℕ) → any n (holds t x y) ≡ true → taken_z (mark_of t n x y) ≡ true
unfolding mark_of remaining
mark_taken t n x y e =
    let k = least n (holds t x y) in
    let r = rect_of t k in
    rw e (neg_taken (number k r x) (number_some k r x y (holds_covers t x y k (least_here n (holds t x y) e).1)))

pub mark_open : (t : List ℕ) (n x y : ℕ) → any n (holds t x y) ≡ false → mark_of t n x y ≡ pos 1
unfolding mark_of
mark_open t n x y e = rw e

mark_any : (t : List ℕ) (n x y : ℕ) → taken_z (mark_of t n x y) ≡ any n (holds t x y)
mark_any t n x y =
    ⊎_elim (λ p. mark_taken t n x y p ∙ sym p) (λ p. ap taken_z (mark_open t n x y p) ∙ sym p) (decide (any n (holds t x y)))

-- slot n does not have the cell: its mark stays
mark_stays : (t : List ℕ) (n x y : ℕ) → holds t x y n ≡ false → mark_of t (n + 1) x y ≡ mark_of t n x y
unfolding mark_of
mark_stays t n x y e =
    let p = holds t x y in
    ⊎_elim
    (λ (q : any n p ≡ true).
    let h = least_here n p q in
    let s = look_found (n + 1) p (least n p) (record { upto = omega (arith, h.0); none = λ j l. (least_is n p).before j (omega arith) l }) (omega (arith, h.0)) refl h.1 in
    rw (any_miss n p e, q) (ap (λ k. remaining t k x) (sym s)))
    (λ (q : any n p ≡ false). rw (any_miss n p e, q))
    (decide (any n p))

-- slot n is the first that has the cell: its number is the mark
mark_new : (t : List ℕ) (n x y : ℕ) → holds t x y n ≡ true → any n (holds t x y) ≡ false → mark_of t (n + 1) x y ≡ remaining t n x
unfolding mark_of
mark_new t n x y e q =
    let p = holds t x y in
    let s = look_found (n + 1) p n (record { upto = omega arith; none = any_none n p q }) (omega arith) refl e in
    rw (any_hit n p e) (ap (λ k. remaining t k x) (sym s))

-- ---- one slot more

cover : (r : Rect) (x y : ℕ) → Within r x y → covers r x y ≡ true
unfolding covers
cover r x y w = four_and (le-leb _ _ w.left) (lt-ltb _ _ w.right) (le-leb _ _ w.top) (lt-ltb _ _ w.bottom)

free_holds : (t : List ℕ) (n x y : ℕ) → free_slot t n ≡ true → holds t x y n ≡ false
unfolding holds
free_holds t n x y e = rw e

used_holds : (t : List ℕ) (n x y : ℕ) → free_slot t n ≡ false → holds t x y n ≡ covers (rect_of t n) x y
unfolding holds
used_holds t n x y e = rw e

untaken_at : (W : ℕ) (m : List ℤ) (r : Rect) → untaken W m r.x r.y r.w r.h ≡ true → (x y : ℕ) → Within r x y → taken_z (cell W m x y) ≡ false
unfolding untaken
untaken_at W m r e x y w =
    let i = x - r.x in
    let j = y - r.y in
    let row = every_at r.h (λ j. every r.w (λ i. not (taken_z (cell W m (r.x + i) (r.y + j))))) e j (omega (arith, w.top, w.bottom)) in
    let here : taken_z (cell W m (r.x + i) (r.y + j)) ≡ false = not-true _ (every_at r.w (λ i. not (taken_z (cell W m (r.x + i) (r.y + j)))) row i (omega (arith, w.left, w.right))) in
    let ex : r.x + i ≡ x = omega (arith, w.left) in
    let ey : r.y + j ≡ y = omega (arith, w.top) in
    ap₂ (λ a b. taken_z (cell W m a b)) (sym ex) (sym ey) ∙ here

-- a cell of the rectangle that is taken
record TakenIn (W : ℕ) (m : List ℤ) (r : Rect) : Type 0 where
  x : ℕ
  y : ℕ
  within : Within r x y
  taken : taken_z (cell W m x y) ≡ true

taken_in : (W : ℕ) (m : List ℤ) (r : Rect) → untaken W m r.x r.y r.w r.h ≡ false → TakenIn W m r
unfolding untaken
taken_in W m r e =
    let j = every_fails r.h (λ j. every r.w (λ i. not (taken_z (cell W m (r.x + i) (r.y + j))))) e in
    let i = every_fails r.w (λ i. not (taken_z (cell W m (r.x + i) (r.y + j.0)))) j.2 in
    record {
      x = r.x + i.0;
      y = r.y + j.0;
      within = record { left = omega arith; right = omega (arith, i.1); top = omega arith; bottom = omega (arith, j.1) };
      taken = not-false _ i.2;
    }

-- a cell outside the rectangle is on one of its sides, and stays
outside : (W : ℕ) (r : Rect) (s₀ s : List ℤ) (g : ℕ → ℕ) → Marked W s₀ s r.x r.y r.w r.h g → (x y : ℕ) → x < W → (Within r x y → ⊥) → cell W s x y ≡ cell W s₀ x y
outside W r s₀ s g m x y l out =
    ⊎_elim
    (λ (a : x < r.x). m.beside x y l (inl a))
    (λ (a : r.x ≤ x).
    ⊎_elim
    (λ (b : x < r.x + r.w).
    ⊎_elim
    (λ (c : y < r.y). m.above x y l c)
    (λ (c : r.y ≤ y).
    ⊎_elim
    (λ (d : y < r.y + r.h). absurd (out (record { left = a; right = b; top = c; bottom = d })))
    (λ (d : r.y + r.h ≤ y). m.below x y l d)
    (lt_or_le y (r.y + r.h)))
    (lt_or_le y r.y))
    (λ (b : r.x + r.w ≤ x). m.beside x y l (inr b))
    (lt_or_le x (r.x + r.w)))
    (lt_or_le x r.x)

module _ (W H : ℕ) (t : List ℕ) (n : ℕ) (m : List ℤ) (d : MarkedTo W H t n m) where
  -- a cell is marked where an earlier module has it
  marked_any : (x y : ℕ) → x < W → y < H → any n (holds t x y) ≡ taken_z (cell W m x y)
  marked_any x y a b = sym (ap taken_z (d.cells x y a b) ∙ mark_any t n x y)

  slot_skip : free_slot t n ≡ true → MarkedTo W H t (n + 1) m
  slot_skip e = record {
    long = d.long;
    cells = λ x y a b. d.cells x y a b ∙ sym (mark_stays t n x y (free_holds t n x y e));
    apart = λ x y a b. below_more (λ j. (i : ℕ) → i < j → (holds t x y i && holds t x y j) ≡ false) n (d.apart x y a b)
        (λ i l. let h = free_holds t n x y e in fails _ (λ q. not_both (holds t x y n) (and_right (holds t x y i) (holds t x y n) q) h));
  }

  module _ (e : free_slot t n ≡ false) where
    -- A MODULE THAT SHARES NO CELL WITH THE EARLIER ONES IS MARKED
    slot_new : (m' : List ℤ) → untaken W m (rect_of t n).x (rect_of t n).y (rect_of t n).w (rect_of t n).h ≡ true →
        Marked W m m' (rect_of t n).x (rect_of t n).y (rect_of t n).w (rect_of t n).h (number n (rect_of t n)) → MarkedTo W H t (n + 1) m'
    slot_new m' u w = record {
      long = w.long ∙ d.long;
      cells = λ x y a b.
          ⊎_elim
          (λ (c : covers r x y ≡ true). let i = covers_within r x y c in
          w.inside x y i.left i.right i.top i.bottom ∙ held x ∙ sym (mark_new t n x y (used_holds t n x y e ∙ c) (nobody x y a b i)))
          (λ (c : covers r x y ≡ false).
          outside W r m m' _ w x y a (λ i. not_both (covers r x y) (cover r x y i) c) ∙ d.cells x y a b ∙ sym (mark_stays t n x y (used_holds t n x y e ∙ c)))
          (decide (covers r x y));
      apart = λ x y a b. below_more (λ j. (i : ℕ) → i < j → (holds t x y i && holds t x y j) ≡ false) n (d.apart x y a b)
          (λ i l. fails _ (λ q.
          let c = covers_within r x y (holds_covers t x y n (and_right (holds t x y i) (holds t x y n) q)) in
          true≢false (sym (any_yes n (holds t x y) i l (and_left (holds t x y i) (holds t x y n) q)) ∙ nobody x y a b c)));
    }
      where
        r : Rect
        r = rect_of t n

        nobody : (x y : ℕ) → x < W → y < H → Within r x y → any n (holds t x y) ≡ false
        nobody x y a b w = marked_any x y a b ∙ untaken_at W m r u x y w

        held : (x : ℕ) → neg_ℤ (pos (number n r x)) ≡ remaining t n x
        held x = unfold remaining in refl

    -- A MODULE ONE OF WHOSE CELLS IS MARKED SHARES IT
    slot_shared : n < slots t → Sound W H t n → untaken W m (rect_of t n).x (rect_of t n).y (rect_of t n).w (rect_of t n).h ≡ false → modules_apart W H t ≡ false
    unfolding modules_apart
    slot_shared l s u =
        let c = taken_in W m (rect_of t n) u in
        let a : c.x < W = omega (arith, c.within.right, s.place.columns) in
        let b : c.y < H = omega (arith, c.within.bottom, s.place.lines) in
        let w = any_at n (holds t c.x c.y) (marked_any c.x c.y a b ∙ c.taken) in
        every_no H _ c.y b
        (every_no W _ c.x a
        (every_no (slots t) _ n l
        (every_no n _ w.0 w.1
        (ap not (and_both w.2 (used_holds t n c.x c.y e ∙ cover (rect_of t n) c.x c.y c.within))))))

-- ---- the slots taken in turn

-- nothing is marked yet
blank : (W H : ℕ) (t : List ℕ) (m : List ℤ) → m ≡ replicate (W * H) (pos 1) → MarkedTo W H t 0 m
unfolding any
blank W H t m e = record {
  long = ap length e ∙ length-replicate (W * H) (pos 1);
  cells = λ x y a b.
      ap (λ l. cell W l x y) e ∙ get_or-replicate (W * H) (y * W + x) (pos 1) (pos 0) (let d = digits_lt b a in omega (arith, mul_comm W H)) ∙ sym (mark_open t 0 x y refl);
  apart = λ x y a b j h. absurd (omega arith);
}

pub take_none : (W H : ℕ) (t ids : List ℕ) (m : List ℤ) → m ≡ replicate (W * H) (pos 1) → TakenTo W H t 0 ids 0 m
unfolding any total
take_none W H t ids m e = record {
  many = refl;
  sound = λ j h. absurd (omega arith);
  differ = λ j h. absurd (omega arith);
  noted = λ id. refl;
  marked = blank W H t m e;
}

-- where the surface does not stand, a slot is refused
pub slot_falls : {W H : ℕ} {t : List ℕ} {i : ℕ} {ids : List ℕ} {n : ℕ} {m : List ℤ} → table_stands W H t ≡ false → SlotTaken W H t i ids n m (Err DoesNotStand)
slot_falls e = record { more = tt; under = tt; falls = (refl, e) }

-- taken as far as slot `at`
pub record Reached (W H : ℕ) (t ids : List ℕ) (n : ℕ) (m : List ℤ) : Type 0 where
  pub at : ℕ
  pub low : at ≤ slots t
  pub taken : TakenTo W H t at ids n m

module _ (W H : ℕ) (t : List ℕ) where
  -- a free slot is passed over
  take_skip : (i : ℕ) (ids : List ℕ) (n : ℕ) (m : List ℤ) → TakenTo W H t i ids n m → used_slot t i ≡ false → TakenTo W H t (i + 1) ids n m
  take_skip i ids n m k e =
      let f = not-false (free_slot t i) e in
      record {
        many = k.many ∙ sym (count_miss i (used_slot t) e);
        sound = below_more _ i k.sound (or_left (free_slot t i) (sound_slot W H t i) f);
        differ = below_more (λ j. used_slot t j ≡ true → any j (has_id t (id_of t j)) ≡ false) i k.differ (λ u. not_both (used_slot t i) u e);
        noted = λ id. k.noted id ∙ sym (any_miss i (has_id t id) (rw e));
        marked = slot_skip W H t i m k.marked f;
      }

  -- the used slot i, whose id and rectangle were read
  module _ (i : ℕ) (ids : List ℕ) (n top : ℕ) (m : List ℤ) (a : Takeable W H t i ids n top m) (id : ℕ) (r : Rect) (p : id ≡ id_of t i) (q : r ≡ rect_of t i) where
    used_is : free_slot t i ≡ false
    used_is = not-true (free_slot t i) a.used

    -- no id is over the larger of its own and those before it
    pub take_under : (r : ℕ) → top ≤ r → id ≤ r → Under (set ids n id) (n + 1) r
    take_under r h l = below_more _ n (λ k u. omega (arith, get_or-set_other ids n k id 0 (λ z. omega arith), a.under k u)) (omega (arith, get_or-set_same ids n id 0 a.room))

    pub take_alike : any n (λ k. eqb (get_or ids k 0) id) ≡ true → table_stands W H t ≡ false
    take_alike e = falls_alike W H t i a.low a.used (ap (λ c. any i (has_id t c)) (sym p) ∙ sym (a.taken.noted id) ∙ e)

    module _ (s : Sound W H t i) where
      -- its module lies on the surface
      pub take_on : (r.x + r.w ≤ W) × ((r.y + r.h) * W ≤ length m)
      take_on =
          let e = read_rect q in
          let l : (r.y + r.h) * W ≤ H * W = mul-le-mul_right W (omega (arith, e, s.place.lines)) in
          (omega (arith, e, s.place.columns), omega (arith, mul_comm W H, a.taken.marked.long))

      pub take_shared : untaken W m r.x r.y r.w r.h ≡ false → table_stands W H t ≡ false
      take_shared e =
          falls_shared W H t (slot_shared W H t i m a.taken.marked used_is a.low s
          (ap (λ (r : Rect). untaken W m r.x r.y r.w r.h) (sym q) ∙ e))

      -- A USED SLOT THAT IS SOUND, WITH A NEW ID AND CELLS OF ITS OWN, IS TAKEN
      pub take_more : any n (λ k. eqb (get_or ids k 0) id) ≡ false → untaken W m r.x r.y r.w r.h ≡ true →
          (m' : List ℤ) → Marked W m m' r.x r.y r.w r.h (number i r) → TakenTo W H t (i + 1) (set ids n id) (n + 1) m'
      take_more new u m' w =
          let k = a.taken in
          record {
            many = ap (λ c. c + 1) k.many ∙ sym (count_hit i (used_slot t) a.used);
            sound = below_more _ i k.sound (or_right (free_slot t i) (sound_slot W H t i) (told_sound W H t i s));
            differ = below_more (λ j. used_slot t j ≡ true → any j (has_id t (id_of t j)) ≡ false) i k.differ (λ v. ap (λ c. any i (has_id t c)) (sym p) ∙ sym (k.noted id) ∙ new);
            noted = noted;
            marked = slot_new W H t i m k.marked used_is m' (ap (λ (r : Rect). untaken W m r.x r.y r.w r.h) (sym q) ∙ u)
                (subst (λ (r : Rect). Marked W m m' r.x r.y r.w r.h (number i r)) q w);
          }
        where
          -- the ids there were are found as before
          old : (c : ℕ) → any n (λ k. eqb (get_or (set ids n id) k 0) c) ≡ any i (has_id t c)
          old c = any_same n _ _ (λ k h. ap (λ v. eqb v c) (get_or-set_other ids n k id 0 (λ z. omega arith))) ∙ a.taken.noted c

          new_is : (c : ℕ) → eqb (get_or (set ids n id) n 0) c ≡ has_id t c i
          new_is c = ap (λ v. eqb v c) (get_or-set_same ids n id 0 a.room ∙ p) ∙ sym (rw a.used)

          noted : (c : ℕ) → any (n + 1) (λ k. eqb (get_or (set ids n id) k 0) c) ≡ any (i + 1) (has_id t c)
          noted c =
              ⊎_elim
              (λ (h : has_id t c i ≡ true). any_hit n _ (new_is c ∙ h) ∙ sym (any_hit i (has_id t c) h))
              (λ (h : has_id t c i ≡ false). any_miss n _ (new_is c ∙ h) ∙ old c ∙ sym (any_miss i (has_id t c) h))
              (decide (has_id t c i))

  -- as far as the next used slot, or the end
  module _ (ids : List ℕ) (n : ℕ) (m : List ℤ) where
    far : (i d : ℕ) → TakenTo W H t i ids n m → count (i + d) (used_slot t) ≡ n → TakenTo W H t (i + d) ids n m
    far i zero k e = subst (λ j. TakenTo W H t j ids n m) (let q : i ≡ i + 0 = omega arith in q) k
    far i (suc d) k e =
        let q : i + suc d ≡ i + d + 1 = omega arith in
        let low = count_mono i (i + d) (used_slot t) (omega arith) in
        let high = count_mono (i + d) (i + suc d) (used_slot t) (omega arith) in
        let same : count (i + d) (used_slot t) ≡ n = omega (arith, k.many) in
        let free : used_slot t (i + d) ≡ false = fails _ (λ u. let h = count_hit (i + d) (used_slot t) u in let z : count (i + d + 1) (used_slot t) ≡ n = ap (λ j. count j (used_slot t)) (sym q) ∙ e in omega arith) in
        subst (λ j. TakenTo W H t j ids n m) (sym q) (take_skip (i + d) ids n m (far i d k same) free)

    reach : (i j : ℕ) → i ≤ j → TakenTo W H t i ids n m → count j (used_slot t) ≡ n → TakenTo W H t j ids n m
    reach i j l k e =
        let q : i + (j - i) ≡ j = omega arith in
        subst (λ j. TakenTo W H t j ids n m) q (far i (j - i) k (ap (λ j. count j (used_slot t)) q ∙ e))

    pub take_next : (u : List ℕ) (c : ℕ) → Gathered t u (slots t) c → n < c → Reached W H t ids n m → TakenTo W H t (get_or u n 0) ids n m
    take_next u c g h d =
        let i = d.at in
        let k = d.taken in
        let j = get_or u n 0 in
        let b = g.before n h in
        let on : i ≤ j =
        ⊎_elim
        (λ (l : j < i). let x = count_hit j (used_slot t) (g.used n h) in let y = count_mono (j + 1) i (used_slot t) (omega arith) in absurd (omega (arith, k.many)))
        (λ (l : i ≤ j). l)
        (lt_or_le j i) in
        reach i j on k b

    pub take_last : count (slots t) (used_slot t) ≡ n → Reached W H t ids n m → TakenTo W H t (slots t) ids n m
    take_last e d = reach d.at (slots t) d.low d.taken e

  pub take_all : (ids : List ℕ) (n : ℕ) (m : List ℤ) → TakenTo W H t (slots t) ids n m → table_stands W H t ≡ true
  take_all ids n m k = table_stands_lem W H t k.sound k.differ (told_apart W H t (λ x y a b i j l h. k.marked.apart x y a b j h i l))
