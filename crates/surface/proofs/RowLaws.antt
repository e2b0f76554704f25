-- Laws of rows of weights: written by a loop, counted on from the marks. Assumes nothing.
use mathlib.Core.Path.{◌≡◌, refl, sym, ap, ap₂, ◌∙◌, subst}
use mathlib.Core.Bool.{true, false}
use mathlib.Core.Logic.{⊎_elim}
use mathlib.Core.List.{List, [], ◌++◌}
use Prim.Native.Nat.{ℕ, zero, suc, ◌+◌, ◌-◌, ◌*◌, ◌≤◌, ◌<◌}
use native.Mathlib.Nat.{add-mul, eq-or-lt_of_le, mul_comm}
use native.Mathlib.Omega.{arith}
use borrow.Author.Count.{below_more}
use borrow.Author.Tests.{ltb-true}
use lib.Dec.{ltb}
use lib.IntN.{ℤ, pos, ◌+ℤ◌, pos-+ℤ-pos}
use lib.ListN.{length, get_or, set, take, drop, length-set, length-append, length-take, length-drop, get_or-append}
use lib.Seq.{get_or-set_same, get_or-set_other, get_or-append_right, get_or-take, get_or-drop, length-take-le}
use Rattle.std.proofs.lemmas.List.{take-append-drop}
use mir.Syntax.{w16}
use mir.Val.{SFits}
use Rattle.rules.specs.Surface.{slots, cell, occupied, holder, upwards, weight, fresh}
use Rattle.rules.proofs.Tests.{decide}
use Rattle.meaning.proofs.Weights.{weight_occupied, weight_empty, upwards_taken, fresh_of}
use Rattle.cells.specs.Weight.{taken_z, count_of}
use Rattle.cells.proofs.Laws.{taken_test, count_neg, row_before}
use Rattle.surface.specs.Rows.{RowWritten, counted_on, counted_at, CountedTo}
use Rattle.surface.specs.Marks.{mark_of, MarkedTo}
use Rattle.surface.proofs.MarkLaws.{mark_taken, mark_open}

-- ---- a row written

pub row_none : (s : List ℤ) (at : ℕ) (f : ℕ → ℤ) → RowWritten s s at 0 f
row_none s at f = record { long = refl; inside = λ k h. absurd (omega arith); before = λ k h. refl; after = λ k h. refl }

pub row_more : (s₀ s t : List ℤ) (at i : ℕ) (f : ℕ → ℤ) (v : ℤ) → RowWritten s₀ s at i f → at + i < length s → t ≡ set s (at + i) v → v ≡ f i → RowWritten s₀ t at (i + 1) f
row_more s₀ s t at i f v r lt e q =
    record {
      long = ap length e ∙ length-set s (at + i) v ∙ r.long;
      inside = below_more _ i (λ k h. other (at + k) (λ z. omega arith) ∙ r.inside k h) (ap (λ l. get_or l (at + i) (pos 0)) e ∙ get_or-set_same s (at + i) v (pos 0) lt ∙ q);
      before = λ k h. other k (λ z. omega arith) ∙ r.before k h;
      after = λ k h. other k (λ z. omega arith) ∙ r.after k (omega arith);
    }
  where
    other : (k : ℕ) → (k ≡ at + i → ⊥) → get_or t k (pos 0) ≡ get_or s k (pos 0)
    other k ne = ap (λ l. get_or l k (pos 0)) e ∙ get_or-set_other s (at + i) k v (pos 0) ne

-- row y ends within the surface
pub row_end : (w h y : ℕ) → y < h → y * w + w ≤ w * h
row_end w h y lt = omega (arith, row_before w y h w lt (omega arith), mul_comm w h)

-- ---- one cell counted

-- a count on a column and a little more: far from the end of 16 bits
pub few_more : (z : ℤ) (k n : ℕ) → z ≡ pos n → n ≤ 64 → ltb k 64 ≡ true → SFits w16 (z +ℤ pos k)
few_more z k n e h l = rw e (subst (SFits w16) (sym (pos-+ℤ-pos n k)) (record { sfits = omega (arith, ltb-true k 64 l) }))

pub one_more : (n : ℕ) → pos n +ℤ pos 1 ≡ pos (suc n)
one_more n = pos-+ℤ-pos n 1 ∙ ap pos (let q : n + 1 ≡ suc n = omega arith in q)

counted_marked : (m a : ℤ) → taken_z m ≡ true → counted_on m a ≡ m
unfolding counted_on
counted_marked m a e = rw e

counted_open : (m a : ℤ) → taken_z m ≡ false → counted_on m a ≡ pos (suc (count_of a))
unfolding counted_on
counted_open m a e = rw e

-- at most one more than above
counted_le : (m a : ℤ) → count_of (counted_on m a) ≤ suc (count_of a)
counted_le m a =
    ⊎_elim
    (λ (e : taken_z m ≡ true). let q = ap count_of (counted_marked m a e) ∙ sym (count_neg m (taken_test m ∙ e)) in omega arith)
    (λ (e : taken_z m ≡ false). let q = ap count_of (counted_open m a e) in omega arith)
    (decide (taken_z m))

-- no more than the rows so far
at_most : (W : ℕ) (m : List ℤ) (x y : ℕ) → count_of (counted_at W m x y) ≤ suc y
unfolding counted_at
at_most W m x zero = counted_le (cell W m x 0) (pos 0)
at_most W m x (suc y) = let b = at_most W m x y in let l = counted_le (cell W m x (suc y)) (counted_at W m x y) in omega arith

-- ---- row after row

-- a part that was written, between what stands before it and behind it
part_written : (front part row rest : List ℤ) (a k : ℕ) (f g : ℕ → ℤ) → length front ≡ a → length part ≡ k → RowWritten part row 0 (length part) f → ((x : ℕ) → x < k → f x ≡ g x) → RowWritten (front ++ (part ++ rest)) (front ++ (row ++ rest)) a k g
part_written front part row rest a k f g la lk r e =
    let d = pos 0 in
    record {
      long = omega (arith, length-append front (row ++ rest), length-append front (part ++ rest), length-append row rest, length-append part rest, r.long);
      inside = λ x h.
          get_or-append_right front _ (a + x) d (omega arith) ∙ ap (λ n. get_or (row ++ rest) n d) (let q : a + x - length front ≡ 0 + x = omega arith in q)
          ∙ get_or-append row rest d (0 + x) (omega (arith, r.long)) ∙ r.inside x (omega arith) ∙ e x h;
      before = λ x h. get_or-append front _ d x (omega arith) ∙ sym (get_or-append front _ d x (omega arith));
      after = λ x h.
          get_or-append_right front _ x d (omega arith) ∙ get_or-append_right row rest _ d (omega (arith, r.long))
          ∙ ap (λ n. get_or rest (x - length front - n) d) r.long
          ∙ sym (get_or-append_right front _ x d (omega arith) ∙ get_or-append_right part rest _ d (omega arith));
    }

counted_step : (W : ℕ) (s : List ℤ) (x y : ℕ) → 1 ≤ y → counted_on (cell W s x y) (counted_at W s x (y - 1)) ≡ counted_at W s x y
unfolding counted_at
counted_step W s x zero h = absurd (omega arith)
counted_step W s x (suc y) h = ap (λ n. counted_on (cell W s x (suc y)) (counted_at W s x n)) (let q : suc y - 1 ≡ y = omega arith in q)

-- row y written with its counts: one row more is counted
row_counted : (W : ℕ) (s₀ s u : List ℤ) (y : ℕ) → CountedTo W s₀ s y → RowWritten s u (y * W) W (λ x. counted_at W s₀ x y) → CountedTo W s₀ u (y + 1)
row_counted W s₀ s u y d r = record {
  long = r.long ∙ d.long;
  counted = λ x z a b.
      ⊎_elim
      (λ (e : z ≡ y). subst (λ z. cell W u x z ≡ counted_at W s₀ x z) (sym e) (r.inside x a))
      (λ (l : z < y). r.before (z * W + x) (omega (arith, row_before W z y (x + 1) l (omega arith))) ∙ d.counted x z a l)
      (eq-or-lt_of_le (let q : z ≤ y = omega arith in q));
  ahead = λ x z a b. r.after (z * W + x) (omega (arith, row_before W y z W (omega arith) (omega arith))) ∙ d.ahead x z a (omega arith);
}

module _ (W : ℕ) (s₀ : List ℤ) where
  pub counted_first : (row : List ℤ) → W ≤ length s₀ → RowWritten (take W s₀) row 0 (length (take W s₀)) (λ x. counted_on (get_or (take W s₀) x (pos 0)) (pos 0)) → CountedTo W s₀ (row ++ drop W s₀) 1
  unfolding counted_at
  counted_first row l r =
      row_counted W s₀ s₀ (row ++ drop W s₀) 0 (record { long = refl; counted = λ x y a b. absurd (omega arith); ahead = λ x y a b. refl })
      (subst (λ u. RowWritten u (row ++ drop W s₀) (0 * W) W (λ x. counted_at W s₀ x 0)) (take-append-drop W s₀)
      (part_written [] (take W s₀) row (drop W s₀) (0 * W) W _ _ (omega arith) (length-take-le W s₀ l) r
      (λ x h. ap (λ z. counted_on z (pos 0)) (get_or-take W s₀ x (pos 0) h ∙ ap (λ k. get_or s₀ k (pos 0)) (let q : x ≡ 0 * W + x = omega arith in q)))))

  -- the rows above row y are counted, and what stands there ends with the row above it
  module _ (s : List ℤ) (y : ℕ) (h : 1 ≤ y) (d : CountedTo W s₀ s y) (ends : (y + 1) * W ≤ length s) (front back : List ℤ) (p : front ≡ take (y * W) s) (q : back ≡ drop (y * W) s) where
    abbrev above : List ℤ
    above = take (length front - (y - 1) * W) (drop ((y - 1) * W) front)

    front_long : length front ≡ y * W
    front_long = ap length p ∙ length-take-le (y * W) s (omega (arith, add-mul y 1 W))

    one_less : (y - 1) * W + W ≡ y * W
    one_less = omega (arith, add-mul (y - 1) 1 W, ap (λ n. n * W) (let e : y - 1 + 1 ≡ y = omega arith in e))

    above_is : (x : ℕ) → x < W → get_or above x (pos 0) ≡ counted_at W s₀ x (y - 1)
    above_is x a =
        get_or-take _ _ x (pos 0) (omega (arith, front_long, one_less)) ∙ get_or-drop ((y - 1) * W) front x (pos 0) ∙ ap (λ l. get_or l ((y - 1) * W + x) (pos 0)) p
        ∙ get_or-take (y * W) s _ (pos 0) (omega (arith, one_less)) ∙ d.counted x (y - 1) a (omega arith)

    pub above_long : length above ≡ length (take W back)
    above_long = omega (arith, length-take (length front - (y - 1) * W) (drop ((y - 1) * W) front), length-drop ((y - 1) * W) front, length-take W back, length-drop (y * W) s, ap length q, front_long, one_less, add-mul y 1 W)

    pub above_few : (x : ℕ) → x < length (take W back) → count_of (get_or above x (pos 0)) ≤ y
    above_few x a = rw (above_is x (omega (arith, length-take W back))) (omega (arith, at_most W s₀ x (y - 1)))

    pub counted_next : (row : List ℤ) → RowWritten (take W back) row 0 (length (take W back)) (λ x. counted_on (get_or (take W back) x (pos 0)) (get_or above x (pos 0))) → CountedTo W s₀ (front ++ (row ++ drop W back)) (y + 1)
    counted_next row r =
        row_counted W s₀ s _ y d
        (subst (λ u. RowWritten u (front ++ (row ++ drop W back)) (y * W) W (λ x. counted_at W s₀ x y)) whole
        (part_written front (take W back) row (drop W back) (y * W) W _ _ front_long (length-take-le W back (omega (arith, ap length q, length-drop (y * W) s, add-mul y 1 W))) r
        (λ x a. ap₂ counted_on (get_or-take W back x (pos 0) a ∙ ap (λ l. get_or l x (pos 0)) q ∙ get_or-drop (y * W) s x (pos 0) ∙ d.ahead x y a (omega arith)) (above_is x a) ∙ counted_step W s₀ x y h)))
      where
        whole : front ++ (take W back ++ drop W back) ≡ s
        whole = ap₂ ◌++◌ p (take-append-drop W back ∙ q) ∙ take-append-drop (y * W) s

-- ---- the rows of a surface whose modules are marked

module _ (t : List ℕ) (x : ℕ) where
  -- the weight above, as the table has it
  above_of : ℕ → ℤ
  above_of zero = pos 0
  above_of (suc y) = weight t x y

  -- an occupied cell counts nothing
  count_weight : (y : ℕ) → count_of (weight t x y) ≡ upwards (occupied t) x y
  count_weight y =
      ⊎_elim
      (λ (e : occupied t x y ≡ true). ap count_of (weight_occupied t x y e).1 ∙ sym (upwards_taken (occupied t) x y e))
      (λ (e : occupied t x y ≡ false). ap count_of (weight_empty t x y e))
      (decide (occupied t x y))

  -- an empty cell's weight is one more than the count above it
  next_weight : (y : ℕ) → occupied t x y ≡ false → weight t x y ≡ pos (suc (count_of (above_of y)))
  unfolding above_of upwards
  next_weight zero e = weight_empty t x zero e ∙ rw e
  next_weight (suc y) e = weight_empty t x (suc y) e ∙ rw (e, count_weight y)

  -- an occupied cell's weight is its mark
  mark_weight : (y : ℕ) → occupied t x y ≡ true → mark_of t (slots t) x y ≡ weight t x y
  unfolding mark_of weight occupied holder
  mark_weight y e = rw e

  -- counted on from the weight above, a mark comes to the weight
  weight_is : (y : ℕ) → counted_on (mark_of t (slots t) x y) (above_of y) ≡ weight t x y
  unfolding occupied
  weight_is y =
      ⊎_elim
      (λ (e : occupied t x y ≡ true). counted_marked (mark_of t (slots t) x y) (above_of y) (mark_taken t (slots t) x y e) ∙ mark_weight y e)
      (λ (e : occupied t x y ≡ false). counted_open (mark_of t (slots t) x y) (above_of y) (ap taken_z (mark_open t (slots t) x y e)) ∙ sym (next_weight y e))
      (decide (occupied t x y))

module _ (W H : ℕ) (m s : List ℤ) (t : List ℕ) (d : MarkedTo W H t (slots t) m) where
  counted_weight : (x y : ℕ) → x < W → y < H → counted_at W m x y ≡ weight t x y
  unfolding counted_at above_of
  counted_weight x zero a b = ap (λ z. counted_on z (pos 0)) (d.cells x 0 a b) ∙ weight_is t x 0
  counted_weight x (suc y) a b = ap₂ counted_on (d.cells x (suc y) a b) (counted_weight x y a (omega arith)) ∙ weight_is t x (suc y)

  -- MARKED AND COUNTED, THE SCRATCH HOLDS THE WEIGHTS WORKED OUT AFRESH
  pub counted_fresh : 1 ≤ W → CountedTo W m s H → s ≡ fresh W H t
  counted_fresh w k = fresh_of W H t s w (k.long ∙ d.long) (λ x y a b. k.counted x y a b ∙ counted_weight x y a b)
