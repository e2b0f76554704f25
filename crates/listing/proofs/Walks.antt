-- The invariant of the walk along a row, and that each turn keeps it, on plain values. Where the row comes from is left open: f has its heights, b
-- its support, w its width. Assumes nothing.
use mathlib.Core.Path.{◌≡◌, refl, sym, ap, ◌∙◌, subst}
use mathlib.Core.Logic.{⊎_elim}
use mathlib.Core.Bool.{Bool, true, false, cond}
use mathlib.Core.List.{List, [], ◌∷◌, ◌++◌, append-nil}
use Prim.Native.Nat.{ℕ, zero, suc, ◌+◌, ◌-◌, ◌≤◌, ◌<◌}
use native.Mathlib.Nat.{le_refl, add-zero}
use native.Mathlib.Numerals.{add-one, sub-one}
use native.Mathlib.Omega.{arith}
use lib.ListN.{length, get_or, take, drop}
use lib.Dec.{ltb, eqb}
use borrow.Author.Tests.{lt-ltb, le-ltb, eqb-true, eqb-false}
use Rattle.std.proofs.lemmas.List.{length-take-le}
use Rattle.rules.specs.Tests.{put}
use Rattle.rules.proofs.Tests.{lt_or_le, decide}
use Rattle.listing.specs.declared.entry.Entry.{Entry}
use Rattle.listing.specs.declared.stairs.Stair.{Stair}
use Rattle.listing.specs.Row.{no_stair, before, row_entries, stairs, stairs_from, reach, leaving, pushed, turns, Rises, CutAt, Open}
use Rattle.listing.proofs.StairLaws.{none_leaves, stairs_rising, pushed_low, pushed_high, push_law, ended, ended_law, count_le}
use Rattle.listing.proofs.Corners.{turns_le}
use Rattle.listing.proofs.Cuts.{rises, leaving_cut}

-- ---- where the height does not fall nothing leaves, and where it stays no stair is other than before

-- no stair is higher than v
unfoldable Under : ℕ → List Stair → Type 0
Under v [] = Unit {0}
Under v (s ∷ t) = (s.height ≤ v) × Under v t

under_put : (c : Bool) (v a : ℕ) → Under v (put c (record { left = a; height = v }) [])
unfolding Under
under_put true v a = (le_refl v, tt)
under_put false v a = tt

under_pushed : (c : Bool) (v x : ℕ) (t : List Stair) → Under v (pushed c v x t)
unfolding Under pushed
under_pushed c v x [] = under_put c v x
under_pushed c v x (s ∷ t) =
    ⊎_elim
    (λ (p : s.height < v). rw (lt-ltb s.height v p) (omega arith, under_pushed c v x t))
    (λ (p : v ≤ s.height). rw (le-ltb s.height v p) (under_put c v s.left))
    (lt_or_le s.height v)

stairs_under : (f : ℕ → ℕ) (x : ℕ) → Under (before f x) (stairs f x)
unfolding Under before stairs_from
stairs_under f zero = tt
stairs_under f (suc p) = rw (push_law f p) (under_pushed (ltb 0 (f p)) (f p) p (stairs f p))

under_at : (v : ℕ) (l : List Stair) → Under v l → (j : ℕ) → j < length l → (get_or l j no_stair).height ≤ v
unfolding Under
under_at v [] u j p = absurd (omega arith)
under_at v (s ∷ t) u zero p = u.0
under_at v (s ∷ t) u (suc j) p = under_at v t u.1 j (omega arith)

none_leave : (v w e r : ℕ) (l : List Stair) → w ≤ v → Under w l → leaving v e r l ≡ []
unfolding Under leaving
none_leave v w e r [] h u = refl
none_leave v w e r (s ∷ t) h u = none_leaves v e r s t (omega (arith, u.0)) ∙ none_leave v w e r t h u.1

nothing_ends : (f : ℕ → ℕ) (b : ℕ → Bool) (x : ℕ) → before f x ≤ f x → ended f b (x + 1) ≡ ended f b x
nothing_ends f b x h =
    rw add-one (ended_law f b x ∙ ap (λ l. ended f b x ++ l) (none_leave (f x) (before f x) (reach b x) (x - 1) (stairs f x) h (stairs_under f x)) ∙ append-nil (ended f b x))

pushed_put : (c : Bool) (v x a : ℕ) → pushed c v x (put c (record { left = a; height = v }) []) ≡ put c (record { left = a; height = v }) []
unfolding pushed
pushed_put true v x a = pushed_high true v x (record { left = a; height = v }) [] (le_refl v)
pushed_put false v x a = refl

pushed_again : (c : Bool) (v x y : ℕ) (t : List Stair) → pushed c v x (pushed c v y t) ≡ pushed c v y t
unfolding pushed
pushed_again c v x y [] = pushed_put c v x y
pushed_again c v x y (s ∷ t) =
    ⊎_elim
    (λ (p : s.height < v). rw (lt-ltb s.height v p) (pushed_low c v x s (pushed c v y t) p ∙ ap (λ (l : List Stair). s ∷ l) (pushed_again c v x y t)))
    (λ (p : v ≤ s.height). rw (le-ltb s.height v p) (pushed_put c v x s.left))
    (lt_or_le s.height v)

same_stairs : (f : ℕ → ℕ) (x : ℕ) → f x ≡ before f x → stairs f (x + 1) ≡ stairs f x
unfolding before stairs_from pushed
same_stairs f zero e = let z : f 0 ≡ 0 = e in push_law f 0 ∙ rw z
same_stairs f (suc p) e = rw (add-one, push_law f (suc p), push_law f p, e) (pushed_again (ltb 0 (f p)) (f p) (suc p) p (stairs f p))

-- ---- as far as there is support

pub reach_by : (b : ℕ → Bool) (c : ℕ) → 0 < c → (t : Bool) → b (c - 1) ≡ t → reach b c ≡ cond t c (reach b (c - 1))
unfolding reach
reach_by b zero h t e = absurd (omega arith)
reach_by b (suc c) h t e = rw (← e, sub-one)

-- ---- THE INVARIANT: n stairs are held, and m entries written; u is the height before x; k is how often it has fallen; e is as far as there is
-- support among the first lo cells, and from lo on all are empty

pub record Going (f : ℕ → ℕ) (b : ℕ → Bool) (w : ℕ) (s : List Stair) (l : List Entry) (n m k e u lo x : ℕ) : Type 0 where
  pub inside : x ≤ w
  pub stairs_in : n ≤ length s
  pub held : take n s ≡ stairs f x
  pub entries_in : m ≤ length l
  pub written : take m l ≡ ended f b x
  pub last : u ≡ before f x
  pub fallen : k ≡ turns f x
  pub settled : e ≡ reach b lo
  pub from : lo ≤ x
  pub empty : Open f lo x

pub go_start : (f : ℕ → ℕ) (b : ℕ → Bool) (w : ℕ) (s : List Stair) (l : List Entry) → Going f b w s l 0 0 0 0 0 0 0
unfolding stairs_from ended reach before turns
go_start f b w s l = record {
  inside = omega arith;
  stairs_in = omega arith;
  held = refl;
  entries_in = omega arith;
  written = refl;
  last = refl;
  fallen = refl;
  settled = refl;
  from = omega arith;
  empty = λ c p q. absurd (omega arith);
}

pub before_low : (f : ℕ → ℕ) (n : ℕ) → ((k : ℕ) → f k ≤ n) → (x : ℕ) → before f x ≤ n
unfolding before
before_low f n h zero = omega arith
before_low f n h (suc x) = h x

before_next : (f : ℕ → ℕ) (x : ℕ) → before f (x + 1) ≡ f x
unfolding before
before_next f x = rw add-one

-- where the height does not fall, and where it does
turns_not : (f : ℕ → ℕ) (x : ℕ) → before f x ≤ f x → turns f (x + 1) ≡ turns f x
unfolding turns
turns_not f x h = rw (add-one, le-ltb (f x) (before f x) h) (omega arith)

turns_one : (f : ℕ → ℕ) (x : ℕ) → f x < before f x → turns f (x + 1) ≡ turns f x + 1
unfolding turns
turns_one f x h = rw (add-one x, lt-ltb (f x) (before f x) h)

-- one cell more that is empty
open_more : (f : ℕ → ℕ) (lo x : ℕ) → Open f lo x → (f x ≡ 0 → ⊥) → Open f lo (x + 1)
open_more f lo x o n c p q = ⊎_elim (λ (l : c < x). o c p l) (λ (l : x ≤ c). λ z. n (ap f (let e : x ≡ c = omega arith in e) ∙ z)) (lt_or_le c x)

open_none : (f : ℕ → ℕ) (x : ℕ) → Open f x x
open_none f x c p q = absurd (omega arith)

-- after a cell without a height there is no empty one yet
open_here : (f : ℕ → ℕ) (lo x : ℕ) → before f x ≡ 0 → lo ≤ x → Open f lo x → lo ≡ x
unfolding before
open_here f lo zero z h o = omega arith
open_here f lo (suc p) z h o = ⊎_elim (λ (l : lo < suc p). absurd (o p (omega arith) (omega arith) z)) (λ (l : suc p ≤ lo). omega arith) (lt_or_le lo (suc p))

module _ {f : ℕ → ℕ} {b : ℕ → Bool} {w : ℕ} {s : List Stair} {l : List Entry} {n m k e u lo x : ℕ} (i : Going f b w s l n m k e u lo x) where
  -- stairs and entries together are no more than the cells
  pub room : m + n ≤ x
  room = omega (arith, count_le f b x, ap length i.held, ap length i.written, length-take-le n s i.stairs_in, length-take-le m l i.entries_in)

  pub few : k ≤ x
  few = omega (arith, i.fallen, turns_le f x)

  -- there is a cell before one at which the height falls
  pub later : (u ≡ 0 → ⊥) → 1 ≤ x
  later h = ⊎_elim (λ (p : 0 < x). p) (λ (p : x ≤ 0). let z : x ≡ 0 = omega arith in absurd (h (i.last ∙ ap (before f) z ∙ unfold before in refl))) (lt_or_le 0 x)

  pub rise : Rises (take n s)
  rise = rw i.held (rises (stairs f x) (stairs_rising f 0 x))

  -- above all stairs
  pub cut_above : (v : ℕ) → u < v → CutAt (take n s) v n
  cut_above v h =
      let long = length-take-le n s i.stairs_in in
      record {
        within = omega arith;
        low = λ j p. rw i.held (omega (arith, i.last, under_at (before f x) (stairs f x) (stairs_under f x) j (omega (arith, ap length i.held))));
        high = λ p. absurd (omega arith);
      }

module _ {f : ℕ → ℕ} {b : ℕ → Bool} (bare : (k : ℕ) → f k ≡ 0 → b k ≡ false)
    {w : ℕ} {s : List Stair} {l : List Entry} {n m k e u lo x : ℕ} (i : Going f b w s l n m k e u lo x) where
  -- a cell without a height has no support
  no_reach : f x ≡ 0 → reach b (x + 1) ≡ reach b x
  unfolding reach
  no_reach z = rw (add-one, bare x z)

  module _ (h : x < w) where
    -- an empty cell at which the height does not fall
    go_on : {s' : List Stair} {n' v : ℕ} → n' ≤ length s' → take n' s' ≡ stairs f (x + 1) → v ≡ f x → u ≤ v → (f x ≡ 0 → ⊥)
        → Going f b w s' l n' m k e v lo (x + 1)
    go_on long held ev up ne =
        let le : before f x ≤ f x = omega (arith, i.last) in
        record {
          inside = omega arith;
          stairs_in = long;
          held = held;
          entries_in = i.entries_in;
          written = i.written ∙ sym (nothing_ends f b x le);
          last = ev ∙ sym (before_next f x);
          fallen = i.fallen ∙ sym (turns_not f x le);
          settled = i.settled;
          from = omega (arith, i.from);
          empty = open_more f lo x i.empty ne;
        }

    pub go_stay : f x ≡ u → (f x ≡ 0 → ⊥) → Going f b w s l n m k e u lo (x + 1)
    go_stay q ne = go_on i.stairs_in (i.held ∙ sym (same_stairs f x (q ∙ i.last))) (sym q) (le_refl u) ne

    -- a stair enters
    put_in : (s' : List Stair) (n' v : ℕ) → v ≡ f x → take n' s' ≡ pushed (ltb 0 v) v x (take n s) → take n' s' ≡ stairs f (x + 1)
    put_in s' n' v ev q = q ∙ rw (ev, i.held, add-one) (sym (push_law f x))

    pub go_rise : (s' : List Stair) (n' v : ℕ) → v ≡ f x → u < v → n' ≤ length s' → take n' s' ≡ pushed (ltb 0 v) v x (take n s)
        → Going f b w s' l n' m k e v lo (x + 1)
    go_rise s' n' v ev up long q = go_on long (put_in s' n' v ev q) ev (omega arith) (λ z. omega arith)

    -- a cell without a height behind another, or at the edge: it stays, and the empty cells begin behind it
    pub go_taken : u ≡ 0 → f x ≡ 0 → Going f b w s l n m k e u (x + 1) (x + 1)
    go_taken z q = record {
      inside = omega arith;
      stairs_in = i.stairs_in;
      held = i.held ∙ sym (same_stairs f x (q ∙ sym z ∙ i.last));
      entries_in = i.entries_in;
      written = i.written ∙ sym (nothing_ends f b x (omega (arith, i.last)));
      last = z ∙ sym (before_next f x ∙ q);
      fallen = i.fallen ∙ sym (turns_not f x (omega (arith, i.last)));
      settled = i.settled ∙ ap (reach b) (open_here f lo x (sym i.last ∙ z) i.from i.empty) ∙ sym (no_reach q);
      from = le_refl (x + 1);
      empty = open_none f (x + 1);
    }

  -- what leaves at x or past the last column
  put_out : (v j e' r : ℕ) (t : List Stair) (l' : List Entry) (m' : ℕ) → v ≡ f x → CutAt (take n s) v j → t ≡ drop j (take n s) → e' ≡ reach b x → r ≡ x - 1
      → take m' l' ≡ take m l ++ leaving v e' r t → take m' l' ≡ ended f b (x + 1)
  put_out v j e' r t l' m' ev c et ee er out =
      out
      ∙ rw (et, ← leaving_cut (take n s) v j e' r c, i.held, i.written, ee, er, ev, add-one) (sym (ended_law f b x))

  pub go_fall : (v j r e' lo' : ℕ) (s' t : List Stair) (l' : List Entry) (n' m' : ℕ) → x < w → v ≡ f x → v < u → CutAt (take n s) v j
      → t ≡ drop j (take n s) → r ≡ x - 1 → e' ≡ reach b x → m' ≤ length l' → take m' l' ≡ take m l ++ leaving v e' r t
      → n' ≤ length s' → take n' s' ≡ pushed (ltb 0 v) v x (take n s)
      → lo' ≡ x + cond (eqb v 0) 1 0
      → Going f b w s' l' n' m' (k + 1) e' v lo' (x + 1)
  go_fall v j r e' lo' s' t l' n' m' h ev down c et er ee fits out long in' el = record {
    inside = omega arith;
    stairs_in = long;
    held = put_in h s' n' v ev in';
    entries_in = fits;
    written = put_out v j e' r t l' m' ev c et ee er out;
    last = ev ∙ sym (before_next f x);
    fallen = ap (λ a. a + 1) i.fallen ∙ sym (turns_one f x (omega (arith, i.last)));
    settled = ee ∙ anew.0;
    from = anew.1;
    empty = anew.2;
  }
    where
      -- from lo' on all are empty, and before it there is no more support than at x
      anew : (reach b x ≡ reach b lo') × (lo' ≤ x + 1) × Open f lo' (x + 1)
      anew =
          ⊎_elim
          (λ (t : eqb v 0 ≡ true). rw (el, t) (sym (no_reach (sym ev ∙ eqb-true v 0 t)), le_refl (x + 1), open_none f (x + 1)))
          (λ (t : eqb v 0 ≡ false). rw (el, t, add-zero) (refl, omega arith, open_more f x x (open_none f x) (λ z. eqb-false v 0 t (ev ∙ z))))
          (decide (eqb v 0))

  -- past the last column all leave
  pub go_end : w ≤ x → f w ≡ 0 → (r e' : ℕ) (t : List Stair) (l' : List Entry) (m' : ℕ) → t ≡ take n s → r ≡ w - 1 → e' ≡ reach b w
      → take m' l' ≡ take m l ++ leaving 0 e' r t → (c : ℕ) → c ≡ cond (ltb 0 u) 1 0
      → (take m' l' ≡ row_entries f b w) × (k + c ≡ turns f (w + 1))
  unfolding turns ended
  go_end h z r e' t l' m' et er ee out c ec =
      let q : x ≡ w = omega (arith, i.inside) in
      let c₀ : CutAt (take n s) 0 0 = record { within = omega arith; low = λ j p. absurd (omega arith); high = λ p. omega arith } in
      let out' = put_out 0 0 e' r t l' m' (sym (ap f q ∙ z)) c₀ et (ee ∙ ap (reach b) (sym q)) (er ∙ ap (λ a. a - 1) (sym q)) out in
      (rw (q, add-one) at out', rw (ec, i.fallen, i.last, q, add-one, z))

-- THE WALK MAY JUMP over d cells without a height
pub go_skip : {f : ℕ → ℕ} {b : ℕ → Bool} (bare : (k : ℕ) → f k ≡ 0 → b k ≡ false)
    {w : ℕ} {s : List Stair} {l : List Entry} {n m k e u lo x : ℕ} → Going f b w s l n m k e u lo x
    → u ≡ 0 → (d : ℕ) → 1 ≤ d → x + d ≤ w → ((k : ℕ) → x ≤ k → k < x + d → f k ≡ 0) → Going f b w s l n m k e u (x + d) (x + d)
go_skip bare i z zero one inside over = absurd (omega arith)
go_skip bare {x = x} i z (suc zero) one inside over = go_taken bare i (omega arith) z (over x (le_refl x) (omega arith))
go_skip {f} {b} bare {w} {s} {l} {n} {m} {k} {e} {u} {lo} {x} i z (suc (suc j)) one inside over =
    let q : x + 1 + suc j ≡ x + suc (suc j) = omega arith in
    subst (λ a. Going f b w s l n m k e u a a) q
    (go_skip bare {lo = x + 1} {x = x + 1} (go_taken bare i (omega arith) z (over x (le_refl x) (omega arith))) z (suc j) (omega arith) (omega arith) (λ c p r. over c (omega arith) (omega arith)))
