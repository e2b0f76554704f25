-- What the tests of slots and ids tell. Assumes nothing.
use mathlib.Core.Path.{◌≡◌, refl, sym, ap, ◌∙◌, subst}
use mathlib.Core.Bool.{Bool, true, false, ◌&&◌, ◌||◌, or-false, true≢false}
use mathlib.Core.Logic.{⊎_elim}
use mathlib.Core.List.{List}
use Prim.Native.Nat.{ℕ, zero, suc, ◌+◌, ◌*◌, ◌≤◌, ◌<◌}
use native.Mathlib.Nat.{eq-or-lt_of_le}
use native.Mathlib.Numerals.{add-one}
use native.Mathlib.Omega.{arith}
use lib.Dec.{leb, eqb}
use lib.ListN.{length, get_or, set, take}
use lib.Seq.{get_or-set_same, get_or-set_other, get_or-take, length-take-le}
use Rattle.std.proofs.lemmas.Bool.Decides.{nat_tests}
use borrow.Author.Count.{below_more}
use borrow.Author.Tests.{eq-eqb, not-true}
use Rattle.rules.specs.Tests.{any, total, count}
use Rattle.rules.specs.Surface.{slots, byte, id_of, kind_of, kind_known, spare_zero, free_slot, used_slot, sound_slot, slots_sound, ids_differ, modules_apart}
use Rattle.rules.specs.declared.Rect.{Rect}
use Rattle.rules.specs.Requests.{has_id}
use Rattle.rules.proofs.Tests.{and_left, and_right, and_both, fails, not_both, every_yes, any_at, any_yes, any_same}
use Rattle.meaning.proofs.Stands.{slots_told, same_id, same_told, ids_told, told_ids}
use Rattle.surface.specs.Slots.{Gathered, table_stands}

-- ---- a sound slot

-- the kind and the spare byte as one number: at most 1 exactly when both are right
pub kind_and_spare : (t : List ℕ) (i n : ℕ) → n ≡ kind_of t i + 256 * byte t i 7 → leb n 1 ≡ (kind_known t i && spare_zero t i)
kind_and_spare t i n e = grind (arith, nat_tests)

-- a rectangle that was read, side by side with its bytes
pub read_rect : {r q : Rect} → r ≡ q → (r.x ≡ q.x) × (r.y ≡ q.y) × (r.w ≡ q.w) × (r.h ≡ q.h)
read_rect e = (ap (λ (r : Rect). r.x) e, ap (λ (r : Rect). r.y) e, ap (λ (r : Rect). r.w) e, ap (λ (r : Rect). r.h) e)

-- ---- one number more

pub any_hit : (n : ℕ) (p : ℕ → Bool) → p n ≡ true → any (n + 1) p ≡ true
any_hit n p e = any_yes (n + 1) p n (omega arith) e

pub any_miss : (n : ℕ) (p : ℕ → Bool) → p n ≡ false → any (n + 1) p ≡ any n p
unfolding any
any_miss n p e = rw (add-one n, e) (or-false (any n p))

pub count_hit : (n : ℕ) (p : ℕ → Bool) → p n ≡ true → count (n + 1) p ≡ count n p + 1
unfolding total
count_hit n p e = rw (add-one n, e)

pub count_miss : (n : ℕ) (p : ℕ → Bool) → p n ≡ false → count (n + 1) p ≡ count n p
unfolding total
count_miss n p e = rw (add-one n, e) (let q : count n p + 0 ≡ count n p = omega arith in q)

pub count_mono : (i j : ℕ) (p : ℕ → Bool) → i ≤ j → count i p ≤ count j p
unfolding total
count_mono i zero p h = let e : i ≡ 0 = omega arith in rw e (omega arith)
count_mono i (suc j) p h =
    ⊎_elim
    (λ (e : i ≡ suc j). rw e (omega arith))
    (λ (l : i < suc j). let c = count_mono i j p (omega arith) in omega arith)
    (eq-or-lt_of_le h)

-- ---- the first n ids

module _ (ids : List ℕ) (n : ℕ) (h : n ≤ length ids) where
  pub any_part : (id : ℕ) → any (length (take n ids)) (λ k. eqb (get_or (take n ids) k 0) id) ≡ any n (λ k. eqb (get_or ids k 0) id)
  any_part id = ap (λ m. any m (λ k. eqb (get_or (take n ids) k 0) id)) (length-take-le n ids h) ∙ any_same n _ _ (λ k a. ap (λ v. eqb v id) (get_or-take n ids k 0 a))

-- ---- the used slots side by side

pub gather_none : (t u : List ℕ) → Gathered t u 0 0
unfolding total
gather_none t u = record { many = refl; low = λ k h. absurd (omega arith); used = λ k h. absurd (omega arith); before = λ k h. absurd (omega arith) }

pub gather_miss : (t u : List ℕ) (i n : ℕ) → Gathered t u i n → used_slot t i ≡ false → (u' : List ℕ) (n' : ℕ) → u' ≡ u → n' ≡ n → Gathered t u' (i + 1) n'
gather_miss t u i n g e u' n' p q = subst (λ k. Gathered t u' (i + 1) k) (sym q) (subst (λ v. Gathered t v (i + 1) n) (sym p) (record {
  many = g.many ∙ sym (count_miss i (used_slot t) e);
  low = λ k h. let l = g.low k h in omega arith;
  used = g.used;
  before = g.before;
}))

pub gather_hit : (t u : List ℕ) (i n : ℕ) → Gathered t u i n → used_slot t i ≡ true → n < length u → (u' : List ℕ) (n' : ℕ) → u' ≡ set u n i → n' ≡ n + 1 → Gathered t u' (i + 1) n'
gather_hit t u i n g e l u' n' p q = subst (λ k. Gathered t u' (i + 1) k) (sym q) (subst (λ v. Gathered t v (i + 1) (n + 1)) (sym p) (record {
  many = ap (λ k. k + 1) g.many ∙ sym (count_hit i (used_slot t) e);
  low = all (λ j k. j < i + 1) (λ k h. let q = g.low k h in omega arith) (omega arith);
  used = all (λ j k. used_slot t j ≡ true) g.used e;
  before = all (λ j k. count j (used_slot t) ≡ k) g.before (sym g.many);
}))
  where
    -- what holds of the numbers there were and of the new one
    all : (P : ℕ → ℕ → Type 0) → ((k : ℕ) → k < n → P (get_or u k 0) k) → P i n → (k : ℕ) → k < n + 1 → P (get_or (set u n i) k 0) k
    all P f p =
        below_more (λ k. P (get_or (set u n i) k 0) k) n
        (λ k h. subst (λ j. P j k) (sym (get_or-set_other u n k i 0 (λ q. omega arith))) (f k h))
        (subst (λ j. P j n) (sym (get_or-set_same u n i 0 l)) p)

-- the buffer as far as it was filled
pub gathered_part : (t u : List ℕ) (i n : ℕ) → Gathered t u i n → n ≤ length u → Gathered t (take n u) i (length (take n u))
gathered_part t u i n g h = subst (λ k. Gathered t (take n u) i k) (sym (length-take-le n u h)) (record {
  many = g.many;
  low = λ k l. omega (arith, get_or-take n u k 0 l, g.low k l);
  used = λ k l. rw (get_or-take n u k 0 l) (g.used k l);
  before = λ k l. rw (get_or-take n u k 0 l) (g.before k l);
})

-- ---- what makes a table fall

module _ (W H : ℕ) (t : List ℕ) where
  table_parts : table_stands W H t ≡ true → (slots_sound W H t ≡ true) × (ids_differ t ≡ true) × (modules_apart W H t ≡ true)
  unfolding table_stands
  table_parts z =
      let f = and_left (slots_sound W H t && ids_differ t) (modules_apart W H t) z in
      (and_left (slots_sound W H t) (ids_differ t) f, and_right (slots_sound W H t) (ids_differ t) f, and_right (slots_sound W H t && ids_differ t) (modules_apart W H t) z)

  pub falls_unsound : (i : ℕ) → i < slots t → used_slot t i ≡ true → sound_slot W H t i ≡ false → table_stands W H t ≡ false
  falls_unsound i h u e = fails _ (λ z. not_both _ (slots_told W H t (table_parts z).0 i h (not-true (free_slot t i) u)) e)

  pub falls_alike : (j : ℕ) → j < slots t → used_slot t j ≡ true → any j (has_id t (id_of t j)) ≡ true → table_stands W H t ≡ false
  falls_alike j h u a =
      let w = any_at j (has_id t (id_of t j)) a in
      let used = and_left (used_slot t w.0) (eqb (id_of t w.0) (id_of t j)) w.2 in
      let same = and_right (used_slot t w.0) (eqb (id_of t w.0) (id_of t j)) w.2 in
      fails _ (λ z. not_both (same_id t w.0 j) (and_both (and_both used u) same) (ids_told t (table_parts z).1 w.0 j (omega (arith, w.1)) h (λ q. omega (arith, w.1))))

  pub falls_shared : modules_apart W H t ≡ false → table_stands W H t ≡ false
  falls_shared q = fails _ (λ z. not_both _ (table_parts z).2 q)

  -- and what lets it stand
  pub table_stands_lem : ((j : ℕ) → j < slots t → (free_slot t j || sound_slot W H t j) ≡ true) → ((j : ℕ) → j < slots t → used_slot t j ≡ true → any j (has_id t (id_of t j)) ≡ false) → modules_apart W H t ≡ true → table_stands W H t ≡ true
  unfolding table_stands slots_sound
  table_stands_lem s d m = and_both (and_both (every_yes (slots t) (λ i. free_slot t i || sound_slot W H t i) s) (told_ids t alone)) m
    where
      alone : (i j : ℕ) → i < j → j < slots t → same_id t i j ≡ false
      alone i j l h =
          fails (same_id t i j) (λ c.
          let w = same_told t i j c in
          true≢false (sym (any_yes j (has_id t (id_of t j)) i l (and_both w.0 (eq-eqb (id_of t i) (id_of t j) w.2))) ∙ d j h w.1))
