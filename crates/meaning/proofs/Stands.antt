-- What a surface that stands tells, test by test, and what makes a surface stand. Assumes nothing.
use mathlib.Core.Path.{◌≡◌, sym, ap, ◌∙◌, subst, ap₂}
use mathlib.Core.Bool.{Bool, true, false, not, ◌&&◌, ◌||◌, true≢false}
use mathlib.Core.List.{List}
use Prim.Native.Nat.{ℕ, ◌+◌, ◌*◌, ◌≤◌, ◌<◌}
use native.Mathlib.Omega.{arith}
use borrow.Author.Tests.{leb-true, le-leb, eqb-true, eq-eqb, not-true}
use lib.Dec.{leb, eqb}
use lib.IntN.{ℤ}
use lib.ListN.{length}
use Rattle.rules.specs.Tests.{every}
use Rattle.rules.specs.Surface.{slots, id_of, rect_of, kind_known, spare_zero, free_slot, used_slot, holds, occupied, holder, fresh, sound_slot, slots_sound, ids_differ, modules_apart, stands, Sides, Standing}
use Rattle.rules.proofs.Tests.{and_left, and_right, and_both, and_four, four_and, or_left, or_right, fails, not_both, every_at, every_yes}
use Rattle.meaning.proofs.Splits.{by_test, by_or, by_less, by_same}
use Rattle.meaning.proofs.Weights.{number_few, holds_used, holder_low, holder_holds, stands_cell, stands_slots, stands_ids, stands_apart, fresh_long, fresh_of, right_fresh}
use Rattle.meaning.specs.Column.{number_at}
use Rattle.meaning.specs.Change.{On}
use Rattle.meaning.proofs.Tables.{Alike, alike_slots, alike_free, alike_id, alike_holds, alike_sound}

-- ---- a slot is sound

pub record Sound (W H : ℕ) (t : List ℕ) (i : ℕ) : Type 0 where
  pub id : 1 ≤ id_of t i
  pub place : On W H (rect_of t i)
  pub kind : kind_known t i ≡ true
  pub spare : spare_zero t i ≡ true

module _ (W H : ℕ) (t : List ℕ) where
  pub sound_told : (i : ℕ) → sound_slot W H t i ≡ true → Sound W H t i
  unfolding sound_slot
  sound_told i e =
      let r = rect_of t i in
      let g = and_four (leb 1 (id_of t i) && leb 1 r.w && leb 1 r.h && leb (r.x + r.w) W) (leb (r.y + r.h) H) (kind_known t i) (spare_zero t i) e in
      let f = and_four (leb 1 (id_of t i)) (leb 1 r.w) (leb 1 r.h) (leb (r.x + r.w) W) g.0 in
      record {
        id = leb-true _ _ f.0;
        place = record { wide = leb-true _ _ f.1; tall = leb-true _ _ f.2; columns = leb-true _ _ f.3; lines = leb-true _ _ g.1 };
        kind = g.2;
        spare = g.3;
      }

  pub told_sound : (i : ℕ) → Sound W H t i → sound_slot W H t i ≡ true
  unfolding sound_slot
  told_sound i s =
      four_and (four_and (le-leb _ _ s.id) (le-leb _ _ s.place.wide) (le-leb _ _ s.place.tall) (le-leb _ _ s.place.columns)) (le-leb _ _ s.place.lines) s.kind s.spare

  -- every slot is free or sound
  pub slots_told : slots_sound W H t ≡ true → (i : ℕ) → i < slots t → free_slot t i ≡ false → sound_slot W H t i ≡ true
  unfolding slots_sound
  slots_told e i l f =
      by_or (free_slot t i) (sound_slot W H t i) (every_at (slots t) (λ i. free_slot t i || sound_slot W H t i) e i l) (λ q. not_both (free_slot t i) q f) (λ q. q)

  pub told_slots : ((i : ℕ) → i < slots t → free_slot t i ≡ false → sound_slot W H t i ≡ true) → slots_sound W H t ≡ true
  unfolding slots_sound
  told_slots h =
      every_yes (slots t) (λ i. free_slot t i || sound_slot W H t i)
      (λ i l. by_test (free_slot t i) (or_left (free_slot t i) (sound_slot W H t i)) (λ q. or_right (free_slot t i) (sound_slot W H t i) (h i l q)))

-- ---- no two

-- the test of every two, each pair looked at once, and what it says of any two
module _ (n : ℕ) (p : ℕ → ℕ → Bool) where
  pub pairs_told : ((i j : ℕ) → p i j ≡ true → p j i ≡ true) → every n (λ j. every j (λ i. not (p i j))) ≡ true → (i j : ℕ) → i < n → j < n → (i ≡ j → ⊥) → p i j ≡ false
  pairs_told turn e i j a b ne = by_less i j (λ l. below i j l b) (λ l. fails (p i j) (λ q. true≢false (sym (turn i j q) ∙ below j i (omega arith) a)))
    where
      below : (i j : ℕ) → i < j → j < n → p i j ≡ false
      below i j l b = not-true (p i j) (every_at j (λ i. not (p i j)) (every_at n (λ j. every j (λ i. not (p i j))) e j b) i l)

  pub told_pairs : ((i j : ℕ) → i < j → j < n → p i j ≡ false) → every n (λ j. every j (λ i. not (p i j))) ≡ true
  told_pairs h = every_yes n _ (λ j b. every_yes j _ (λ i l. ap not (h i j l b)))

module _ (t : List ℕ) where
  -- slots i and j are used and have the same id
  abbrev pub same_id : ℕ → ℕ → Bool
  same_id i j = used_slot t i && used_slot t j && eqb (id_of t i) (id_of t j)

  pub same_told : (i j : ℕ) → same_id i j ≡ true → (used_slot t i ≡ true) × (used_slot t j ≡ true) × (id_of t i ≡ id_of t j)
  same_told i j q =
      let f = and_left (used_slot t i && used_slot t j) (eqb (id_of t i) (id_of t j)) q in (
        and_left (used_slot t i) (used_slot t j) f,
        and_right (used_slot t i) (used_slot t j) f,
        eqb-true (id_of t i) (id_of t j) (and_right (used_slot t i && used_slot t j) (eqb (id_of t i) (id_of t j)) q),
      )

  -- so are j and i
  pub same_turn : (i j : ℕ) → same_id i j ≡ true → same_id j i ≡ true
  same_turn i j q =
      let w = same_told i j q in
      and_both (and_both w.1 w.0) (eq-eqb (id_of t j) (id_of t i) (sym w.2))

  pub ids_told : ids_differ t ≡ true → (i j : ℕ) → i < slots t → j < slots t → (i ≡ j → ⊥) → same_id i j ≡ false
  unfolding ids_differ
  ids_told e = pairs_told (slots t) same_id same_turn e

  pub told_ids : ((i j : ℕ) → i < j → j < slots t → same_id i j ≡ false) → ids_differ t ≡ true
  unfolding ids_differ
  told_ids h = told_pairs (slots t) same_id h

pub and_turn : (a b : Bool) → (a && b) ≡ true → (b && a) ≡ true
and_turn a b q = and_both (and_right a b q) (and_left a b q)

module _ (W H : ℕ) (t : List ℕ) where
  pub apart_told : modules_apart W H t ≡ true → (x y : ℕ) → x < W → y < H → (i j : ℕ) → i < slots t → j < slots t → (i ≡ j → ⊥) → (holds t x y i && holds t x y j) ≡ false
  unfolding modules_apart
  apart_told e x y hx hy =
      let row = every_at H (λ y. every W (λ x. every (slots t) (λ j. every j (λ i. not (holds t x y i && holds t x y j))))) e y hy in
      pairs_told (slots t) (λ i j. holds t x y i && holds t x y j)
      (λ i j. and_turn (holds t x y i) (holds t x y j))
      (every_at W (λ x. every (slots t) (λ j. every j (λ i. not (holds t x y i && holds t x y j)))) row x hx)

  pub told_apart : ((x y : ℕ) → x < W → y < H → (i j : ℕ) → i < j → j < slots t → (holds t x y i && holds t x y j) ≡ false) → modules_apart W H t ≡ true
  unfolding modules_apart
  told_apart h = every_yes H _ (λ y hy. every_yes W _ (λ x hx. told_pairs (slots t) (λ i j. holds t x y i && holds t x y j) (h x y hx hy)))

-- ---- the weights

-- THE WEIGHTS OF A SURFACE THAT STANDS ARE THE FRESH ONES
pub standing_fresh : (W H : ℕ) (s : List ℤ) (t : List ℕ) → Standing W H s t → s ≡ fresh W H t
standing_fresh W H s t d = fresh_of W H t s d.sides.wide d.long (λ c r hc hr. stands_cell W H s t d.sound c r hc hr)

-- a table that is sound, of a surface with sizes that are right
pub record SoundTable (W H : ℕ) (t : List ℕ) : Type 0 where
  pub sides : Sides W H
  pub whole : length t ≡ 8 * slots t
  pub some : 1 ≤ slots t
  pub few : slots t ≤ 256
  pub slots_are : slots_sound W H t ≡ true
  pub ids_are : ids_differ t ≡ true
  pub modules_are : modules_apart W H t ≡ true

-- AND A SURFACE WITH A SOUND TABLE AND THE FRESH WEIGHTS STANDS
pub fresh_standing : (W H : ℕ) (t : List ℕ) → SoundTable W H t → Standing W H (fresh W H t) t
unfolding stands
fresh_standing W H t d =
    record {
      sides = d.sides;
      long = fresh_long W H t;
      whole = d.whole;
      some = d.some;
      few = d.few;
      sound = four_and d.slots_are d.ids_are d.modules_are (right_fresh W H t);
    }

pub standing_of : (W H : ℕ) (s : List ℤ) (t : List ℕ) → SoundTable W H t → s ≡ fresh W H t → Standing W H s t
standing_of W H s t d e = subst (λ l. Standing W H l t) (sym e) (fresh_standing W H t d)

pub standing_table : (W H : ℕ) (s : List ℤ) (t : List ℕ) → Standing W H s t → SoundTable W H t
standing_table W H s t d =
    record {
      sides = d.sides;
      whole = d.whole;
      some = d.some;
      few = d.few;
      slots_are = stands_slots W H s t d.sound;
      ids_are = stands_ids W H s t d.sound;
      modules_are = stands_apart W H s t d.sound;
    }

-- on a surface that stands 16 bits hold the number of an occupied cell
pub number_fits : (W H : ℕ) (s : List ℤ) (t : List ℕ) → Standing W H s t → (x y : ℕ) → occupied t x y ≡ true → number_at t x y ≤ 256
number_fits W H s t d x y e =
    let i = holder t x y in
    let used = not-true (free_slot t i) (holds_used t x y i (holder_holds t x y e)) in
    let low = holder_low t x y e in
    let p = (sound_told W H t i (slots_told W H t (standing_table W H s t d).slots_are i low used)).place in
    number_few i (rect_of t i) x (omega (arith, d.few)) (omega (arith, p.columns, d.sides.widest))

-- ==== A SOUND TABLE OF WHICH ONE SLOT IS WRITTEN IS SOUND IF THAT SLOT IS, beside the others

-- p holds for no two if it holds for none with i, and for no two others
no_two :
    (n i : ℕ) (p : ℕ → ℕ → Bool) → ((a b : ℕ) → p a b ≡ true → p b a ≡ true)
    → ((j : ℕ) → j < n → (j ≡ i → ⊥) → p i j ≡ false)
    → ((a b : ℕ) → a < n → b < n → (a ≡ b → ⊥) → (a ≡ i → ⊥) → (b ≡ i → ⊥) → p a b ≡ false)
    → (a b : ℕ) → a < b → b < n → p a b ≡ false
no_two n i p turn it others a b l h =
    by_same a i (λ q. ap (λ k. p k b) q ∙ it b h (λ z. omega arith)) (λ na.
    by_same b i
    (λ q. fails (p a b) (λ e. true≢false (sym (turn a b e) ∙ ap (λ k. p k a) q ∙ it a (omega arith) na)))
    (λ nb. others a b (omega arith) h (λ z. omega arith) na nb))

module _ (W H : ℕ) (t u : List ℕ) (i : ℕ) (d : SoundTable W H t) (a : Alike t u i) where
  sound_too : (free_slot u i ≡ false → sound_slot W H u i ≡ true) → (j : ℕ) → j < slots u → free_slot u j ≡ false → sound_slot W H u j ≡ true
  sound_too it j l f =
      by_same j i
      (λ q. ap (sound_slot W H u) q ∙ it (sym (ap (free_slot u) q) ∙ f))
      (λ ne. alike_sound a j ne W H ∙ slots_told W H t d.slots_are j (omega (arith, alike_slots a)) (sym (alike_free a j ne) ∙ f))

  same_too : (j k : ℕ) → (j ≡ i → ⊥) → (k ≡ i → ⊥) → same_id u j k ≡ same_id t j k
  same_too j k nj nk =
      ap₂ (λ f g. not f && not g && eqb (id_of u j) (id_of u k)) (alike_free a j nj) (alike_free a k nk)
      ∙ ap₂ (λ d e. used_slot t j && used_slot t k && eqb d e) (alike_id a j nj) (alike_id a k nk)

  pub written_sound :
      (free_slot u i ≡ false → sound_slot W H u i ≡ true)
      → ((j : ℕ) → j < slots u → (j ≡ i → ⊥) → same_id u i j ≡ false)
      → ((x y : ℕ) → (j : ℕ) → j < slots u → (j ≡ i → ⊥) → (holds u x y i && holds u x y j) ≡ false)
      → SoundTable W H u
  written_sound it id place =
      let n = alike_slots a in
      record {
        sides = d.sides;
        whole = a.long ∙ d.whole ∙ ap (λ k. 8 * k) (sym n);
        some = omega (arith, n, d.some);
        few = omega (arith, n, d.few);
        slots_are = told_slots W H u (sound_too it);
        ids_are = told_ids u (no_two (slots u) i (same_id u) (same_turn u) id (λ j k lj lk ne nj nk.
            same_too j k nj nk ∙ ids_told t d.ids_are j k (omega arith) (omega arith) ne));
        modules_are = told_apart W H u (λ x y hx hy. no_two (slots u) i (λ j k. holds u x y j && holds u x y k) (λ j k. and_turn (holds u x y j) (holds u x y k)) (place x y) (λ j k lj lk ne nj nk.
            ap₂ ◌&&◌ (alike_holds a j nj x y) (alike_holds a k nk x y)
            ∙ apart_told W H t d.modules_are x y hx hy j k (omega arith) (omega arith) ne));
      }
