-- Slots after a record is written: the slot has the new bytes, every other slot is as before. Assumes nothing.
use mathlib.Core.Path.{◌≡◌, refl, sym, ap, ap₂, ◌∙◌}
use mathlib.Core.Bool.{not, ◌&&◌, Bool, true, false}
use mathlib.Core.List.{List, [], ◌∷◌}
use Prim.Native.Nat.{ℕ, zero, suc, ◌+◌, ◌*◌, ◌/◌, ◌≤◌, ◌<◌}
use native.Mathlib.Omega.{arith}
use lib.Dec.{leb, eqb, ltb}
use lib.ListN.{length, get_or, set, length-set}
use lib.Seq.{get_or-set_same, get_or-set_other, sets, length-sets}
use Rattle.rules.specs.Surface.{covers, slots, byte, id_of, rect_of, kind_of, spare_zero, free_slot, with_record, holds, sound_slot, used_slot}
use Rattle.rules.proofs.Tests.{every_same, least_is, any_yes, none_any, and_left, and_right, not_both, every_at, every_yes}
use Rattle.meaning.proofs.Splits.{by_less}
use borrow.Author.Count.{below_more}
use borrow.Author.Tests.{lt-ltb, le-ltb, eqb-true, not-true, eq-eqb}
use Rattle.rules.specs.Tests.{any, least}
use Rattle.rules.specs.Requests.{has_id, id_placed, slot_of, some_free, lowest_free}

-- a free slot's bytes are zero
pub free_byte : (t : List ℕ) (i : ℕ) → free_slot t i ≡ true → (k : ℕ) → k < 8 → byte t i k ≡ 0
unfolding free_slot
free_byte t i e k h = eqb-true (byte t i k) 0 (every_at 8 (λ k. eqb (byte t i k) 0) e k h)

pub bytes_free : (t : List ℕ) (i : ℕ) → ((k : ℕ) → k < 8 → byte t i k ≡ 0) → free_slot t i ≡ true
unfolding free_slot
bytes_free t i h = every_yes 8 (λ k. eqb (byte t i k) 0) (λ k l. eq-eqb (byte t i k) 0 (h k l))

-- ---- a run of stores

module _ {A : Type 0} (d : A) where
  pub sets_low : (vs l : List A) (i j : ℕ) → j < i → get_or (sets l i vs) j d ≡ get_or l j d
  sets_low [] l i j h = refl
  sets_low (a ∷ vs) l i j h = sets_low vs (set l i a) (suc i) j (omega arith) ∙ get_or-set_other l i j a d (λ e. omega arith)

  pub sets_high : (vs l : List A) (i j : ℕ) → i + length vs ≤ j → get_or (sets l i vs) j d ≡ get_or l j d
  sets_high [] l i j h = refl
  sets_high (a ∷ vs) l i j h = sets_high vs (set l i a) (suc i) j (omega arith) ∙ get_or-set_other l i j a d (λ e. omega arith)

  pub sets_in : (vs l : List A) (i k : ℕ) → k < length vs → i + length vs ≤ length l → get_or (sets l i vs) (i + k) d ≡ get_or vs k d
  sets_in [] l i k h f = absurd (omega arith)
  sets_in (a ∷ vs) l i zero h f =
      ap (λ n. get_or (sets (set l i a) (suc i) vs) n d) (let q : i + 0 ≡ i = omega arith in q)
      ∙ sets_low vs (set l i a) (suc i) i (omega arith)
      ∙ get_or-set_same l i a d (omega arith)
  sets_in (a ∷ vs) l i (suc k) h f =
      ap (λ n. get_or (sets (set l i a) (suc i) vs) n d) (let q : i + suc k ≡ suc i + k = omega arith in q)
      ∙ sets_in vs (set l i a) (suc i) k (omega arith) (omega (arith, length-set l i a))

-- ---- tables that differ in one slot

-- u is as long as t and has t's bytes outside slot i
pub record Alike (t u : List ℕ) (i : ℕ) : Type 0 where
  pub long : length u ≡ length t
  pub bytes : (j k : ℕ) → (j ≡ i → ⊥) → k < 8 → byte u j k ≡ byte t j k

pub alike_back : {t u : List ℕ} {i : ℕ} → Alike t u i → Alike u t i
alike_back a = record { long = sym a.long; bytes = λ j k ne l. sym (a.bytes j k ne l) }

module _ {t u : List ℕ} {i : ℕ} (a : Alike t u i) where
  pub alike_slots : slots u ≡ slots t
  alike_slots = ap (λ n. n / 8) a.long

  module _ (j : ℕ) (ne : j ≡ i → ⊥) where
    pub alike_free : free_slot u j ≡ free_slot t j
    unfolding free_slot
    alike_free = every_same 8 _ _ (λ k l. ap (λ b. eqb b 0) (a.bytes j k ne l))

    pub alike_rect : rect_of u j ≡ rect_of t j
    alike_rect = rw (a.bytes j 2 ne (omega arith), a.bytes j 3 ne (omega arith), a.bytes j 4 ne (omega arith), a.bytes j 5 ne (omega arith))

    pub alike_id : id_of u j ≡ id_of t j
    alike_id = ap₂ (λ l h. l + 256 * h) (a.bytes j 0 ne (omega arith)) (a.bytes j 1 ne (omega arith))

    pub alike_kind : kind_of u j ≡ kind_of t j
    alike_kind = a.bytes j 6 ne (omega arith)

    alike_spare : spare_zero u j ≡ spare_zero t j
    alike_spare = ap (λ b. eqb b 0) (a.bytes j 7 ne (omega arith))

    pub alike_holds : (x y : ℕ) → holds u x y j ≡ holds t x y j
    unfolding holds
    alike_holds x y = ap₂ (λ f r. not f && covers r x y) alike_free alike_rect

    pub alike_sound : (W H : ℕ) → sound_slot W H u j ≡ sound_slot W H t j
    unfolding sound_slot
    alike_sound W H =
        ap₂ ◌&&◌
        (ap₂ (λ a k. a && leb k 1) (ap₂ (λ d r. leb 1 d && leb 1 r.w && leb 1 r.h && leb (r.x + r.w) W && leb (r.y + r.h) H) alike_id alike_rect) alike_kind)
        alike_spare

-- ---- a record is written

module _ (t : List ℕ) (i : ℕ) (r : List ℕ) (eight : length r ≡ 8) (fits : 8 * i + 8 ≤ length t) where
  pub record_byte : (k : ℕ) → k < 8 → byte (with_record t i r) i k ≡ get_or r k 0
  record_byte k l = sets_in 0 r t (8 * i) k (omega arith) (omega arith)

  pub record_alike : Alike t (with_record t i r) i
  record_alike =
      record {
        long = length-sets t (8 * i) r;
        bytes = λ j k ne l.
            by_less j i (λ lo. sets_low 0 r t (8 * i) (8 * j + k) (omega arith)) (λ hi. sets_high 0 r t (8 * i) (8 * j + k) (omega arith));
      }

-- ==== slots that are looked for

module _ (n : ℕ) (p : ℕ → Bool) where
  -- the walk has come to i: p holds for none before it
  pub record Looked (i : ℕ) : Type 0 where
    pub upto : i ≤ n
    pub none : (k : ℕ) → k < i → p k ≡ false

  pub look_none : Looked 0
  look_none = record { upto = omega arith; none = λ k l. absurd (omega arith) }

  pub look_more : (i : ℕ) {b : Bool} → Looked i → i < n → b ≡ p i → b ≡ false → Looked (i + 1)
  look_more i w l e f = record { upto = omega arith; none = below_more _ i w.none (sym e ∙ f) }

  pub look_found : (i : ℕ) {b : Bool} → Looked i → i < n → b ≡ p i → b ≡ true → i ≡ least n p
  look_found i d l e f =
      let w = least_is n p in
      by_less (least n p) i
      (λ a. not_both (p (least n p)) (w.here (omega arith)) (d.none (least n p) a))
      (λ a. by_less i (least n p) (λ b. not_both (p i) (sym e ∙ f) (w.before i (omega arith) b)) (λ b. omega arith))

  pub look_end : (i : ℕ) → Looked i → n ≤ i → n ≡ least n p
  look_end i d e =
      let w = least_is n p in
      by_less (least n p) n
      (λ a. not_both (p (least n p)) (w.here (omega arith)) (d.none (least n p) (omega arith)))
      (λ a. let u : least n p ≤ 0 + n = w.upto in omega arith)

  -- it is below n exactly when there is one
  pub least_any : ltb (least n p) n ≡ any n p
  least_any =
      let w = least_is n p in
      by_less (least n p) n
      (λ a. lt-ltb (least n p) n a ∙ sym (any_yes n p (least n p) a (w.here (omega arith))))
      (λ a. le-ltb (least n p) n a ∙ sym (none_any n p (λ k l. w.before k (omega arith) (omega arith))))

module _ (t : List ℕ) where
  -- AN ID IS PLACED EXACTLY WHEN ITS SLOT IS ONE OF THE TABLE'S, AND THAT SLOT HAS IT
  pub slot_placed : (id : ℕ) → ltb (slot_of t id) (slots t) ≡ id_placed t id
  unfolding slot_of id_placed
  slot_placed id = least_any (slots t) (has_id t id)

  pub slot_has : (id : ℕ) → slot_of t id < slots t → (free_slot t (slot_of t id) ≡ false) × (id_of t (slot_of t id) ≡ id)
  unfolding slot_of
  slot_has id l =
      let e = (least_is (slots t) (has_id t id)).here (omega arith) in
      let j = slot_of t id in
      (not-true (free_slot t j) (and_left (used_slot t j) (eqb (id_of t j) id) e), eqb-true (id_of t j) id (and_right (used_slot t j) (eqb (id_of t j) id) e))

  -- A SLOT IS FREE EXACTLY WHEN THE LOWEST FREE ONE IS ONE OF THE TABLE'S, AND THAT SLOT IS FREE
  pub lowest_some : ltb (lowest_free t) (slots t) ≡ some_free t
  unfolding lowest_free some_free
  lowest_some = least_any (slots t) (free_slot t)

  pub lowest_is : lowest_free t < slots t → free_slot t (lowest_free t) ≡ true
  unfolding lowest_free
  lowest_is l = (least_is (slots t) (free_slot t)).here (omega arith)
