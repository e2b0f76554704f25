-- Laws of a slot's bytes. Assumes nothing.
use mathlib.Core.Path.{◌≡◌, refl, sym, ap, ap₂, ◌∙◌}
use mathlib.Core.Bool.{Bool, true, false, cond, not, ◌&&◌}
use mathlib.Core.Logic.{⊎_elim}
use mathlib.Core.List.{List, [], ◌++◌, append_assoc}
use Prim.Native.Nat.{ℕ, zero, suc, ◌+◌, ◌-◌, ◌*◌, ◌≤◌, ◌<◌}
use native.Mathlib.Omega.{arith}
use lib.ListN.{length, take, drop, get_or}
use lib.Seq.{sets, sets-eq, drop-drop, get_or-take, get_or-drop}
use borrow.Rule.Slice.PartMut.{put_mid, Post-is}
use lib.Dec.{eqb}
use borrow.Author.Tests.{eqb-true, eqb-false, lt-ltb, le-ltb}
use Rattle.std.specs.Prelude.{Option, Some, None, MatchOption}
use Rattle.std.specs.List.{AllWithin, HoldsAt}
use Rattle.std.specs.Simd.{first_chunks}
use Rattle.rules.specs.Surface.{byte, slots, free_slot}
use Rattle.rules.specs.Requests.{has_id}
use Rattle.rules.specs.Tests.{least}
use Rattle.meaning.proofs.Tables.{free_byte, bytes_free, Looked, look_end, look_found}
use Rattle.rules.proofs.Tests.{fails, decide, every_same}
use Rattle.table.specs.Slot.{found_below}

-- below eight there are eight
below_eight : (P : ℕ → Type 0) → P 0 → P 1 → P 2 → P 3 → P 4 → P 5 → P 6 → P 7 → (k : ℕ) → k < 8 → P k
below_eight P a b c d e f g h zero l = a
below_eight P a b c d e f g h (suc zero) l = b
below_eight P a b c d e f g h (suc (suc zero)) l = c
below_eight P a b c d e f g h (suc (suc (suc zero))) l = d
below_eight P a b c d e f g h (suc (suc (suc (suc zero)))) l = e
below_eight P a b c d e f g h (suc (suc (suc (suc (suc zero))))) l = f
below_eight P a b c d e f g h (suc (suc (suc (suc (suc (suc zero)))))) l = g
below_eight P a b c d e f g h (suc (suc (suc (suc (suc (suc (suc zero))))))) l = h
below_eight P a b c d e f g h (suc (suc (suc (suc (suc (suc (suc (suc k)))))))) l = absurd (omega arith)

-- the slot is free exactly when its bytes as one number are 0
abbrev two : List ℕ → ℕ → ℕ → ℕ
two t i k = byte t i k + 256 * byte t i (k + 1)

abbrev sum : List ℕ → ℕ → ℕ
sum t i = two t i 0 + 65536 * two t i 2 + 4294967296 * (two t i 4 + 65536 * two t i 6)

pub free_sum : (t : List ℕ) (i : ℕ) → eqb (sum t i) 0 ≡ free_slot t i
free_sum t i =
    ⊎_elim
    (λ (e : eqb (sum t i) 0 ≡ true).
    let z = eqb-true (sum t i) 0 e in
    e ∙ sym (bytes_free t i (below_eight (λ k. byte t i k ≡ 0) (omega arith) (omega arith) (omega arith) (omega arith) (omega arith) (omega arith) (omega arith) (omega arith))))
    (λ (e : eqb (sum t i) 0 ≡ false).
    let z = eqb-false (sum t i) 0 e in
    e ∙ sym (fails (free_slot t i) (λ f.
    let b = free_byte t i f in
    omega (arith, b 0 (omega arith), b 1 (omega arith), b 2 (omega arith), b 3 (omega arith), b 4 (omega arith), b 5 (omega arith), b 6 (omega arith), b 7 (omega arith)))))
    (decide (eqb (sum t i) 0))

-- ---- a record is written

-- the part that the code lends as `&mut l[at..at + m]` comes back as p, which is vs
pub part_put : (l : List ℕ) (at m : ℕ) (p vs : List ℕ) → p ≡ vs → length vs ≡ m → at + m ≤ length l → put_mid at (at + m - at) l p ≡ sets l at vs
part_put l at m p vs e n h =
    ap₂ (λ x y. take at l ++ (x ++ y)) e (Post-is at (at + m) l (omega arith) ∙ ap (λ k. drop (at + k) l) (sym n))
    ∙ sym (append_assoc (take at l) vs (drop (at + length vs) l))
    ∙ sym (sets-eq vs l at (omega arith))

-- ---- a slot is looked for

-- the slots as they stand behind one another are k
chunks : (n k : ℕ) (t : List ℕ) → length (first_chunks n k t) ≡ k
chunks n zero t = refl
chunks n (suc k) t = ap suc (chunks n k (drop n t))

-- .. and slot i of them is the bytes of slot i
chunk_at : (n k : ℕ) (t : List ℕ) (i : ℕ) → i < k → get_or (first_chunks n k t) i [] ≡ take n (drop (n * i) t)
chunk_at n zero t i l = absurd (omega arith)
chunk_at n (suc k) t zero l = ap (λ j. take n (drop j t)) (let q : 0 ≡ n * 0 = omega arith in q)
chunk_at n (suc k) t (suc i) l =
    chunk_at n k (drop n t) i (omega arith)
    ∙ ap (take n) (drop-drop (n * i) n t)
    ∙ ap (λ j. take n (drop j t)) (let q : n + n * i ≡ n * suc i = omega arith in q)

module _ (t : List ℕ) (i : ℕ) (l : i < slots t) where
  abbrev chunk : List ℕ
  chunk = get_or (first_chunks 8 (slots t) t) i []

  chunk_byte : (k : ℕ) → k < 8 → byte chunk 0 k ≡ byte t i k
  chunk_byte k h =
      ap (λ j. get_or chunk j 0) (let q : 8 * 0 + k ≡ k = omega arith in q)
      ∙ ap (λ b. get_or b k 0) (chunk_at 8 (slots t) t i l)
      ∙ get_or-take 8 (drop (8 * i) t) k 0 h
      ∙ get_or-drop (8 * i) t k 0

  pub chunk_free : free_slot chunk 0 ≡ free_slot t i
  unfolding free_slot
  chunk_free = every_same 8 _ _ (λ k h. ap (λ b. eqb b 0) (chunk_byte k h))

  pub chunk_has_id : (id : ℕ) → has_id chunk id 0 ≡ has_id t id i
  chunk_has_id id = ap₂ (λ f n. not f && eqb n id) chunk_free (ap₂ (λ a b. a + 256 * b) (chunk_byte 0 (omega arith)) (chunk_byte 1 (omega arith)))

-- what `position` tells of the slots: the first for which p holds is found
module _ (t : List ℕ) (q : List ℕ → Bool) (p : ℕ → Bool) where
  abbrev all : List (List ℕ)
  all = first_chunks 8 (slots t) t

  pub first_slot : (r : Option ℕ) → ((i : ℕ) → i < slots t → q (get_or all i []) ≡ p i) →
      MatchOption r (AllWithin (λ s. q s ≡ false) all 0 (length all)) (λ i. (i < length all) × HoldsAt (λ s. q s ≡ true) all i × AllWithin (λ s. q s ≡ false) all 0 i) →
      r ≡ found_below (slots t) (least (slots t) p)
  first_slot None same h =
      let n = slots t in
      let e = chunks 8 n t in
      let l : Looked n p n = record { upto = omega arith; none = λ k b. sym (same k b) ∙ h k [] (omega arith) (omega (arith, e)) } in
      sym (ap (found_below n) (sym (look_end n p n l (omega arith))) ∙ ap (λ b. cond b (Some n) None) (le-ltb n n (omega arith)))
  first_slot (Some i) same h =
      let n = slots t in
      let e = chunks 8 n t in
      let b : i < n = omega (arith, e, h.0) in
      let l : Looked n p i = record { upto = omega arith; none = λ k a. sym (same k (omega arith)) ∙ h.2 k [] (omega arith) a } in
      sym (ap (found_below n) (sym (look_found n p i l b refl (sym (same i b) ∙ h.1 []))) ∙ ap (λ b. cond b (Some i) None) (lt-ltb i n b))
