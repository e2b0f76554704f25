-- A CLEARED SURFACE STANDS. (That one stands after every request: `after_by_stands`, meaning/proofs/Steps.) Assumes nothing.
use mathlib.Core.Path.{◌≡◌, refl, sym, ap, ap₂, ◌∙◌}
use mathlib.Core.Bool.{Bool, true, false, not, ◌&&◌, true≢false}
use mathlib.Core.List.{List, ◌∷◌}
use Prim.Native.Nat.{ℕ, zero, suc, ◌+◌, ◌*◌, ◌/◌, ◌%◌}
use native.Mathlib.Omega.{arith}
use lib.Dec.{eqb}
use lib.IntN.{pos}
use lib.ListN.{length, get_or, replicate, length-replicate}
use Rattle.rules.specs.Tests.{tab_from}
use Rattle.rules.specs.Surface.{Standing, slots, id_of, rect_of, free_slot, covers, holds, occupied, upwards, weight, fresh}
use Rattle.rules.specs.Calls.{clear_code, clear_lines, cleared_table, cleared_weights}
use Rattle.rules.proofs.Tests.{none_any}
use Rattle.meaning.proofs.Weights.{weight_empty}
use Rattle.meaning.proofs.Tables.{bytes_free}
use Rattle.meaning.proofs.Stands.{told_slots, told_ids, told_apart, standing_of}
use Rattle.meaning.proofs.Codes.{good}

zero_byte : (n k : ℕ) → ◌≡◌ {A = ℕ} (get_or (replicate n 0) k 0) 0
zero_byte zero k = refl
zero_byte (suc n) zero = refl
zero_byte (suc n) (suc k) = zero_byte n k

module _ (t : List ℕ) where
  pub cleared_free : (i : ℕ) → free_slot (cleared_table t) i ≡ true
  cleared_free i = bytes_free (cleared_table t) i (λ k l. zero_byte (length t) (8 * i + k))

  pub cleared_holds : (x y i : ℕ) → holds (cleared_table t) x y i ≡ false
  unfolding holds
  cleared_holds x y i = ap (λ f. not f && covers (rect_of (cleared_table t) i) x y) (cleared_free i)

  pub cleared_empty : (x y : ℕ) → occupied (cleared_table t) x y ≡ false
  unfolding occupied
  cleared_empty x y = none_any (slots (cleared_table t)) (holds (cleared_table t) x y) (λ i l. cleared_holds x y i)

  cleared_upwards : (x y : ℕ) → upwards (occupied (cleared_table t)) x y ≡ y + 1
  unfolding upwards
  cleared_upwards x zero = rw (cleared_empty x 0)
  cleared_upwards x (suc y) = rw (cleared_empty x (suc y)) (let z = cleared_upwards x y in omega arith)

  cleared_weight : (x y : ℕ) → weight (cleared_table t) x y ≡ pos (y + 1)
  cleared_weight x y = weight_empty (cleared_table t) x y (cleared_empty x y) ∙ ap pos (cleared_upwards x y)

tab_same : {A : Type 0} (f g : ℕ → A) → ((k : ℕ) → f k ≡ g k) → (a n : ℕ) → tab_from a n f ≡ tab_from a n g
unfolding tab_from
tab_same f g h a zero = refl
tab_same f g h a (suc n) = ap₂ ◌∷◌ (h a) (tab_same f g h (suc a) n)

cleared_fresh : (W H : ℕ) (t : List ℕ) → cleared_weights W H ≡ fresh W H (cleared_table t)
unfolding cleared_weights fresh
cleared_fresh W H t = tab_same (λ k. pos (k / W + 1)) (λ k. weight (cleared_table t) (k % W) (k / W)) (λ k. sym (cleared_weight t (k % W) (k / W))) 0 (W * H)

-- CLEAR STANDS
pub cleared_stands : (bad : Bool) (W H : ℕ) (t : List ℕ) → clear_code bad W H t ≡ 0 → Standing W H (cleared_weights W H) (cleared_table t)
unfolding clear_code clear_lines
cleared_stands bad W H t e =
    let g = good bad W H (length t) e in
    let u = cleared_table t in
    let n = length-replicate {A = ℕ} (length t) 0 in
    let m : slots u ≡ length t / 8 = ap (λ k. k / 8) n in
    standing_of W H (cleared_weights W H) u
    (record {
      sides = g.sides;
      whole = n ∙ g.whole ∙ ap (λ k. 8 * k) (sym m);
      some = omega (arith, m, g.some);
      few = omega (arith, m, g.few);
      slots_are = told_slots W H u (λ i l f. absurd (true≢false (sym (cleared_free t i) ∙ f)));
      ids_are = told_ids u (λ i j a b. ap (λ f. not f && not (free_slot u j) && eqb (id_of u i) (id_of u j)) (cleared_free t i));
      modules_are = told_apart W H u (λ x y hx hy i j a b. ap (λ f. f && holds u x y j) (cleared_holds t x y i));
    })
    (cleared_fresh W H t)
