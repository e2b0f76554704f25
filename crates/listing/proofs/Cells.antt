-- What the weights of a standing surface tell of a row: heights, support, and how far an occupied run goes on. Assumes nothing.
use mathlib.Core.Path.{◌≡◌, refl, sym, ap, ◌∙◌}
use mathlib.Core.Bool.{Bool, true, false, not, cond, ◌&&◌}
use mathlib.Core.Logic.{⊎_elim}
use mathlib.Core.List.{List}
use Prim.Native.Nat.{ℕ, zero, suc, ◌+◌, ◌-◌, ◌^◌, ◌≤◌, ◌<◌}
use native.Mathlib.Nat.{le_refl}
use native.Mathlib.Omega.{arith}
use lib.Dec.{ltb, eqb}
use lib.IntN.{ℤ, pos, negsuc, neg_ℤ}
use lib.Signed.{lt_z, mag}
use borrow.Author.Tests.{lt-ltb, le-ltb, le-leb, eqb-false, not-true}
use mir.Syntax.{w16}
use mir.Val.{hbits, to_z, of_z}
use mir.ValLaws.{to_z-of_z}
use Rattle.cells.specs.Weight.{width_of}
use Rattle.rules.specs.Tests.{eq_z}
use Rattle.rules.specs.Surface.{covers, slots, rect_of, holds, occupied, holder, upwards, number, weight, cell, Standing}
use Rattle.rules.specs.declared.Rect.{Rect}
use Rattle.rules.proofs.Tests.{and_both, four_and, any_yes, decide, lt_or_le}
use Rattle.meaning.proofs.Weights.{upwards_le, upwards_taken, upwards_pos, Within, covers_within, holds_covers, holds_used, holder_low, holder_holds, weight_number, weight_occupied, weight_empty, stands_cell, stands_slots}
use Rattle.meaning.proofs.Stands.{sound_told, slots_told}
use Rattle.std.specs.Int.{int_max}
use Rattle.listing.specs.Listed.{height_of, support, Strides}

-- not 0 is more than 0
pub positive : (v : ℕ) → (v ≡ 0 → ⊥) → 0 < v
positive zero n = absurd (n refl)
positive (suc v) n = omega arith

-- a number whose bits are read back is the number
pub read_back : {z a : ℤ} → mag z < 2 ^ hbits w16 → z ≡ a → to_z w16 (of_z w16 z) ≡ a
read_back {z} f e = to_z-of_z w16 z (record { sfits = f }) ∙ e

-- ---- heights and support of a row

module _ (occ : ℕ → ℕ → Bool) (W y x : ℕ) where
  pub height_in : x < W → height_of occ W y x ≡ upwards occ x y
  unfolding height_of
  height_in p = rw (lt-ltb x W p)

  pub height_past : W ≤ x → height_of occ W y x ≡ 0
  unfolding height_of
  height_past p = rw (le-ltb x W p)

  pub height_taken : occ x y ≡ true → height_of occ W y x ≡ 0
  height_taken e = ⊎_elim (λ (p : x < W). height_in p ∙ upwards_taken occ x y e) (λ (p : W ≤ x). height_past p) (lt_or_le x W)

  pub height_low : height_of occ W y x ≤ suc y
  height_low = ⊎_elim (λ (p : x < W). omega (arith, height_in p, upwards_le occ x y)) (λ (p : W ≤ x). omega (arith, height_past p)) (lt_or_le x W)

  pub held_by : (H : ℕ) → (height_of occ W y x ≡ 0 → ⊥) → support occ W H y x ≡ cond (ltb (suc y) H) (occ x (suc y)) true
  unfolding support
  held_by H n = rw (lt-ltb 0 (height_of occ W y x) (positive (height_of occ W y x) n))

-- no height, no support
pub unheld : (occ : ℕ → ℕ → Bool) (W H y x : ℕ) → height_of occ W y x ≡ 0 → support occ W H y x ≡ false
unfolding support
unheld occ W H y x e = rw (e, le-ltb 0 0 (le_refl 0))

-- a cell that does not stay at u but has that height is occupied
pub stays_not : (b : Bool) (a u : ℕ) → (not b && eqb a u) ≡ false → a ≡ u → b ≡ true
stays_not true a u e q = refl
stays_not false a u e q = absurd (eqb-false a u e q)

-- an empty cell has a height
pub open_high : (W : ℕ) (t : List ℕ) (x y : ℕ) → x < W → occupied t x y ≡ false → height_of (occupied t) W y x ≡ 0 → ⊥
open_high W t x y p e z = omega (arith, height_in (occupied t) W y x p, upwards_pos t x y e)

at_least_none : (n : ℕ) → int_max (pos n) (pos 0) ≡ pos n
at_least_none zero = refl
at_least_none (suc n) = rw (lt-ltb 0 (suc n) (omega arith))

module _ (W H : ℕ) (s : List ℤ) (t : List ℕ) (S : Standing W H s t) (x y : ℕ) (px : x < W) (py : y < H) where
  is : cell W s x y ≡ weight t x y
  is = stands_cell W H s t S.sound x y px py

  -- what the weight tells: it is negative where the cell is occupied, and the height where it is empty
  by_weight : {A : Type 0} (g : ℤ → A) (a : A) → ((k : ℕ) → occupied t x y ≡ true → g (negsuc k) ≡ a) → (occupied t x y ≡ false → g (pos (height_of (occupied t) W y x)) ≡ a) → g (cell W s x y) ≡ a
  by_weight g a p q =
      ⊎_elim
      (λ e. let n = weight_occupied t x y e in ap g (is ∙ n.1) ∙ p n.0 e)
      (λ e. ap g (is ∙ weight_empty t x y e ∙ ap pos (sym (height_in (occupied t) W y x px))) ∙ q e)
      (decide (occupied t x y))

  -- it is negative exactly where the cell is occupied
  pub below_is : lt_z (cell W s x y) (pos 0) ≡ occupied t x y
  below_is = by_weight (λ z. lt_z z (pos 0)) (occupied t x y) (λ k e. sym e) (λ e. le-ltb (height_of (occupied t) W y x) 0 (omega arith) ∙ sym e)

  -- the greater of it and 0 is the height
  pub height_is : int_max (cell W s x y) (pos 0) ≡ pos (height_of (occupied t) W y x)
  height_is =
      by_weight (λ z. int_max z (pos 0)) (pos (height_of (occupied t) W y x))
      (λ k e. ap pos (sym (height_taken (occupied t) W y x e))) (λ e. at_least_none (height_of (occupied t) W y x))

  -- the cell is empty and has the height u
  pub stays_is : (u : ℕ) → eq_z (cell W s x y) (pos u) ≡ (not (occupied t x y) && eqb (height_of (occupied t) W y x) u)
  stays_is u = by_weight (λ z. eq_z z (pos u)) (not (occupied t x y) && eqb (height_of (occupied t) W y x) u) (λ k e. rw e) (λ e. rw e)

  -- it has more than the height u
  pub rises_is : (u : ℕ) → lt_z (pos u) (cell W s x y) ≡ ltb u (height_of (occupied t) W y x)
  rises_is u =
      by_weight (lt_z (pos u)) (ltb u (height_of (occupied t) W y x))
      (λ k e. sym (le-ltb u (height_of (occupied t) W y x) (omega (arith, height_taken (occupied t) W y x e)))) (λ e. refl)

  -- the holder's module, on the surface
  module _ (e : occupied t x y ≡ true) where
    abbrev i : ℕ
    i = holder t x y

    abbrev r : Rect
    r = rect_of t i

    in_module : Within r x y
    in_module = covers_within r x y (holds_covers t x y i (holder_holds t x y e))

    on_surface_lem : r.x + r.w ≤ W
    on_surface_lem =
        let used = not-true _ (holds_used t x y i (holder_holds t x y e)) in
        (sound_told W H t i (slots_told W H t (stands_slots W H s t S.sound) i (holder_low t x y e) used)).place.columns

    -- the walk skips by the number: it is the width that remains
    width_is : width_of (cell W s x y) ≡ r.x + r.w - x
    unfolding number
    width_is = ap width_of (is ∙ weight_number t x y e) ∙ width_neg (number i r x)
      where
        width_neg : (n : ℕ) → width_of (neg_ℤ (pos n)) ≡ n
        width_neg zero = refl
        width_neg (suc n) = refl

    along : (k : ℕ) → x ≤ k → k < r.x + r.w → occupied t k y ≡ true
    unfolding occupied holds covers
    along k p q =
        any_yes (slots t) (holds t k y) i (holder_low t x y e)
        (and_both (holds_used t x y i (holder_holds t x y e))
        (four_and (le-leb r.x k (omega (arith, in_module.left))) (lt-ltb _ _ q) (le-leb _ _ in_module.top) (lt-ltb _ _ in_module.bottom)))

    -- THE WEIGHT OF AN OCCUPIED CELL GOES OVER OCCUPIED CELLS ALONE
    pub width_strides : (d : ℕ) → d ≡ width_of (cell W s x y) → Strides (occupied t) W y x d
    width_strides d q =
        let n : d ≡ r.x + r.w - x = q ∙ width_is in
        record {
          one = omega (arith, in_module.right);
          inside = omega (arith, on_surface_lem, in_module.right);
          over = λ k a b. along k a (omega (arith, in_module.right));
        }
