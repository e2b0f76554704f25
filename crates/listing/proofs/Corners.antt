-- Corners of a scanned row by its heights: a cell is a corner exactly when the next height is smaller. Assumes nothing.
use mir.Val.{bool_byte}
use mathlib.Core.Path.{◌≡◌, refl, sym, ap, ap₂, ◌∙◌}
use mathlib.Core.Bool.{Bool, true, false, cond, and-false}
use mathlib.Core.Logic.{⊎_elim}
use mathlib.Core.List.{List}
use Prim.Native.Nat.{ℕ, zero, suc, ◌+◌, ◌≤◌, ◌<◌}
use native.Mathlib.Nat.{le_refl, eq-or-lt_of_le}
use native.Mathlib.Numerals.{add-one}
use native.Mathlib.Omega.{arith}
use lib.Dec.{ltb}
use lib.Signed.{lt_z}
use borrow.Author.Tests.{lt-ltb, le-ltb, eq-eqb, ne_eqb}
use Rattle.rules.specs.Tests.{total, count}
use Rattle.rules.specs.Surface.{occupied, weight}
use Rattle.rules.specs.Empties.{scanned, corner}
use Rattle.rules.proofs.Tests.{total_same, count_none, decide}
use Rattle.meaning.proofs.Weights.{weight_occupied, weight_empty, upwards_pos}
use Rattle.listing.specs.Row.{before, turns}
use Rattle.listing.specs.Listed.{height_of}
use Rattle.listing.proofs.Cells.{height_in, height_past, height_taken}

-- ---- a cell of a scanned row

module _ (W H : ℕ) (t : List ℕ) (y : ℕ) (s : scanned H t y ≡ true) where
  abbrev f : ℕ → ℕ
  f = height_of (occupied t) W y

  -- the height of an empty cell
  high : (x : ℕ) → x < W → occupied t x y ≡ false → 0 < f x
  high x p e = rw (height_in (occupied t) W y x p) (upwards_pos t x y e)

  -- the right neighbour
  neighbour : (x : ℕ) → suc x < W → occupied t x y ≡ false → lt_z (weight t (suc x) y) (weight t x y) ≡ ltb (f (suc x)) (f x)
  neighbour x p e =
      ⊎_elim
      (λ (q : occupied t (suc x) y ≡ true).
      ap₂ lt_z (weight_occupied t (suc x) y q).1 (weight_empty t x y e)
      ∙ sym (lt-ltb (f (suc x)) (f x) (omega (arith, height_taken (occupied t) W y (suc x) q, high x (omega arith) e))))
      (λ (q : occupied t (suc x) y ≡ false).
      ap₂ lt_z (weight_empty t (suc x) y q) (weight_empty t x y e)
      ∙ ap₂ ltb (sym (height_in (occupied t) W y (suc x) p)) (sym (height_in (occupied t) W y x (omega arith))))
      (decide (occupied t (suc x) y))

  -- A CELL IS A CORNER EXACTLY WHEN THE NEXT HEIGHT IS SMALLER
  pub corner_is : (x : ℕ) → x < W → corner W H t x y ≡ ltb (f (suc x)) (f x)
  unfolding corner
  corner_is x p =
      ⊎_elim
      (λ (e : occupied t x y ≡ true). rw e (sym (le-ltb (f (suc x)) (f x) (omega (arith, height_taken (occupied t) W y x e)))))
      (λ (e : occupied t x y ≡ false).
      ⊎_elim
      (λ (q : suc x ≡ W). rw (e, s, eq-eqb (suc x) W q) (sym (lt-ltb (f (suc x)) (f x) (omega (arith, height_past (occupied t) W y (suc x) (omega arith), high x p e)))))
      (λ (q : suc x < W). rw (e, s, ne_eqb (suc x) W (λ z. omega arith)) (neighbour x q e))
      (eq-or-lt_of_le p))
      (decide (occupied t x y))

-- ---- as many as the heights that are smaller than the one before

pub byte_is : (b : Bool) → bool_byte b ≡ cond b 1 0
byte_is true = refl
byte_is false = refl

pub one_or_none : (b : Bool) → cond b 1 0 ≤ 1
one_or_none true = le_refl 1
one_or_none false = omega arith

pub turns_le : (f : ℕ → ℕ) (x : ℕ) → turns f x ≤ x
unfolding turns
turns_le f zero = le_refl 0
turns_le f (suc x) = omega (arith, turns_le f x, one_or_none (ltb (f x) (before f x)))

turns_count : (f : ℕ → ℕ) (w : ℕ) → turns f (suc w) ≡ count w (λ x. ltb (f (suc x)) (f x))
unfolding turns total before
turns_count f zero = rw (le-ltb (f 0) 0 (omega arith))
turns_count f (suc w) = ap (λ n. n + cond (ltb (f (suc w)) (f w)) 1 0) (turns_count f w)

-- past the last column every corner is counted
pub turns_corners : (W H : ℕ) (t : List ℕ) (y n : ℕ) → scanned H t y ≡ true → n ≡ turns (height_of (occupied t) W y) (W + 1) → n ≡ count W (λ x. corner W H t x y)
turns_corners W H t y n s e =
    e ∙ ap (turns (height_of (occupied t) W y)) (add-one W) ∙ turns_count (height_of (occupied t) W y) W
    ∙ total_same W _ _ (λ k p. ap (λ b. cond b 1 0) (sym (corner_is W H t y s k p)))

-- A ROW THAT IS NOT SCANNED HAS NO CORNER
pub no_corner : (W H : ℕ) (t : List ℕ) (y : ℕ) → scanned H t y ≡ false → count W (λ x. corner W H t x y) ≡ 0
unfolding corner
no_corner W H t y s = count_none W (λ x. corner W H t x y) (λ x l. rw (s, and-false))
