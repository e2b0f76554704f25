-- What a weight tells: the run of empty cells that ends in a cell, and the sign. Callers cite these laws and never the text of `weight`. Assumes nothing.
use mathlib.Core.Path.{◌≡◌, sym, ap, ap₂, ◌∙◌}
use mathlib.Core.Bool.{Bool, true, false, not, true≢false}
use mathlib.Core.List.{List}
use Prim.Native.Nat.{ℕ, zero, suc, ◌+◌, ◌-◌, ◌*◌, ◌/◌, ◌%◌, ◌≤◌, ◌<◌}
use native.Mathlib.Nat.{le_refl, mul_comm, mod-lt, div-add-mod', div-lt_iff_lt-mul}
use native.Mathlib.Omega.{arith}
use lib.Arith.{digits_lt, digits_div, digits_mod}
use lib.Dec.{leb, ltb}
use lib.IntN.{ℤ, pos, negsuc, neg_ℤ}
use lib.ListN.{length, get_or}
use lib.Seq.{ext_get_or}
use lib.Signed.{lt_z}
use borrow.Author.Tests.{leb-true, ltb-true, lt-ltb}
use Rattle.rules.specs.Tests.{every, eq_z}
use Rattle.rules.specs.Surface.{covers, slots, rect_of, used_slot, holds, occupied, holder, upwards, number, remaining, weight, cell, fresh, slots_sound, ids_differ, modules_apart, weights_right, stands}
use Rattle.rules.specs.declared.Rect.{Rect}
use Rattle.meaning.specs.Column.{number_at}
use Rattle.meaning.proofs.Splits.{split, by_test, by_less, by_same}
use Rattle.rules.proofs.Tests.{and_left, and_right, and_both, and_four, any_at, least_is, every_at, every_yes, eq_z_true, eq_z_same, length-tab, get_or-tab}

-- ---- the run of empty cells that ends in cell (x, y)

module _ (occ : ℕ → ℕ → Bool) (x : ℕ) where
  pub upwards_le : (y : ℕ) → upwards occ x y ≤ suc y
  unfolding upwards
  upwards_le zero = split (λ n. n ≤ 1) (occ x 0) (λ e. omega arith) (λ e. omega arith)
  upwards_le (suc y) = split (λ n. n ≤ suc (suc y)) (occ x (suc y)) (λ e. omega arith) (λ e. omega (arith, upwards_le y))

  -- none ends in an occupied cell
  pub upwards_taken : (y : ℕ) → occ x y ≡ true → upwards occ x y ≡ 0
  unfolding upwards
  upwards_taken zero e = rw e
  upwards_taken (suc y) e = rw e

  -- its cells are empty
  pub upwards_free : (y r : ℕ) → r ≤ y → suc y ≤ r + upwards occ x y → occ x r ≡ false
  unfolding upwards
  upwards_free zero r p q = split (λ n. 1 ≤ r + n → occ x r ≡ false) (occ x 0) (λ s h. absurd (omega arith)) (λ s h. let z : r ≡ 0 = omega arith in rw z s) q
  upwards_free (suc y) r p q =
      split (λ n. suc (suc y) ≤ r + n → occ x r ≡ false) (occ x (suc y)) (λ s h. absurd (omega arith))
      (λ s h. by_same r (suc y) (λ z. rw z s) (λ ne. upwards_free y r (omega arith) (omega arith))) q

  -- and it is as long as the empty cells reach
  pub upwards_ge : (y h : ℕ) → h ≤ suc y → ((r : ℕ) → r ≤ y → suc y ≤ r + h → occ x r ≡ false) → h ≤ upwards occ x y
  unfolding upwards
  upwards_ge y zero p q = omega arith
  upwards_ge zero (suc h) p q = rw (q 0 (le_refl 0) (omega arith)) (omega arith)
  upwards_ge (suc y) (suc h) p q =
      rw (q (suc y) (le_refl (suc y)) (omega arith)) (omega (arith, upwards_ge y h (omega arith) (λ r a b. q r (omega arith) (omega arith))))

-- ---- covers

pub record Within (r : Rect) (x y : ℕ) : Type 0 where
  pub left : r.x ≤ x
  pub right : x < r.x + r.w
  pub top : r.y ≤ y
  pub bottom : y < r.y + r.h

pub covers_within : (r : Rect) (x y : ℕ) → covers r x y ≡ true → Within r x y
unfolding covers
covers_within r x y e =
    let f = and_four (leb r.x x) (ltb x (r.x + r.w)) (leb r.y y) (ltb y (r.y + r.h)) e in
    record { left = leb-true _ _ f.0; right = ltb-true _ _ f.1; top = leb-true _ _ f.2; bottom = ltb-true _ _ f.3 }

-- ---- the number of an occupied cell. Nobody looks into it: these two laws are all that is asked of it

-- a cell that a module has gets a number that is not 0
pub number_some : (i : ℕ) (r : Rect) (x y : ℕ) → covers r x y ≡ true → 1 ≤ number i r x
unfolding number
number_some i r x y e = omega (arith, (covers_within r x y e).right)

-- a module in one of at most 256 slots, on a surface that is at most 64 wide, gives numbers that 16 bits hold
pub number_few : (i : ℕ) (r : Rect) (c : ℕ) → i < 256 → r.x + r.w ≤ 64 → number i r c ≤ 256
unfolding number
number_few i r c s w = omega arith

-- ---- the sign of a weight

module _ (t : List ℕ) (x y : ℕ) where
  pub holds_covers : (i : ℕ) → holds t x y i ≡ true → covers (rect_of t i) x y ≡ true
  unfolding holds
  holds_covers i e = and_right (used_slot t i) _ e

  pub holds_used : (i : ℕ) → holds t x y i ≡ true → used_slot t i ≡ true
  unfolding holds
  holds_used i e = and_left (used_slot t i) _ e

  pub holds_both : (i : ℕ) → used_slot t i ≡ true → covers (rect_of t i) x y ≡ true → holds t x y i ≡ true
  unfolding holds
  holds_both i u e = and_both u e

  -- the holder of an occupied cell has it
  pub holder_low : occupied t x y ≡ true → holder t x y < slots t
  unfolding occupied holder
  holder_low e =
      let w = any_at (slots t) (holds t x y) e in
      let l = least_is (slots t) (holds t x y) in
      by_less (holder t x y) (slots t) (λ q. q) (λ q. absurd (true≢false (sym w.2 ∙ l.before w.0 (omega arith) (omega (arith, w.1)))))

  pub holder_holds : occupied t x y ≡ true → holds t x y (holder t x y) ≡ true
  unfolding holder
  holder_holds e = let h = holder_low e in (least_is (slots t) (holds t x y)).here (omega arith)

  -- its number is not 0, and the weight is that number's negative
  pub number_at_lem : occupied t x y ≡ true → 1 ≤ number_at t x y
  number_at_lem e = number_some (holder t x y) (rect_of t (holder t x y)) x y (holds_covers (holder t x y) (holder_holds e))

  pub weight_number : occupied t x y ≡ true → weight t x y ≡ neg_ℤ (pos (number_at t x y))
  unfolding weight remaining
  weight_number e = rw e

  pub weight_occupied : occupied t x y ≡ true → (k : ℕ) × (weight t x y ≡ negsuc k)
  weight_occupied e =
      let q : number_at t x y ≡ suc (number_at t x y - 1) = omega (arith, number_at_lem e) in
      (number_at t x y - 1, weight_number e ∙ ap (λ n. neg_ℤ (pos n)) q)

  pub weight_empty : occupied t x y ≡ false → weight t x y ≡ pos (upwards (occupied t) x y)
  unfolding weight
  weight_empty e = rw e

  -- an empty cell counts itself
  pub upwards_pos : occupied t x y ≡ false → 1 ≤ upwards (occupied t) x y
  upwards_pos e = upwards_ge (occupied t) x y 1 (omega arith) (λ r p q. let z : r ≡ y = omega arith in ap (occupied t x) z ∙ e)

  -- A WEIGHT IS POSITIVE EXACTLY WHEN THE CELL IS EMPTY
  pub weight_sign : lt_z (pos 0) (weight t x y) ≡ not (occupied t x y)
  weight_sign =
      by_test (occupied t x y)
      (λ e. ap (lt_z (pos 0)) (weight_occupied e).1 ∙ sym (ap not e))
      (λ e. ap (lt_z (pos 0)) (weight_empty e) ∙ lt-ltb 0 _ (upwards_pos e) ∙ sym (ap not e))

-- ---- the weights of a surface that stands

module _ (W H : ℕ) (s : List ℤ) (t : List ℕ) (e : stands W H s t ≡ true) where
  stands_four : (slots_sound W H t ≡ true) × (ids_differ t ≡ true) × (modules_apart W H t ≡ true) × (weights_right W H s t ≡ true)
  unfolding stands
  stands_four = and_four (slots_sound W H t) (ids_differ t) (modules_apart W H t) (weights_right W H s t) e

  pub stands_slots : slots_sound W H t ≡ true
  stands_slots = stands_four.0

  pub stands_ids : ids_differ t ≡ true
  stands_ids = stands_four.1

  pub stands_apart : modules_apart W H t ≡ true
  stands_apart = stands_four.2

  pub stands_cell : (x y : ℕ) → x < W → y < H → cell W s x y ≡ weight t x y
  unfolding weights_right
  stands_cell x y p q =
      let row = every_at H (λ y. every W (λ x. eq_z (cell W s x y) (weight t x y))) stands_four.3 y q in
      eq_z_true (cell W s x y) (weight t x y) (every_at W (λ x. eq_z (cell W s x y) (weight t x y)) row x p)

  -- ON A STANDING SURFACE A LENT WEIGHT IS POSITIVE EXACTLY WHEN ITS CELL IS EMPTY
  pub stands_sign : (x y : ℕ) → x < W → y < H → lt_z (pos 0) (cell W s x y) ≡ not (occupied t x y)
  stands_sign x y p q = ap (lt_z (pos 0)) (stands_cell x y p q) ∙ weight_sign t x y

-- the weights worked out afresh have at each cell its weight
pub fresh_cell : (W H : ℕ) (t : List ℕ) (x y : ℕ) → x < W → y < H → cell W (fresh W H t) x y ≡ weight t x y
unfolding fresh
fresh_cell W H t x y p q =
    get_or-tab (W * H) (y * W + x) (λ k. weight t (k % W) (k / W)) (pos 0) (let d = digits_lt q p in omega (arith, mul_comm W H))
    ∙ ap₂ (weight t) (digits_mod y p) (digits_div y p)

pub fresh_long : (W H : ℕ) (t : List ℕ) → length (fresh W H t) ≡ W * H
unfolding fresh
fresh_long W H t = length-tab (W * H) (λ k. weight t (k % W) (k / W))

-- WEIGHTS THAT ARE RIGHT AT EVERY CELL ARE THE FRESH ONES
pub fresh_of : (W H : ℕ) (t : List ℕ) (s : List ℤ) → 0 < W → length s ≡ W * H → ((c r : ℕ) → c < W → r < H → cell W s c r ≡ weight t c r) → s ≡ fresh W H t
unfolding fresh
fresh_of W H t s w e h =
    ext_get_or (pos 0) s _ (e ∙ sym (fresh_long W H t))
    (λ k lt. ap (λ n. get_or s n (pos 0)) (sym (div-add-mod' k W))
    ∙ h (k % W) (k / W) (mod-lt k w) ((div-lt_iff_lt-mul w).1 (omega (arith, mul_comm W H)))
    ∙ sym (get_or-tab (W * H) k (λ k. weight t (k % W) (k / W)) (pos 0) (omega arith)))

-- and the fresh ones are right
pub right_fresh : (W H : ℕ) (t : List ℕ) → weights_right W H (fresh W H t) t ≡ true
unfolding weights_right
right_fresh W H t =
    every_yes H _ (λ y hy. every_yes W _ (λ x hx.
    ap (λ z. eq_z z (weight t x y)) (fresh_cell W H t x y hx hy) ∙ eq_z_same (weight t x y)))
