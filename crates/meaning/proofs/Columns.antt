-- Laws of one column: the run above a row, and the weight at a row, for every function from rows to numbers; then that a table's column has the
-- weights of the rules. Assumes nothing.
use mathlib.Core.Path.{◌≡◌, refl, sym, ap, ap₂, ◌∙◌}
use mathlib.Core.Bool.{true, false, cond}
use mathlib.Core.List.{List}
use mathlib.Core.Logic.{◌⊎◌, inl, inr, ⊎_elim}
use Prim.Native.Nat.{ℕ, zero, suc, ◌+◌, ◌≤◌, ◌<◌}
use native.Mathlib.Nat.{eq-or-lt_of_le, le_of_suc-le-suc}
use native.Mathlib.Omega.{arith}
use borrow.Author.Tests.{lt-ltb, le-ltb, le-leb, lt-leb}
use lib.Dec.{leb}
use lib.IntN.{pos, neg_ℤ}
use Rattle.rules.specs.Surface.{covers, occupied, upwards, weight}
use Rattle.rules.specs.declared.Rect.{Rect}
use Rattle.meaning.proofs.Splits.{split, by_test}
use Rattle.meaning.proofs.Weights.{number_at_lem, weight_number, weight_empty}
use Rattle.meaning.specs.Column.{number_at, column, within, next, run, weigh, weight_in, over, beside}

-- the number of an occupied cell ends a run, and is its weight's
next_taken : (v k : ℕ) → (v ≡ 0 → ⊥) → next v k ≡ 0
next_taken zero k h = absurd (h refl)
next_taken (suc v) k h = refl

weigh_taken : (v k : ℕ) → (v ≡ 0 → ⊥) → weigh v k ≡ neg_ℤ (pos v)
weigh_taken zero k h = absurd (h refl)
weigh_taken (suc v) k h = refl

-- the run above a row depends on the rows above it alone
pub run_same : (f g : ℕ → ℕ) (n : ℕ) → ((i : ℕ) → i < n → f i ≡ g i) → run f n ≡ run g n
unfolding run
run_same f g zero h = refl
run_same f g (suc n) h = ap₂ next (h n (omega arith)) (run_same f g n (λ i l. h i (omega arith)))

-- and, under an occupied cell, on the rows from there on
pub run_after : (f g : ℕ → ℕ) (j n : ℕ) → j < n → (f j ≡ 0 → ⊥) → ((i : ℕ) → j ≤ i → i < n → f i ≡ g i) → run f n ≡ run g n
unfolding run
run_after f g j zero l t h = absurd (omega arith)
run_after f g j (suc n) l t h =
    ⊎_elim
    (λ e. let k : f n ≡ 0 → ⊥ = λ z. t (ap f e ∙ z) in next_taken (f n) (run f n) k ∙ sym (next_taken (f n) (run g n) k) ∙ ap (λ v. next v (run g n)) (h n (omega arith) (omega arith)))
    (λ lt. ap₂ next (h n (omega arith) (omega arith)) (run_after f g j n lt t (λ i a b. h i a (omega arith))))
    (eq-or-lt_of_le (le_of_suc-le-suc l))

-- the run above a row is at most as long as the column above it
pub run_le : (f : ℕ → ℕ) (n : ℕ) → run f n ≤ n
unfolding run
run_le f zero = omega arith
run_le f (suc n) = step (f n) (run_le f n)
  where
    step : (v : ℕ) {k : ℕ} → k ≤ n → next v k ≤ suc n
    step zero l = omega arith
    step (suc v) l = omega arith

pub weight_same : (f g : ℕ → ℕ) (r : ℕ) → ((i : ℕ) → i ≤ r → f i ≡ g i) → weight_in f r ≡ weight_in g r
unfolding weight_in
weight_same f g r h = ap₂ weigh (h r (omega arith)) (run_same f g r (λ i l. h i (omega arith)))

pub weight_after : (f g : ℕ → ℕ) (j r : ℕ) → j ≤ r → (f j ≡ 0 → ⊥) → ((i : ℕ) → j ≤ i → i ≤ r → f i ≡ g i) → weight_in f r ≡ weight_in g r
unfolding weight_in
weight_after f g j r l t h =
    ⊎_elim
    (λ e. let k : f r ≡ 0 → ⊥ = λ z. t (ap f e ∙ z) in weigh_taken (f r) (run f r) k ∙ sym (weigh_taken (f r) (run g r) k) ∙ ap (λ v. weigh v (run g r)) (h r l (omega arith)))
    (λ lt. ap₂ weigh (h r l (omega arith)) (run_after f g j r lt t (λ i a b. h i a (omega arith))))
    (eq-or-lt_of_le l)

-- the weight of an empty cell, and of an occupied one
pub empty_weight : (f : ℕ → ℕ) (r : ℕ) → f r ≡ 0 → weight_in f r ≡ pos (suc (run f r))
unfolding weight_in
empty_weight f r e = ap (λ v. weigh v (run f r)) e

pub taken_weight : (f : ℕ → ℕ) (r v : ℕ) → f r ≡ v → (v ≡ 0 → ⊥) → weight_in f r ≡ neg_ℤ (pos v)
unfolding weight_in
taken_weight f r v e z = ap (λ n. weigh n (run f r)) e ∙ weigh_taken v (run f r) z

pub run_on : (f : ℕ → ℕ) (r : ℕ) → f r ≡ 0 → run f (suc r) ≡ suc (run f r)
unfolding run
run_on f r e = ap (λ v. next v (run f r)) e

pub run_end : (f : ℕ → ℕ) (r : ℕ) → (f r ≡ 0 → ⊥) → run f (suc r) ≡ 0
unfolding run
run_end f r z = next_taken (f r) (run f r) z

-- which numbers are within
pub within_yes : (a n k : ℕ) → a ≤ k → k < a + n → within a n k ≡ true
within_yes a n k l u = rw (le-leb a k l, lt-ltb k (a + n) u)

pub within_low : (a n k : ℕ) → k < a → within a n k ≡ false
within_low a n k l = rw (lt-leb a k l)

pub within_high : (a n k : ℕ) → a + n ≤ k → within a n k ≡ false
within_high a n k l = rw (le-leb a k (omega arith), le-ltb k (a + n) l)

module _ (f : ℕ → ℕ) (y n v : ℕ) where
  pub over_in : (r : ℕ) → y ≤ r → r < y + n → over f y n v r ≡ v
  over_in r l u = rw (within_yes y n r l u)

  pub over_low : (r : ℕ) → r < y → over f y n v r ≡ f r
  over_low r l = rw (within_low y n r l)

  pub over_high : (r : ℕ) → y + n ≤ r → over f y n v r ≡ f r
  over_high r l = rw (within_high y n r l)

-- ---- the columns of a module

module _ (m : Rect) (c : ℕ) where
  pub covers_in : m.x ≤ c → c < m.x + m.w → (r : ℕ) → covers m c r ≡ within m.y m.h r
  unfolding covers
  covers_in a b r = rw (le-leb m.x c a, lt-ltb c (m.x + m.w) b)

  pub covers_out : (c < m.x) ⊎ (m.x + m.w ≤ c) → (r : ℕ) → covers m c r ≡ false
  unfolding covers
  covers_out (inl a) r = rw (lt-leb m.x c a)
  covers_out (inr b) r = by_test (leb m.x c) (λ e. rw (e, le-ltb c (m.x + m.w) b)) (λ e. rw e)

module _ (m : Rect) (g : ℕ → ℕ) (f : ℕ → ℕ → ℕ) (c : ℕ) where
  pub beside_in : m.x ≤ c → c < m.x + m.w → (r : ℕ) → beside m g f c r ≡ over (f c) m.y m.h (g c) r
  beside_in a b r = ap (λ t. cond t (g c) (f c r)) (covers_in m c a b r)

  pub beside_out : (c < m.x) ⊎ (m.x + m.w ≤ c) → (r : ℕ) → beside m g f c r ≡ f c r
  beside_out o r = ap (λ t. cond t (g c) (f c r)) (covers_out m c o r)

-- ---- the columns of a table's surface

module _ (t : List ℕ) (c : ℕ) where
  pub column_number : (r : ℕ) → occupied t c r ≡ true → column t c r ≡ number_at t c r
  unfolding column
  column_number r e = rw e

  -- the number of an occupied cell is not 0
  pub column_taken : (r : ℕ) → occupied t c r ≡ true → column t c r ≡ 0 → ⊥
  column_taken r e z = omega (arith, number_at_lem t c r e, column_number r e)

  pub column_empty : (r : ℕ) → occupied t c r ≡ false → column t c r ≡ 0
  unfolding column
  column_empty r e = rw e

  next_column : (r k : ℕ) → next (column t c r) k ≡ cond (occupied t c r) 0 (suc k)
  next_column r k =
      split (λ n. next (column t c r) k ≡ n) (occupied t c r)
      (λ e. next_taken (column t c r) k (column_taken r e)) (λ e. ap (λ v. next v k) (column_empty r e))

  pub upwards_run : (r : ℕ) → upwards (occupied t) c r ≡ run (column t c) (suc r)
  unfolding upwards run
  upwards_run zero = sym (next_column 0 0)
  upwards_run (suc r) = ap (λ k. cond (occupied t c (suc r)) 0 (suc k)) (upwards_run r) ∙ sym (next_column (suc r) (run (column t c) (suc r)))

  -- THE WEIGHT OF A CELL IS THAT OF ITS COLUMN
  pub weight_column : (r : ℕ) → weight t c r ≡ weight_in (column t c) r
  weight_column r =
      by_test (occupied t c r)
      (λ e. weight_number t c r e ∙ sym (taken_weight (column t c) r (number_at t c r) (column_number r e) (λ z. column_taken r e (column_number r e ∙ z))))
      (λ e. weight_empty t c r e ∙ ap pos (upwards_run r ∙ run_on (column t c) r (column_empty r e)) ∙ sym (empty_weight (column t c) r (column_empty r e)))
