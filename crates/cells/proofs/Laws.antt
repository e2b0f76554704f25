-- Laws of signed weights, by cases on ℤ. Assumes nothing.
use mathlib.Core.Path.{◌≡◌, refl, sym, ap, ◌∙◌, subst}
use mathlib.Core.Bool.{Bool, true, false, not, and-true}
use mathlib.Core.Logic.{⊎_elim}
use mathlib.Core.List.{List}
use Prim.Native.Nat.{ℕ, ◌+◌, ◌*◌, ◌<◌, ◌≤◌}
use native.Mathlib.Nat.{mul-le-mul_right, le-mul_of_pos_right, add-mul}
use native.Mathlib.Numerals.{add-one}
use native.Mathlib.Omega.{arith}
use borrow.Author.Tests.{le-ltb, ltb-true, eqb-true, eq-eqb}
use lib.Dec.{eqb}
use lib.ListN.{length, get_or}
use lib.Seq.{ext_get_or}
use lib.IntN.{ℤ, pos, negsuc}
use lib.Signed.{lt_z}
use mir.Syntax.{Width, w16}
use mir.Val.{to_z, of_z, SFits}
use mir.ValLaws.{to_z-of_z}
use Rattle.std.specs.Prelude.{MatchBool}
use Rattle.std.specs.List.{AllWithin, HoldsAt}
use Rattle.rules.specs.Tests.{every, eq_z}
use Rattle.rules.specs.Surface.{cell}
use Rattle.rules.proofs.Tests.{fails, not_both, decide, every_at, every_yes, every_no, eq_z_true, eq_z_same}
use Rattle.cells.specs.Weight.{taken_z, count_of, untaken, same_weights}

-- two signed numbers are the same exactly when their bits are
pub same_bits : (w : Width) (a b : ℤ) → SFits w a → SFits w b → eqb (of_z w a) (of_z w b) ≡ eq_z a b
same_bits w a b f g =
    ⊎_elim
    (λ (e : eqb (of_z w a) (of_z w b) ≡ true).
    let q : a ≡ b = sym (to_z-of_z w a f) ∙ ap (to_z w) (eqb-true (of_z w a) (of_z w b) e) ∙ to_z-of_z w b g in
    e ∙ sym (ap (λ z. eq_z z b) q ∙ eq_z_same b))
    (λ (e : eqb (of_z w a) (of_z w b) ≡ false).
    e ∙ sym (fails (eq_z a b) (λ z. not_both (eqb (of_z w a) (of_z w b)) (eq-eqb (of_z w a) (of_z w b) (ap (of_z w) (eq_z_true a b z))) e)))
    (decide (eqb (of_z w a) (of_z w b)))

pub taken_test : (z : ℤ) → lt_z z (pos 0) ≡ taken_z z
taken_test (pos n) = le-ltb n 0 (omega arith)
taken_test (negsuc n) = refl

-- a signed test's flag, said of the number and not of what is read back from its bits
pub plain : (w : Width) (P : ℤ → Type 0) {z : ℤ} → SFits w z → P (to_z w (of_z w z)) → P z
plain w P {z} f p = subst P (to_z-of_z w z f) p

pub count_neg : (z : ℤ) → lt_z z (pos 0) ≡ true → 0 ≡ count_of z
count_neg (pos n) e = let h : n < 0 = ltb-true n 0 e in omega arith
count_neg (negsuc n) e = refl

-- a row ends before a later one starts
pub row_before : (w r q c : ℕ) → r < q → c ≤ w → r * w + c ≤ q * w
row_before w r q c h l = let m : (r + 1) * w ≤ q * w = mul-le-mul_right w (omega arith) in omega (arith, add-mul r 1 w)

-- a cell of a rectangle that lies on the surface: its number, and its row
pub cell_in : (w x y mw mh i j n : ℕ) → x + mw ≤ w → (y + mh) * w ≤ n → i < mw → j < mh → ((y + j) * w + (x + i) < n) × (y + j < n)
cell_in w x y mw mh i j n hx hn hi hj =
    let a = row_before w (y + j) (y + mh) (x + i + 1) (omega arith) (omega arith) in
    let b : y + mh ≤ (y + mh) * w = le-mul_of_pos_right (y + mh) (omega arith) in
    (omega arith, omega arith)

-- cell (x, y) is not taken; no cell of row j of a rectangle is
abbrev pub open_at : ℕ → List ℤ → ℕ → ℕ → Bool
open_at w s x y = not (taken_z (cell w s x y))

abbrev pub open_row : ℕ → List ℤ → ℕ → ℕ → ℕ → ℕ → Bool
open_row w s x y mw j = every mw (λ i. open_at w s (x + i) (y + j))

-- a taken cell closes its row, and the rectangle
pub taken_row : (w : ℕ) (s : List ℤ) (x y mw i j : ℕ) → i < mw → taken_z (cell w s (x + i) (y + j)) ≡ true → open_row w s x y mw j ≡ false
taken_row w s x y mw i j hi e = every_no mw (λ i. open_at w s (x + i) (y + j)) i hi (ap not e)

pub taken_one : (w : ℕ) (s : List ℤ) (x y mw mh i j : ℕ) → i < mw → j < mh → taken_z (cell w s (x + i) (y + j)) ≡ true → untaken w s x y mw mh ≡ false
unfolding untaken
taken_one w s x y mw mh i j hi hj e = every_no mh (open_row w s x y mw) j hj (taken_row w s x y mw i j hi e)

-- what `is_taken` says of a weight that it is handed
pub taken_back : (z : ℤ) → SFits w16 z → true ≡ taken_z (to_z w16 (of_z w16 z)) → taken_z z ≡ true
taken_back z f e = sym (e ∙ ap taken_z (to_z-of_z w16 z f))

-- what `all` tells of a row whose n weights are f 0, f 1, ..
pub every_from_all : (n : ℕ) (f : ℕ → ℤ) (p : ℤ → Bool) (row : List ℤ) (b : Bool) → length row ≡ n → ((k : ℕ) → k < n → get_or row k (pos 0) ≡ f k) →
    MatchBool b (AllWithin (λ v. p v ≡ true) row 0 (length row)) ((k : ℕ) × (k < length row) × HoldsAt (λ v. p v ≡ false) row k) → b ≡ every n (λ k. p (f k))
every_from_all n f p row true l g h = sym (every_yes n (λ k. p (f k)) (λ k b. ap p (sym (g k b)) ∙ h k (pos 0) (omega arith) (omega arith)))
every_from_all n f p row false l g h = sym (every_no n (λ k. p (f k)) h.0 (omega (arith, h.1)) (ap p (sym (g h.0 (omega (arith, h.1)))) ∙ h.2 (pos 0)))

-- ---- the same weights

-- one number more, in a walk that looks at all of them
pub every_hit : (n : ℕ) (p : ℕ → Bool) → p n ≡ true → every (n + 1) p ≡ every n p
unfolding every
every_hit n p e = rw (add-one n, e) (and-true (every n p))

pub every_miss : (n : ℕ) (p : ℕ → Bool) → p n ≡ false → every (n + 1) p ≡ false
every_miss n p e = every_no (n + 1) p n (omega arith) e

pub same_equal : (s u : List ℤ) → length s ≡ length u → same_weights s u ≡ true → s ≡ u
unfolding same_weights
same_equal s u l e = ext_get_or (pos 0) s u l (λ k h. eq_z_true _ _ (every_at (length s) (λ k. eq_z (get_or s k (pos 0)) (get_or u k (pos 0))) e k h))

pub equal_same : (s : List ℤ) → same_weights s s ≡ true
unfolding same_weights
equal_same s = every_yes (length s) (λ k. eq_z (get_or s k (pos 0)) (get_or s k (pos 0))) (λ k h. eq_z_same (get_or s k (pos 0)))
