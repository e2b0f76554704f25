-- Laws of the walks down a column: what their loops keep, and what they come to. Nothing here speaks of a function's places. Assumes nothing.
use mathlib.Core.Path.{◌≡◌, refl, sym, ap, ◌∙◌, subst, subst₂}
use mathlib.Core.Bool.{true, false, true≢false}
use mathlib.Core.Logic.{⊎_elim}
use mathlib.Core.List.{List}
use Prim.Native.Nat.{ℕ, zero, suc, ◌+◌, ◌-◌, ◌*◌, ◌≤◌, ◌<◌}
use native.Mathlib.Numerals.{add-one}
use native.Mathlib.Omega.{arith}
use lib.IntN.{ℤ, pos, neg_ℤ}
use lib.ListN.{length, set, get_or, length-set}
use Rattle.cells.specs.Weight.{taken_z, count_of}
use Rattle.rules.specs.Surface.{cell}
use Rattle.meaning.specs.Column.{run, weight_in, is_taken, over, Holds}
use Rattle.modules.specs.Walk.{Only, Filled, Ready, Recounted, run_above, ColumnAdded, ColumnRemoved}
use Rattle.meaning.proofs.Columns.{run_same, run_on, run_end, weight_same, weight_after, empty_weight, taken_weight, over_in, over_low, over_high}
use Rattle.modules.proofs.Place.{taken_is, count_is}
use Rattle.rules.proofs.Tests.{lt_or_le}
use Rattle.modules.proofs.Cells.{cell_same, cell_column, cell_row}

only_then : {W c : ℕ} {s t u : List ℤ} → Only W c s t → Only W c t u → Only W c s u
only_then a b = record { long = b.long ∙ a.long; others = λ d r hd ne. b.others d r hd ne ∙ a.others d r hd ne }

only_set : (W c : ℕ) (s : List ℤ) (r : ℕ) (v : ℤ) → c < W → Only W c s (set s (r * W + c) v)
only_set W c s r v hc = record { long = length-set s (r * W + c) v; others = λ d q hd ne. cell_column W s c r v d q hc hd ne }

-- ---- cells of a column that get one weight

-- cell i is that of row r, the next one down
pub fill_more : {W c y r i : ℕ} {v : ℤ} {s₀ s : List ℤ} → y ≤ r → Filled W c y (r - y) v s₀ s → c < W → i ≡ r * W + c → i < length s → Filled W c y (r + 1 - y) v s₀ (set s i v)
fill_more {W} {c} {y} {r} {i} {v} {s₀} {s} low d hc at l = subst (λ k. Filled W c y (r + 1 - y) v s₀ (set s k v)) (sym at) more
  where
    on : r * W + c < length s
    on = omega arith

    more : Filled W c y (r + 1 - y) v s₀ (set s (r * W + c) v)
    more =
        record {
          only = only_then d.only (only_set W c s r v hc);
          inside = λ q a b.
              ⊎_elim
              (λ (lt : q < r). cell_row W s c r v q hc (λ e. omega arith) ∙ d.inside q a (omega arith))
              (λ (ge : r ≤ q). ap (cell W (set s (r * W + c) v) c) (omega arith) ∙ cell_same W s c r v on)
              (lt_or_le q r);
          above = λ q a. cell_row W s c r v q hc (λ e. omega arith) ∙ d.above q a;
          below = λ q a. cell_row W s c r v q hc (λ e. omega arith) ∙ d.below q (omega arith);
        }

-- ---- the empty cells that are counted anew

is_zero : (n : ℕ) → is_taken n ≡ false → n ≡ 0
is_zero zero e = refl
is_zero (suc n) e = absurd (true≢false e)

not_zero : (n : ℕ) → is_taken n ≡ true → n ≡ 0 → ⊥
not_zero zero e z = true≢false (sym e)
not_zero (suc n) e z = omega arith

-- the walk from row a with the count k has come to row r with the count n
pub record Counting (W H c a k r n : ℕ) (s₀ s : List ℤ) : Type 0 where
  pub few : n ≤ r
  pub only : Only W c s₀ s
  pub above : (q : ℕ) → q < a → cell W s c q ≡ cell W s₀ c q
  pub rest : (q : ℕ) → r ≤ q → cell W s c q ≡ cell W s₀ c q
  pub count : (f : ℕ → ℕ) → Ready W H c a k f s₀ → run f r ≡ n
  pub passed : (f : ℕ → ℕ) → Ready W H c a k f s₀ → (q : ℕ) → a ≤ q → q < r → cell W s c q ≡ weight_in f q

module _ {W H c a k r n : ℕ} {s₀ s : List ℤ} (d : Counting W H c a k r n s₀ s) (low : a ≤ r) where
  -- the cell at row r tells whether f has it empty
  tells : (f : ℕ → ℕ) → Ready W H c a k f s₀ → r < H → taken_z (cell W s c r) ≡ is_taken (f r)
  tells f rd lt = ap taken_z (d.rest r (omega arith)) ∙ rd.signs r low lt

  -- cell i is that of row r, which is empty, and its count v
  pub count_more : {i : ℕ} {v : ℤ} → c < W → r < H → i ≡ r * W + c → i < length s → taken_z (get_or s i (pos 0)) ≡ false → v ≡ pos (n + 1) → Counting W H c a k (r + 1) (n + 1) s₀ (set s i v)
  count_more {i} {v} hc lt at l fr e = subst₂ (λ j u. Counting W H c a k (r + 1) (n + 1) s₀ (set s j u)) (sym at) (sym e) more
    where
      on : r * W + c < length s
      on = omega arith

      empty : (f : ℕ → ℕ) → Ready W H c a k f s₀ → f r ≡ 0
      empty f rd = is_zero (f r) (sym (tells f rd lt) ∙ subst (λ j. taken_z (get_or s j (pos 0)) ≡ false) at fr)

      more : Counting W H c a k (r + 1) (n + 1) s₀ (set s (r * W + c) (pos (n + 1)))
      more =
          record {
            few = omega (arith, d.few);
            only = only_then d.only (only_set W c s r (pos (n + 1)) hc);
            above = λ q u. cell_row W s c r (pos (n + 1)) q hc (λ e. omega arith) ∙ d.above q u;
            rest = λ q u. cell_row W s c r (pos (n + 1)) q hc (λ e. omega arith) ∙ d.rest q (omega arith);
            count = λ f rd. ap (run f) (add-one r) ∙ run_on f r (empty f rd) ∙ ap suc (d.count f rd) ∙ sym (add-one n);
            passed = λ f rd q u v.
                ⊎_elim
                (λ (lt' : q < r). cell_row W s c r (pos (n + 1)) q hc (λ e. omega arith) ∙ d.passed f rd q u lt')
                (λ (ge : r ≤ q). ap (cell W (set s (r * W + c) (pos (n + 1))) c) (omega arith) ∙ cell_same W s c r (pos (n + 1)) on
                ∙ sym (ap (weight_in f) (omega arith) ∙ empty_weight f r (empty f rd) ∙ ap pos (ap suc (d.count f rd) ∙ sym (add-one n))))
                (lt_or_le q r);
          }

  pub count_taken : {i : ℕ} → r < H → i ≡ r * W + c → taken_z (get_or s i (pos 0)) ≡ true → Recounted W H c a k s₀ s
  count_taken {i} lt at fr =
      record {
        only = d.only;
        above = d.above;
        down = λ f rd q u v.
            ⊎_elim
            (λ (lt' : q < r). d.passed f rd q u lt')
            (λ (ge : r ≤ q). d.rest q ge ∙ rd.settled r q low ge v (not_zero (f r) (sym (tells f rd lt) ∙ subst (λ j. taken_z (get_or s j (pos 0)) ≡ true) at fr)))
            (lt_or_le q r);
      }

-- ---- a column of a module

-- the column f is filled and counted anew, from row a of the module's or the one below it: it is g where g is f in all other rows, the rows above a
-- have g's weight, those from a on are empty, and so is the count
module _ (W H c y n a k : ℕ) (v : ℤ) (s u t : List ℤ) (w : Filled W c y n v s u) (b : Recounted W H c a k u t) (f g : ℕ → ℕ) (h : Holds W H c f s) where
  column_told : y ≤ a → a ≤ y + n → ((r : ℕ) → r < y → f r ≡ g r) → ((r : ℕ) → y + n ≤ r → f r ≡ g r) → ((r : ℕ) → y ≤ r → r < a → v ≡ weight_in g r) →
      ((r : ℕ) → a ≤ r → r < y + n → (taken_z v ≡ false) × (g r ≡ 0)) → run g a ≡ k → Holds W H c g t
  column_told ya an low high kept empty start r lt =
      ⊎_elim
      (λ (hi : r < a). b.above r hi
      ∙ ⊎_elim
      (λ (lo : r < y). w.above r lo ∙ h r lt ∙ weight_same f g r (λ i l. low i (omega arith)))
      (λ (lo : y ≤ r). w.inside r lo (omega arith) ∙ kept r lo hi)
      (lt_or_le r y))
      (λ (ge : a ≤ r). b.down g ready r ge lt)
      (lt_or_le r a)
    where
      ready : Ready W H c a k g u
      ready =
          record {
            start = start;
            signs = λ q l m.
                ⊎_elim
                (λ (lt' : q < y + n). ap taken_z (w.inside q (omega arith) lt') ∙ (empty q l lt').0 ∙ ap is_taken (sym (empty q l lt').1))
                (λ (ge : y + n ≤ q). ap taken_z (w.below q ge ∙ h q m) ∙ taken_is f q ∙ ap is_taken (high q ge))
                (lt_or_le q (y + n));
            settled = λ j q l m lt' ne.
                let past : y + n ≤ j = ⊎_elim (λ (lo : j < y + n). absurd (ne (empty j l lo).1)) (λ ge. ge) (lt_or_le j (y + n)) in
                w.below q (omega arith) ∙ h q lt' ∙ weight_after f g j q m (λ e. ne (sym (high j past) ∙ e)) (λ i b₁ b₂. high i (omega arith));
          }

module _ {W H c y n : ℕ} {s u t : List ℤ} (fits : y + n ≤ H) where
  pub column_added : {v : ℕ} {z : ℤ} → 1 ≤ n → 1 ≤ v → z ≡ neg_ℤ (pos v) → Filled W c y n z s u → Recounted W H c (y + n) 0 u t → ColumnAdded W H c y n v s t
  column_added {v} {z} hn hv e a b = record { only = only_then a.only b.only; told = told }
    where
      told : (f : ℕ → ℕ) → Holds W H c f s → Holds W H c (over f y n v) t
      told f h =
          column_told W H c y n (y + n) 0 _ s u t a b f g h (omega arith) (omega arith)
          (λ r l. sym (over_low f y n v r l))
          (λ r l. sym (over_high f y n v r l))
          (λ r lo hi. e ∙ sym (taken_weight g r v (over_in f y n v r lo hi) (λ z. omega arith)))
          (λ r lo hi. absurd (omega arith))
          start
        where
          g : ℕ → ℕ
          g = over f y n v

          -- the last of the module's rows ends the run above
          start : run g (y + n) ≡ 0
          start =
              ap (run g) (let e : y + n ≡ suc (y + n - 1) = omega arith in e)
              ∙ run_end g (y + n - 1) (λ z. let e : g (y + n - 1) ≡ v = over_in f y n v (y + n - 1) (omega arith) (omega arith) in omega arith)

  pub column_removed : {k : ℕ} → Filled W c y n (pos 1) s u → k ≡ run_above W s c y → Recounted W H c y k u t → ColumnRemoved W H c y n s t
  column_removed {k} a e b = record { only = only_then a.only b.only; told = told }
    where
      told : (v : ℕ) (f : ℕ → ℕ) → ((r : ℕ) → y ≤ r → r < y + n → f r ≡ 0) → Holds W H c (over f y n v) s → Holds W H c f t
      told v f z h =
          column_told W H c y n y k _ s u t a b g f h (omega arith) (omega arith)
          (over_low f y n v)
          (over_high f y n v)
          (λ r lo hi. absurd (omega arith))
          (λ r lo hi. (refl, z r lo hi))
          (run_same f g y (λ i l. sym (over_low f y n v i l)) ∙ told_above y (omega arith) ∙ sym e)
        where
          g : ℕ → ℕ
          g = over f y n v

          told_above : (p : ℕ) → p ≤ H → run g p ≡ run_above W s c p
          told_above zero l = unfold run in refl
          told_above (suc q) l = sym (ap count_of (h q l) ∙ count_is g q)
