-- From columns to the surface: a walk from column to column, and what it comes to where each column is that of one module more, or less. Assumes nothing.
use mathlib.Core.Path.{◌≡◌, refl, sym, ap, ◌∙◌}
use mathlib.Core.Logic.{◌⊎◌, inl, inr, ⊎_elim}
use mathlib.Core.List.{List}
use Prim.Native.Nat.{ℕ, zero, suc, ◌+◌, ◌≤◌, ◌<◌}
use native.Mathlib.Omega.{arith}
use borrow.Author.Count.{below_more}
use lib.IntN.{ℤ}
use lib.ListN.{length}
use Rattle.cells.specs.Weight.{count_of}
use Rattle.rules.specs.Surface.{cell}
use Rattle.rules.specs.declared.Rect.{Rect}
use Rattle.meaning.specs.Column.{run, over, beside, weight_in, Holds, HoldsAll}
use Rattle.modules.specs.Walk.{Only, run_above, Shallow, Added, Removed}
use Rattle.meaning.proofs.Columns.{run_le, weight_same, within_yes, covers_in, beside_in, beside_out}
use Rattle.modules.proofs.Place.{count_is}
use Rattle.rules.proofs.Tests.{lt_or_le}

-- the walk over the n columns from x has come to column c: each column d behind it that was F d f is now G d f
pub record Walked {A : Type 0} (W H x n : ℕ) (P : ℕ → A → Type 0) (F G : ℕ → A → ℕ → ℕ) (c : ℕ) (s₀ s : List ℤ) : Type 0 where
  pub from : x ≤ c
  pub upto : c ≤ x + n
  pub long : length s ≡ length s₀
  pub done : (d : ℕ) → d < c → x ≤ d → (f : A) → P d f → Holds W H d (F d f) s₀ → Holds W H d (G d f) s
  pub rest : (d r : ℕ) → d < W → (d < x) ⊎ (c ≤ d) → cell W s d r ≡ cell W s₀ d r

module _ {A : Type 0} {W H x n : ℕ} {P : ℕ → A → Type 0} {F G : ℕ → A → ℕ → ℕ} where
  pub walk_more : {c : ℕ} {s₀ s t : List ℤ} → Walked W H x n P F G c s₀ s → c < x + n → x + n ≤ W → Only W c s t → ((f : A) → P c f → Holds W H c (F c f) s → Holds W H c (G c f) t) → Walked W H x n P F G (c + 1) s₀ t
  walk_more {c} {s₀} {s} {t} d l fits o told =
      record {
        from = omega (arith, d.from);
        upto = omega arith;
        long = o.long ∙ d.long;
        done = below_more (λ e. x ≤ e → (f : A) → P e f → Holds W H e (F e f) s₀ → Holds W H e (G e f) t) c
            (λ e u le f p h r lt. o.others e r (omega arith) (λ q. omega arith) ∙ d.done e u le f p h r lt)
            (λ le f p h. told f p (λ r lt. d.rest c r (omega arith) (inr (omega arith)) ∙ h r lt));
        rest = λ e r he w.
            ⊎_elim
            (λ (lo : e < x). o.others e r he (λ q. omega (arith, d.from)) ∙ d.rest e r he (inl lo))
            (λ (hi : c + 1 ≤ e). o.others e r he (λ q. omega arith) ∙ d.rest e r he (inr (omega arith)))
            w;
      }

-- the columns of a module that is added, with the number g c in column c
abbrev pub Adding : ℕ → ℕ → Rect → (ℕ → ℕ) → ℕ → List ℤ → List ℤ → Type 0
Adding W H m g = Walked W H m.x m.w (λ c f. Unit {0}) (λ c f. f) (λ c f. over f m.y m.h (g c))

-- and of one that is removed: whatever its number was, and whatever the column is without it
abbrev pub Removing : ℕ → ℕ → Rect → ℕ → List ℤ → List ℤ → Type 0
Removing W H m =
    Walked {A = ℕ × (ℕ → ℕ)} W H m.x m.w
    (λ c p. (r : ℕ) → m.y ≤ r → r < m.y + m.h → p.1 r ≡ 0)
    (λ c p. over p.1 m.y m.h p.0)
    (λ c p. p.1)

-- the count above a row is at most the row's number
pub shallow : (W H : ℕ) (f : ℕ → ℕ → ℕ) (s : List ℤ) (y : ℕ) → y ≤ H → HoldsAll W H f s → Shallow W y s
shallow W H f s zero l h c hc = omega arith
shallow W H f s (suc q) l h c hc =
    let k : count_of (cell W s c q) ≡ run (f c) (suc q) = ap count_of (h c hc q l) ∙ count_is (f c) q in
    omega (arith, run_le (f c) (suc q))

-- a column that is still as it was has its count still
pub above_same : (W : ℕ) (s₀ s : List ℤ) (c y : ℕ) → ((r : ℕ) → cell W s c r ≡ cell W s₀ c r) → run_above W s₀ c y ≤ y → run_above W s c y ≤ y
above_same W s₀ s c zero same l = l
above_same W s₀ s c (suc q) same l = let k : count_of (cell W s c q) ≡ count_of (cell W s₀ c q) = ap count_of (same q) in omega arith

-- ---- one module more, and one less

-- past the last column: where p and q are what the walk's columns were and are, and the same in all others, columns that were p are q
module _ {A : Type 0} (W H x n : ℕ) (P : ℕ → A → Type 0) (F G : ℕ → A → ℕ → ℕ) (k : ℕ) (s₀ s : List ℤ) (d : Walked W H x n P F G k s₀ s) (end : x + n ≤ k) where
  walk_all : (f : ℕ → A) (p q : ℕ → ℕ → ℕ) →
      ((c : ℕ) → x ≤ c → c < x + n → P c (f c) × ((r : ℕ) → p c r ≡ F c (f c) r) × ((r : ℕ) → G c (f c) r ≡ q c r)) →
      ((c : ℕ) → (c < x) ⊎ (x + n ≤ c) → (r : ℕ) → p c r ≡ q c r) → HoldsAll W H p s₀ → HoldsAll W H q s
  walk_all f p q ins out h c hc r hr =
      ⊎_elim (λ (lo : c < x). others (inl lo)) (λ (lo : x ≤ c). ⊎_elim (own lo) (λ (hi : x + n ≤ c). others (inr hi)) (lt_or_le c (x + n))) (lt_or_le c x)
    where
      own : x ≤ c → c < x + n → cell W s c r ≡ weight_in (q c) r
      own lo hi =
          let w = ins c lo hi in
          d.done c (omega arith) lo (f c) w.0 (λ j l. h c hc j l ∙ weight_same (p c) (F c (f c)) j (λ i _. w.1 i)) r hr ∙ weight_same (G c (f c)) (q c) r (λ i _. w.2 i)

      others : (c < x) ⊎ (x + n ≤ c) → cell W s c r ≡ weight_in (q c) r
      others o = d.rest c r hc (⊎_elim (λ (lo : c < x). inl lo) (λ (hi : x + n ≤ c). inr (omega (arith, d.upto))) o) ∙ h c hc r hr ∙ weight_same (p c) (q c) r (λ i _. out c o i)

module _ {W H : ℕ} {m : Rect} {s₀ s : List ℤ} where
  pub add_all : {g : ℕ → ℕ} {k : ℕ} → Adding W H m g k s₀ s → m.x + m.w ≤ k → Added W H m g s₀ s
  add_all {g} {k} a l = record {
    long = a.long;
    told = λ f. walk_all W H m.x m.w _ _ _ k s₀ s a l f f (beside m g f) (λ c lo hi. (tt, (λ r. refl), λ r. sym (beside_in m g f c lo hi r))) (λ c o r. sym (beside_out m g f c o r));
  }

  pub remove_all : {k : ℕ} → Removing W H m k s₀ s → m.x + m.w ≤ k → Removed W H m s₀ s
  remove_all {k} a l = record {
    long = a.long;
    told = λ g f z. walk_all W H m.x m.w _ _ _ k s₀ s a l (λ c. (g c, f c)) (beside m g f) f
        (λ c lo hi. ((λ r b e. z c r (covers_in m c lo hi r ∙ within_yes m.y m.h r b e)), (λ r. beside_in m g f c lo hi r), λ r. refl))
        (beside_out m g f);
  }
