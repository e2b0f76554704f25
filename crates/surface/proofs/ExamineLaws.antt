-- Laws of examining: the scratch, the answer, the parts of "a surface stands". Assumes nothing.
use mathlib.Core.Path.{◌≡◌, refl, sym, ap, ◌∙◌, subst}
use mathlib.Core.Bool.{Bool, true, false, true≢false}
use mathlib.Core.Logic.{⊎_elim}
use mathlib.Core.List.{List, ◌∷◌}
use Prim.Native.Nat.{ℕ, zero, suc, ◌*◌, ◌≤◌}
use native.Mathlib.Omega.{arith}
use lib.IntN.{ℤ, pos}
use lib.ListN.{length, take, replicate}
use lib.Seq.{length-take-le}
use Rattle.rules.specs.Surface.{fresh, stands, weights_right, used_slots}
use Rattle.rules.proofs.Tests.{and_both, fails, decide}
use Rattle.meaning.proofs.Weights.{stands_cell, fresh_long, fresh_of, right_fresh}
use Rattle.cells.specs.Weight.{same_weights}
use Rattle.cells.proofs.Laws.{same_equal, equal_same}
use Rattle.surface.specs.Slots.{table_stands}
use Rattle.surface.specs.Examine.{Tells, WorkedOut}
use Rattle.rules.proofs.Refusals.{coded}
use Rattle.rules.specs.declared.Refusal.{Refusal}
use Rattle.rules.specs.declared.Refusal.TheVariants.{DoesNotStand}
use Rattle.std.specs.Prelude.{cond, Result, Ok, Err}

-- ---- the scratch

pub ones_part : (n k : ℕ) → n ≤ k → take n (replicate k (pos 1)) ≡ replicate n (pos 1)
ones_part zero k h = refl
ones_part (suc n) zero h = absurd (omega arith)
ones_part (suc n) (suc k) h = ap (λ l. pos 1 ∷ l) (ones_part n k (omega arith))

-- a part of a list of known length
pub part : {A : Type 0} (n : ℕ) (l : List A) (m : ℕ) → n ≤ m → length l ≡ m → n ≡ length (take n l)
part n l m h e = sym (length-take-le n l (omega (arith, e)))

-- ---- the answer, by whether the surface stands

pub stood : (b : Bool) (t : List ℕ) (r : Result ℕ Refusal) (u : ℕ) → Tells b t r → r ≡ Ok u → (b ≡ true) × (u ≡ used_slots t)
stood true t r u a e = (refl, (subst (Tells true t) e a).used)
stood false t r u a e = absurd (let z : ◌≡◌ {A = ℕ} 0 6 = (subst (Tells false t) e a).code in omega arith)

pub fallen : (b : Bool) (t : List ℕ) (r : Result ℕ Refusal) (f : Refusal) → Tells b t r → r ≡ Err f → b ≡ false
fallen true t r f a e = absurd (omega (arith, coded f, (subst (Tells true t) e a).code))
fallen false t r f a e = refl

-- it is refused with code 6, whatever else is said to fall with it
pub falls_so : (b d : Bool) (t : List ℕ) (f : Refusal) → Tells b t (Err f) → d ≡ false → Tells d t (Err f)
falls_so true d t f a e = absurd (omega (arith, coded f, a.code))
falls_so false d t f a e = rw e a

module _ (b : Bool) (t : List ℕ) where
  pub stands_is : (u : ℕ) → b ≡ true → u ≡ used_slots t → Tells b t (Ok u)
  stands_is u e q = record { code = rw e; used = rw e q }

  pub falls_is : b ≡ false → Tells b t (Err DoesNotStand)
  falls_is e = record { code = rw e; used = rw e }

-- code 0, so it stands
pub no_code : (b : Bool) → ◌≡◌ {A = ℕ} 0 (cond b 0 6) → b ≡ true
no_code true e = refl
no_code false e = absurd (omega arith)

-- ---- the surface stands exactly when its table does and the lent weights are those worked out

module _ (W H : ℕ) (s : List ℤ) (t : List ℕ) where
  stands_same : 1 ≤ W → length s ≡ W * H → table_stands W H t ≡ true → stands W H s t ≡ same_weights (fresh W H t) s
  unfolding stands table_stands
  stands_same w l e =
      ⊎_elim
      (λ (q : same_weights (fresh W H t) s ≡ true).
      and_both e (ap (λ z. weights_right W H z t) (sym (same_equal (fresh W H t) s (fresh_long W H t ∙ sym l) q)) ∙ right_fresh W H t) ∙ sym q)
      (λ (q : same_weights (fresh W H t) s ≡ false).
      fails (stands W H s t) (λ z.
      let f = fresh_of W H t s w l (λ x y a b. stands_cell W H s t z x y a b) in
      true≢false (sym (equal_same (fresh W H t)) ∙ ap (same_weights (fresh W H t)) (sym f) ∙ q)) ∙ sym q)
      (decide (same_weights (fresh W H t) s))

-- what was worked out, where the table falls and where it stands, with u slots used
module _ (W H : ℕ) (s m : List ℤ) (t : List ℕ) (r : Result ℕ Refusal) (w : WorkedOut W H t r m) where
  pub table_fallen : (f : Refusal) → r ≡ Err f → Tells (stands W H s t) t (Err f)
  unfolding stands table_stands
  table_fallen f e =
      let q = fallen (table_stands W H t) t r f w.answer e in
      falls_so (table_stands W H t) (stands W H s t) t f (subst (Tells (table_stands W H t) t) e w.answer) (rw q)

  -- all that is left to ask is whether the lent weights are those worked out
  pub record Worked (u : ℕ) : Type 0 where
    pub long : length m ≡ W * H
    pub used : u ≡ used_slots t
    pub same : stands W H s t ≡ same_weights m s

  pub table_stood : 1 ≤ W → length s ≡ W * H → (u : ℕ) → r ≡ Ok u → Worked u
  table_stood h l u e =
      let q = stood (table_stands W H t) t r u w.answer e in
      let f = w.weights q.0 in
      record { long = ap length f ∙ fresh_long W H t; used = q.1; same = stands_same W H s t h l q.0 ∙ ap (λ z. same_weights z s) (sym f) }
