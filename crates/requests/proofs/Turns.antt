-- The requests of a block in turn: the state after the first k is what the code has. Assumes nothing.
use Rattle.std.proofs.Common.{Bool, true, false, cond}
use mir.Val.{bool_byte as from_bool}
use mathlib.Core.Path.{◌≡◌, refl, sym, ap, ap₂, ◌∙◌, subst}
use mathlib.Core.List.{List, ◌++◌}
use Prim.Native.Nat.{ℕ, zero, suc, ◌+◌, ◌-◌, ◌*◌, ◌≤◌}
use native.Mathlib.Omega.{arith}
use lib.IntN.{ℤ}
use lib.ListN.{length, take, drop, length-append}
use borrow.Rule.Slice.PartMut.{put_mid, Post-is}
use Rattle.cells.proofs.Parts.{put_part}
use Rattle.rules.specs.Requests.{step_of, answer_of, table_after, weights_after, accepted_one}
use Rattle.rules.specs.Blocks.{State, started, request, after, after_by, next_by}
use Rattle.rules.specs.Refusals.{Step, Refused, Done}
use Rattle.requests.specs.Steps.{Served, bytes_at, ServedAt}

-- the first k requests are run
pub record RanTo (W H : ℕ) (s₀ : List ℤ) (t₀ b a₀ : List ℕ) (k : ℕ) (s : List ℤ) (t a : List ℕ) (n : ℕ) : Type 0 where
  pub weights : s ≡ (after W H b (started s₀ t₀) k).weights
  pub table : t ≡ (after W H b (started s₀ t₀) k).table
  pub answers : a ≡ (after W H b (started s₀ t₀) k).answers ++ drop (8 * k) a₀
  pub accepted : n ≡ (after W H b (started s₀ t₀) k).accepted
  pub few : n ≤ k

one_most : (d : Step) → accepted_one d ≤ 1
one_most (Refused c) = omega arith
one_most (Done i r) = omega arith

-- the part that the code lends is the eight bytes at that offset
pub served_at : (W H : ℕ) (b : List ℕ) (at : ℕ) (s : List ℤ) (t a : List ℕ) (s' : List ℤ) (t' p : List ℕ) (n : ℕ) → Served W H (take (at + 8 - at) (drop at b)) s t s' t' p n →
    ServedAt W H b at s t a s' t' (put_mid at (at + 8 - at) a p) n
served_at W H b at s t a s' t' p n v =
    let e8 : at + 8 - at ≡ 8 = omega arith in
    let w : Served W H (bytes_at b at) s t s' t' p n = subst (λ j. Served W H (take j (drop at b)) s t s' t' p n) e8 v in
    record { weights = w.weights; table = w.table; answers = ap₂ (λ x y. take at a ++ (x ++ y)) w.answer (Post-is at (at + 8) a (omega arith)); accepted = w.accepted }

module _ (W H : ℕ) (s₀ : List ℤ) (t₀ b a₀ : List ℕ) where
  abbrev state : ℕ → State
  state k = after W H b (started s₀ t₀) k

  pub ran_none : RanTo W H s₀ t₀ b a₀ 0 s₀ t₀ a₀ 0
  unfolding after_by
  ran_none = record { weights = refl; table = refl; answers = refl; accepted = refl; few = omega arith }

  pub answers_long : (k : ℕ) → length (state k).answers ≡ 8 * k
  unfolding after_by next_by
  answers_long zero = refl
  answers_long (suc k) = simp (length-append, answers_long k) (omega arith)

  -- one request more
  pub ran_suc : (k : ℕ) (s : List ℤ) (t a : List ℕ) (s' : List ℤ) (t' a' : List ℕ) (n m : ℕ) → RanTo W H s₀ t₀ b a₀ k s t a n → ServedAt W H b (8 * k) s t a s' t' a' m →
      RanTo W H s₀ t₀ b a₀ (suc k) s' t' a' (n + m)
  unfolding after_by next_by
  ran_suc k s t a s' t' a' n m r v =
      let q = request b k in
      let p = answer_of q (step_of W H t q) in
      let X = (state k).answers in
      let e8 : 8 * k + 8 ≡ 8 * suc k = omega arith in
      record {
        weights = v.weights ∙ ap₂ (λ x y. weights_after W H q (step_of W H y q) y x) r.weights r.table;
        table = v.table ∙ ap (λ y. table_after q (step_of W H y q) y) r.table;
        answers = v.answers ∙ ap (λ l. take (8 * k) l ++ (p ++ drop (8 * k + 8) l)) r.answers
            ∙ ap (λ z. take (8 * k) (X ++ drop (8 * k) a₀) ++ (p ++ z)) (sym (Post-is (8 * k) (8 * k + 8) (X ++ drop (8 * k) a₀) (omega arith)))
            ∙ put_part X a₀ p (8 * k) 8 (answers_long k)
            ∙ ap₂ (λ y j. (X ++ answer_of q (step_of W H y q)) ++ drop j a₀) r.table e8;
        accepted = ap₂ ◌+◌ r.accepted (v.accepted ∙ ap (λ y. accepted_one (step_of W H y q)) r.table);
        few = omega (arith, r.few, v.accepted, one_most (step_of W H t q));
      }

-- 1 for a request that is accepted, 0 else: as std counts a Bool
pub bit : (b : Bool) → from_bool b ≡ cond b 1 0
bit true = refl
bit false = refl
