-- The records of a piece in turn. Assumes nothing.
use mathlib.Core.Path.{◌≡◌, refl, sym, ap, ap₂, ◌∙◌, subst, subst⁻¹}
use mathlib.Core.List.{List, ◌++◌}
use Prim.Native.Nat.{ℕ, zero, suc, ◌+◌, ◌-◌, ◌*◌, ◌≤◌}
use native.Mathlib.Omega.{arith}
use lib.IntN.{ℤ}
use lib.ListN.{length, take, drop, length-append}
use borrow.Rule.Slice.PartMut.{put_mid}
use Rattle.cells.proofs.Parts.{put_part}
use Rattle.stream.specs.Records.{Kept, kept, records, after_records, answers_to}
use Rattle.stream.specs.Promise.{Ready, Holds, ServedAll}
use Rattle.stream.proofs.Laws.{held_is}
use Rattle.stream.proofs.Cuts.{part, part_is_long, kept_part, answers_part}

-- the first k records are served
pub record ServedTo (b : List ℕ) (z : Kept) (a₀ : List ℕ) (k w h : ℕ) (s : List ℤ) (t a : List ℕ) : Type 0 where
  pub holds : Holds (after_records b z k) w h s t
  pub answers : a ≡ answers_to b z k ++ drop (8 * k) a₀
  pub ready : Ready w h s t

pub answers_long : (b : List ℕ) (z : Kept) (k : ℕ) → length (answers_to b z k) ≡ 8 * k
unfolding answers_to
answers_long b z zero = refl
answers_long b z (suc k) = simp (length-append, answers_long b z k) (omega arith)

pub none_served : (b : List ℕ) (w h : ℕ) (s : List ℤ) (t a₀ : List ℕ) → Ready w h s t → ServedTo b (kept w h s t) a₀ 0 w h s t a₀
unfolding after_records answers_to
none_served b w h s t a₀ r = record { holds = record { columns = refl; rows = refl; room = refl; table = refl }; answers = refl; ready = r }

module _ (b : List ℕ) (z : Kept) (a₀ : List ℕ) where
  -- m records more, with the parts as the code lends them
  pub more_served : (k m w h : ℕ) (s : List ℤ) (t a : List ℕ) (w' h' : ℕ) (s' : List ℤ) (t' a' p : List ℕ) → 8 * k + 8 * m ≤ length b → ServedTo b z a₀ k w h s t a →
      ServedAll (take (8 * k + 8 * m - 8 * k) (drop (8 * k) b)) (kept w h s t) w' h' s' t' p → a' ≡ put_mid (8 * k) (8 * k + 8 * m - 8 * k) a p →
      ServedTo b z a₀ (k + m) w' h' s' t' a'
  more_served k m w h s t a w' h' s' t' a' p fit r v e =
      let c = part b k m fit in
      let y = after_records b z k in
      let e8 : 8 * k + 8 * m - 8 * k ≡ 8 * m = omega arith in
      let v' : ServedAll c (kept w h s t) w' h' s' t' p = subst (λ j. ServedAll (take j (drop (8 * k) b)) (kept w h s t) w' h' s' t' p) e8 v in
      let u : ServedAll c y w' h' s' t' p = subst (λ x. ServedAll c x w' h' s' t' p) (held_is y w h s t r.holds) v' in
      let n : records c ≡ m = let l = part_is_long b k m fit in omega arith in
      let d : 8 * k + 8 * m ≡ 8 * (k + m) = omega arith in
      record {
        holds = subst⁻¹ (λ x. Holds x w' h' s' t') (kept_part b k m fit z) (subst (λ j. Holds (after_records c y j) w' h' s' t') n u.holds);
        answers = e ∙ ap (λ l. put_mid (8 * k) (8 * k + 8 * m - 8 * k) l p) r.answers ∙ put_part (answers_to b z k) a₀ p (8 * k) (8 * m) (answers_long b z k)
            ∙ ap (λ l. (answers_to b z k ++ l) ++ drop (8 * k + 8 * m) a₀) (u.answers ∙ ap (answers_to c y) n)
            ∙ ap₂ (λ l j. l ++ drop j a₀) (sym (answers_part b k m fit z)) d;
        ready = u.ready;
      }
