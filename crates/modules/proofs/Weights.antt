-- WEIGHTS THAT THE WALKS LEAVE are those of the table with one module more, or less. Assumes nothing.
use mathlib.Core.Path.{◌≡◌, sym, ap, ◌∙◌, subst, subst₂}
use mathlib.Core.List.{List}
use Prim.Native.Nat.{ℕ, ◌<◌}
use native.Mathlib.Omega.{arith}
use lib.IntN.{ℤ}
use Rattle.rules.specs.Surface.{rect_of, number, record_of, free_record, with_record, fresh}
use Rattle.rules.specs.declared.Rect.{Rect}
use Rattle.meaning.specs.Column.{column, beside, HoldsAll}
use Rattle.meaning.specs.Change.{On, Placing, Taking}
use Rattle.meaning.proofs.Columns.{weight_same, column_empty}
use Rattle.meaning.proofs.Weights.{fresh_long}
use Rattle.meaning.proofs.Stands.{standing_fresh}
use Rattle.meaning.proofs.More.{OneMore, column_more, fresh_holds, holds_fresh}
use Rattle.meaning.proofs.Changes.{put_more, taken_sound, taken_less}
use Rattle.modules.specs.Walk.{Shallow, Added, Removed}
use Rattle.modules.proofs.Plane.{shallow}

module _ (W H : ℕ) (t u : List ℕ) (i : ℕ) (m : Rect) (o : OneMore t u i m) where
  -- the module is added to the weights of t: they are those of u
  pub added_fresh : (s : List ℤ) → 0 < W → Added W H m (number i m) (fresh W H t) s → s ≡ fresh W H u
  added_fresh s w a =
      holds_fresh W H u s w (a.long ∙ fresh_long W H t)
      (λ c hc r hr. a.told (column t) (fresh_holds W H t) c hc r hr ∙ weight_same (beside m (number i m) (column t) c) (column u c) r (λ q l. sym (column_more t u i m o c q)))

  -- the module is removed from the weights of u: they are those of t
  pub removed_fresh : (s : List ℤ) → 0 < W → Removed W H m (fresh W H u) s → s ≡ fresh W H t
  removed_fresh s w a =
      holds_fresh W H t s w (a.long ∙ fresh_long W H u)
      (a.told (number i m) (column t) (λ c r e. column_empty t c r (o.alone c r e))
      (λ c hc r hr. fresh_holds W H u c hc r hr ∙ weight_same (column u c) (beside m (number i m) (column t) c) r (λ q l. column_more t u i m o c q)))

-- a module put in
module _ {W H : ℕ} {s : List ℤ} {t : List ℕ} {i low high : ℕ} {r : Rect} {kind : ℕ} (p : Placing W H s t i low high r kind) where
  -- weights with the module added are those of the table with its record
  pub put_weights : {s' : List ℤ} {t' : List ℕ} → Added W H r (number i r) s s' → t' ≡ with_record t i (record_of low high r kind) → s' ≡ fresh W H t'
  put_weights {s'} {t'} a e = added_fresh W H t (with_record t i (record_of low high r kind)) i r (put_more W H s t i low high r kind p) s' p.standing.sides.wide (subst (λ l. Added W H r (number i r) l s') (standing_fresh W H s t p.standing) a) ∙ ap (fresh W H) (sym e)

-- a module taken out
module _ {W H : ℕ} {s : List ℤ} {t : List ℕ} {i : ℕ} (p : Taking W H s t i) where
  -- its place lies on the surface, and its counts are what a walk from its top row may go on from
  pub taken_on : {m : Rect} → m ≡ rect_of t i → On W H m
  taken_on at = subst (On W H) (sym at) (taken_sound W H s t i p).place

  pub taken_shallow : {m : Rect} → m ≡ rect_of t i → Shallow W m.y s
  taken_shallow {m} at =
      shallow W H (column t) s m.y (omega (arith, (taken_on at).lines)) (subst (HoldsAll W H (column t)) (sym (standing_fresh W H s t p.standing)) (fresh_holds W H t))

  -- weights with the module removed are those of the table without its record
  pub take_weights : {m : Rect} {s' : List ℤ} {t' : List ℕ} → m ≡ rect_of t i → Removed W H m s s' → t' ≡ with_record t i free_record → s' ≡ fresh W H t'
  take_weights {m} {s'} {t'} at a e = removed_fresh W H (with_record t i free_record) t i (rect_of t i) (taken_less W H s t i p) s' p.standing.sides.wide (subst₂ (λ m l. Removed W H m l s') at (standing_fresh W H s t p.standing) a) ∙ ap (fresh W H) (sym e)
