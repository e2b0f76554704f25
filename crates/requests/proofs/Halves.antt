-- THE CHANGE OF AN ACCEPTED REQUEST may be made, half by half. And what serving leaves: a surface that stands. Assumes nothing.
use mathlib.Core.Path.{◌≡◌, sym, ap, ap₂, ◌∙◌, subst}
use mathlib.Core.Bool.{Bool, true, false, cond, ◌||◌}
use mathlib.Core.List.{List}
use Prim.Native.Nat.{ℕ}
use native.Mathlib.Omega.{arith}
use lib.IntN.{ℤ}
use Rattle.rules.specs.Surface.{Standing, record_of, free_record, with_record, fresh}
use Rattle.rules.specs.Requests.{id_low, id_high, is_remove, is_exchange, needs_old, kind_asked, step_of, answer_of, record_after, table_after, weights_after, accepted_one}
use Rattle.rules.specs.declared.Rect.{Rect}
use Rattle.rules.specs.Refusals.{Step}
use Rattle.meaning.specs.Change.{On, Placing, Taking, Change}
use Rattle.table.specs.Record.{Bytes}
use Rattle.meaning.proofs.Stands.{standing_fresh}
use Rattle.meaning.proofs.Changes.{taken_sound, take_stands, put_stands as stands_put}
use Rattle.meaning.specs.Change.Change.{puts, takes, swaps}
use Rattle.meaning.proofs.Steps.{put_leaves, take_leaves, swap_leaves}
use Rattle.rules.proofs.Tests.{not_both}
use Rattle.requests.specs.Steps.{Served}
use Rattle.requests.specs.declared.serve.SurfaceMut.{SurfaceMut}

-- the first half of what the request q does with slot i: the module that it needs is out
pub record HalfDone (W H : ℕ) (t q : List ℕ) (i : ℕ) (m : SurfaceMut) : Type 0 where
  pub w : m.w ≡ W
  pub h : m.h ≡ H
  pub table : m.table.now ≡ cond (needs_old q) (with_record t i free_record) t

-- ---- the change of an accepted request, in two halves: the old module out, the new one in. Each half is made by some operations and not by others

module _ (W H : ℕ) (s : List ℤ) (t q : List ℕ) (i : ℕ) (r : Rect) (d : Change W H s t q i r) where
  pub change_standing : Standing W H s t
  change_standing = elim d [
    | puts n l p ↦ p.standing
    | takes o x p m ↦ p.taking.standing
    | swaps o x p v n ↦ p.taking.standing
  ]

  pub change_taking : needs_old q ≡ true → Taking W H s t i
  change_taking e = elim d [
    | puts n l p ↦ not_both (needs_old q) e (ap₂ ◌||◌ n.no_remove n.no_exchange)
    | takes o x p m ↦ p.taking
    | swaps o x p v n ↦ p.taking
  ]

  pub change_on : On W H r
  change_on = elim d [
    | puts n l p ↦ p.place
    | takes o x p m ↦ subst (On W H) (sym m) (taken_sound W H s t i p.taking).place
    | swaps o x p v n ↦ n.place
  ]

  -- the first half leaves the surface m
  module _ (m : SurfaceMut) (k : HalfDone W H t q i m) where
    first_half : (b : Bool) → needs_old q ≡ b → m.table.now ≡ cond b (with_record t i free_record) t
    first_half b e = k.table ∙ ap (λ b. cond b (with_record t i free_record) t) e

    -- the second half may be made, and the record that it writes is written over the old one
    pub second_half : is_remove q ≡ false → let t' = m.table.now in let new = record_of (id_low q) (id_high q) r (kind_asked q) in
        Placing m.w m.h m.weights.now t' i (id_low q) (id_high q) r (kind_asked q) × (with_record t' i new ≡ with_record t i (record_after q r))
    second_half f =
        let t' = m.table.now in
        let new = record_of (id_low q) (id_high q) r (kind_asked q) in
        let by : (u : List ℕ) → t' ≡ u → Placing W H (fresh W H u) u i (id_low q) (id_high q) r (kind_asked q) → Placing m.w m.h m.weights.now t' i (id_low q) (id_high q) r (kind_asked q) =
        λ u e p. rw (standing_fresh _ _ _ _ m.standing, k.w, k.h, e) p in
        elim d [
          | puts n l p ↦
              let e = first_half false (ap₂ ◌||◌ n.no_remove n.no_exchange) in
              (by t e (subst (λ a. Placing W H a t i (id_low q) (id_high q) r (kind_asked q)) (standing_fresh W H s t change_standing) p), ap (λ u. with_record u i new) e ∙ sym (put_leaves W H s t q i r f))
          | takes o x p m ↦ not_both (is_remove q) o f
          | swaps o x p v n ↦ let e = first_half true (ap₂ ◌||◌ o x) in (by _ e n, ap (λ u. with_record u i new) e ∙ sym (swap_leaves W H s t q i r f p.taking))
        ]

    -- a remove is done
    pub removed : is_remove q ≡ true → m.table.now ≡ with_record t i (record_after q r)
    removed f = first_half true (ap (λ b. b || is_exchange q) f) ∙ sym (take_leaves W H s t q i r f)

-- each half leaves a surface that stands
pub taken_stands : {W H : ℕ} {s s' : List ℤ} {t t' : List ℕ} {i : ℕ} → Taking W H s t i → t' ≡ with_record t i free_record → s' ≡ fresh W H t' → Standing W H s' t'
taken_stands {W} {H} {s} {s'} {t} {t'} {i} p et es = rw (es, et) (take_stands W H s t i p)

pub put_stands : {W H : ℕ} {s s' : List ℤ} {t t' : List ℕ} {i low high : ℕ} {r : Rect} {kind : ℕ} → Placing W H s t i low high r kind → t' ≡ with_record t i (record_of low high r kind) → s' ≡ fresh W H t' → Standing W H s' t'
put_stands {W} {H} {s} {s'} {t} {t'} {i} {low} {high} {r} {kind} p et es = rw (es, et) (stands_put W H s t i low high r kind p)

-- ---- what serving leaves

-- a place on a surface is four bytes
pub on_bytes : (W H : ℕ) (s : List ℤ) (t : List ℕ) (r : Rect) → Standing W H s t → On W H r → Bytes r
on_bytes W H s t r d o = record {
  x = omega (arith, d.sides.widest, o.columns);
  y = omega (arith, d.sides.highest, o.lines);
  w = omega (arith, d.sides.widest, o.columns);
  h = omega (arith, d.sides.highest, o.lines);
}

module _ (W H : ℕ) (q : List ℕ) (s : List ℤ) (t : List ℕ) where
  pub served_by : (s' : List ℤ) (t' a : List ℕ) (k : Step) → step_of W H t q ≡ k → s' ≡ weights_after W H q k t s → t' ≡ table_after q k t → a ≡ answer_of q k → Served W H q s t s' t' a (accepted_one k)
  served_by s' t' a k e es et ea = record {
    weights = es ∙ sym (ap (λ k. weights_after W H q k t s) e);
    table = et ∙ sym (ap (λ k. table_after q k t) e);
    answer = ea ∙ sym (ap (answer_of q) e);
    accepted = sym (ap accepted_one e);
  }
