-- `SurfaceMut::change` meets its contract. Assumes nothing.
use Rattle.std.proofs.Common.{◌≡◌, refl, sym, ap, ◌∙◌, cond, Bool, true, false}
use mathlib.Core.Path.{subst}
use borrow.Author.Rules.{rules}
use Rattle.rules.specs.Surface.{record_of, free_record, with_record}
use Rattle.rules.specs.Requests.{id_low, id_high, needs_old, record_after}
use Rattle.meaning.specs.Change.{Placing}
use Rattle.table.specs.Record.{kind_byte}
use Rattle.requests.specs.SurfaceMut.{Kept}
use Rattle.requests.specs.declared.serve.SurfaceMut.{SurfaceMut}
use Rattle.requests.proofs.Halves.{HalfDone, change_taking, second_half, removed, taken_stands, put_stands}
use Rattle.requests.proofs.serve.SurfaceMut.change.Goals as goal
use Rattle.requests.proofs.serve.SurfaceMut.change.Goals.{Joined-needs_old, After-kind, then-needs_old, else-needs_old}

-- the first half is done
halved : (c : Joined-needs_old) → let a = c.args in let d = a.self.now in let m = c.if-needs_old.self in Kept d m × HalfDone d.w d.h d.table.now a.q.now a.accepted.slot m
halved c =
    let a = c.args in
    let d = a.self.now in
    let t = d.table.now in
    let i = a.accepted.slot in
    let by : SurfaceMut → Type 0 = λ m. Kept d m × HalfDone d.w d.h t a.q.now i m in
    let old : (b : Bool) → c.needs_old.result ≡ b → cond b (with_record t i free_record) t ≡ cond (needs_old a.q.now) (with_record t i free_record) t =
    λ b e. ap (λ b. cond b (with_record t i free_record) t) (sym e ∙ c.needs_old.ensures a.q.now c.requires.asks) in
    elim c.if-needs_old.branch [
      | then-needs_old z ↦ subst by (sym z.self-is) (search rules, record { w = refl; h = refl; table = z.take_out.ensures.t_after ∙ old true z.if-needs_old.true })
      | else-needs_old z ↦ subst by (sym z.self-is) (search rules, record { w = refl; h = refl; table = old false z.if-needs_old.false })
    ]

-- and the second may be
put : (c : After-kind) → let a = c.args in let d = a.self.now in let m = c.if-needs_old.self in let t = m.table.now in let i = a.accepted.slot in let r = a.accepted.rect in
    HalfDone d.w d.h d.table.now a.q.now i m →
    Placing m.w m.h m.weights.now t i (id_low a.q.now) (id_high a.q.now) r (kind_byte c.kind.result) × (with_record t i (record_of (id_low a.q.now) (id_high a.q.now) r (kind_byte c.kind.result)) ≡ with_record d.table.now i (record_after a.q.now r))
put c k = rw (c.kind.ensures c.args.q.now c.requires.asks) (second_half _ _ _ _ _ _ _ c.requires.change _ k (sym (c.is_remove.ensures c.args.q.now c.requires.asks) ∙ c.if-not-is_remove.true))

pub take_out-requires : goal.take_out-requires
take_out-requires c = change_taking _ _ _ _ _ _ _ c.requires.change (sym (c.needs_old.ensures c.args.q.now c.requires.asks) ∙ c.if-needs_old.true)

pub invariant_of-self : goal.invariant_of-self
invariant_of-self c =
    let t = change_taking _ _ _ _ _ _ _ c.requires.change (sym (c.needs_old.ensures c.args.q.now c.requires.asks) ∙ c.if-needs_old.true) in
    record { standing = taken_stands t c.take_out.ensures.t_after c.take_out.ensures.s_after }

pub put_in-requires : goal.put_in-requires
put_in-requires c = let g = goal.at.put_in-requires c in (put g.After-kind (halved g.Joined-needs_old).1).0

pub invariant_of-self-then-not-is_remove : goal.invariant_of-self-then-not-is_remove
invariant_of-self-then-not-is_remove c =
    let g = goal.at.invariant_of-self-then-not-is_remove c in
    record { standing = put_stands (put g.After-kind (halved g.Joined-needs_old).1).0 c.put_in.ensures.t_after c.put_in.ensures.s_after }

pub returns-then-not-is_remove-clause-changed : goal.returns-then-not-is_remove-clause-changed
returns-then-not-is_remove-clause-changed c =
    let g = goal.at.returns-then-not-is_remove-clause-changed c in
    c.put_in.ensures.t_after ∙ (put g.After-kind (halved g.Joined-needs_old).1).1

pub returns-else-not-is_remove : goal.returns-else-not-is_remove
returns-else-not-is_remove c =
    let k = halved (goal.at.returns-else-not-is_remove c).Joined-needs_old in
    record { kept = k.0; changed = removed _ _ _ _ _ _ _ c.requires.change _ k.1 (sym (c.is_remove.ensures c.args.q.now c.requires.asks) ∙ c.if-not-is_remove.false) }
