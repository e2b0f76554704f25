-- `requests::judge::judge` meets its contract. Assumes nothing.
use Rattle.std.proofs.Common.{◌≡◌, refl, sym, ap, ap₂, ◌∙◌, eqb, arith}
use mathlib.Core.Bool.{◌||◌}
use Rattle.std.proofs.lemmas.Result.{err_from_is_err_and}
use Rattle.rules.specs.Surface.{slots, rect_of}
use Rattle.rules.specs.Refusals.{Done, number_of}
use Rattle.rules.proofs.Refusals.{coded}
use Rattle.rules.specs.Requests.{id_asked, slot_of}
use Rattle.table.specs.Slot.{found_below, slot_or}
use Rattle.meaning.proofs.Operations.{step_unsound, by_asks, exchange_by}
use Rattle.requests.specs.Steps.{Passes}
use Rattle.requests.specs.declared.operation.Operation.TheVariants.{Place, Remove, Exchange}
use Rattle.requests.proofs.Lines.{form_refuses, id_decides, slot_told, slot_most, slot_there, told, there_told}
use Rattle.requests.proofs.StepLaws.{remove_step, exchange_rule}
use Rattle.requests.proofs.judge.judge.Goals as goal
use Rattle.requests.proofs.judge.judge.Goals.{After-slot_of-slot, In_ok-check_slot}

-- the slot of the request's id
slot : (c : After-slot_of-slot) → let t = c.args.surface.now.table.now in slot_or (slots t) c.slot_of-slot.result ≡ slot_of t (id_asked c.args.q.now)
slot c =
    let t = c.args.surface.now.table.now in
    slot_told (slots t) _ _ (slot_most t _) (c.slot_of-slot.ensures ∙ ap (λ n. found_below (slots t) (slot_of t n)) c.id_asked.ensures.0)

-- no code of 11 to 17 and 23 applies
passes : (c : In_ok-check_slot) → (let t = c.args.surface.now.table.now in slot_or (slots t) c.slot_of-slot.result ≡ slot_of t (id_asked c.args.q.now)) → Passes c.args.surface.now.table.now c.args.q.now
passes c e = sym (id_decides _ _ 0 0 _ c.in_ok-operation.ensures.code refl e c.in_ok-check_slot.ensures)

pub returns-in_err-operation-clause-step : goal.returns-in_err-operation-clause-step
returns-in_err-operation-clause-step c =
    let p = err_from_is_err_and c.from_residual.result c.from_residual.ensures.1 in
    let n : number_of c.in_err-operation.field-0.0 ≡ 0 → ⊥ = λ z. omega (arith, coded c.in_err-operation.field-0.0, z) in
    rw (p.1, p.2) (step_unsound _ _ _ _ _ (form_refuses c.args.surface.now.table.now _ _ c.in_err-operation.ensures.code n) n)

pub returns-in_err-check_slot-clause-step : goal.returns-in_err-check_slot-clause-step
returns-in_err-check_slot-clause-step c =
    let p = err_from_is_err_and c.from_residual-in_err-check_slot.result c.from_residual-in_err-check_slot.ensures.1 in
    let e = slot (goal.at.returns-in_err-check_slot-clause-step c).After-slot_of-slot in
    rw (p.1, p.2) (step_unsound _ _ _ _ _ (id_decides _ _ 0 _ _ c.in_ok-operation.ensures.code refl e c.in_err-check_slot.ensures) (λ z. omega (arith, coded c.in_err-check_slot.field-0.0, z)))

pub judge_place-requires : goal.judge_place-requires
judge_place-requires c =
    let g = goal.at.judge_place-requires c in
    (c.requires, passes g.In_ok-check_slot (slot g.After-slot_of-slot), told c.args.q.now _ c.in_ok-operation.ensures.asks (λ n. n) Place c.in-Place.is)

pub unwrap-old-requires : goal.unwrap-old-requires
unwrap-old-requires c = slot_there _ c.args.q.now _ (told c.args.q.now _ c.in_ok-operation.ensures.asks (λ n. eqb n 2 || eqb n 4) Remove c.in-Remove.is) c.in_ok-check_slot.ensures

pub returns-in-Remove-clause-step : goal.returns-in-Remove-clause-step
returns-in-Remove-clause-step c =
    let g = goal.at.returns-in-Remove-clause-step c in
    let e = slot g.After-slot_of-slot in
    let t = c.args.surface.now.table.now in
    let i = sym (ap (slot_or (slots t)) c.unwrap-old.ensures) ∙ e in
    ap₂ Done i (c.rect_at.ensures ∙ ap (rect_of t) i)
    ∙ remove_step _ _ _ _ (passes g.In_ok-check_slot e) (told c.args.q.now _ c.in_ok-operation.ensures.asks (λ n. n) Remove c.in-Remove.is)

pub unwrap-requires : goal.unwrap-requires
unwrap-requires c = slot_there _ c.args.q.now _ (told c.args.q.now _ c.in_ok-operation.ensures.asks (λ n. eqb n 2 || eqb n 4) Exchange c.in-Exchange.is) c.in_ok-check_slot.ensures

pub by_rule-requires : goal.by_rule-requires
by_rule-requires c =
    let g = goal.at.by_rule-requires c in
    let z = by_asks _ _ (passes g.In_ok-check_slot (slot g.After-slot_of-slot)) (exchange_by c.args.q.now (told c.args.q.now _ c.in_ok-operation.ensures.asks (λ n. n) Exchange c.in-Exchange.is)) in
    (c.requires, z.0, z.1, z.2)

pub returns-in-Exchange-clause-step : goal.returns-in-Exchange-clause-step
returns-in-Exchange-clause-step c =
    let g = goal.at.returns-in-Exchange-clause-step c in
    let e = slot g.After-slot_of-slot in
    exchange_rule _ _ _ _ (passes g.In_ok-check_slot e) (told c.args.q.now _ c.in_ok-operation.ensures.asks (λ n. n) Exchange c.in-Exchange.is) _
    (sym (ap (slot_or (slots c.args.surface.now.table.now)) c.unwrap.ensures) ∙ e) _ c.by_rule.ensures.step

pub judge_pin-requires : goal.judge_pin-requires
judge_pin-requires c =
    let g = goal.at.judge_pin-requires c in
    (c.requires, passes g.In_ok-check_slot (slot g.After-slot_of-slot), (there_told c.args.q.now _ c.in_ok-operation.ensures.asks c.in-Pin.is).1)
