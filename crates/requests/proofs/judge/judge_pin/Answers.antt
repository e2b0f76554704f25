-- `requests::judge::judge_pin` meets its contract. Assumes nothing.
use Rattle.std.proofs.Common.{◌≡◌, refl, sym, ap, ◌∙◌, true, false, arith}
use mathlib.Core.Path.{subst, ap₂}
use Rattle.std.proofs.lemmas.Result.{err_from_is_err_and}
use Rattle.rules.specs.Surface.{occupied}
use Rattle.rules.specs.Empties.{cells_empty}
use Rattle.rules.specs.Requests.{by_rule, pinned}
use Rattle.rules.specs.Refusals.{Done}
use Rattle.rules.proofs.Tests.{or_right}
use Rattle.meaning.specs.Change.{On}
use Rattle.meaning.proofs.Bottom.{reaches_empty}
use Rattle.meaning.proofs.Operations.{none_free, one_free, size_some, pin_tested}
use Rattle.meaning.proofs.Steps.{past_on, at_place_lem}
use Rattle.requests.specs.Steps.{past}
use Rattle.requests.proofs.StepLaws.{on_weights, ok_or_err, ok_or_ok, below_none, below_some}
use Rattle.requests.proofs.judge.judge_pin.Goals as goal
use Rattle.requests.proofs.judge.judge_pin.Goals.{After-bottom_reaches, After-is_past, Else-is_past}

told : (c : After-is_past) → let s = c.args.surface.now in past s.w s.h (pinned c.args.q.now) ≡ c.is_past.result
told c = let s = c.args.surface.now in sym (c.is_past.ensures ∙ ap (past s.w s.h) c.pinned-rect.ensures.0)

-- the place that is asked for lies on the surface
on : (c : Else-is_past) → (let s = c.args.surface.now in past s.w s.h (pinned c.args.q.now) ≡ c.is_past.result) → On c.args.surface.now.w c.args.surface.now.h (pinned c.args.q.now)
on c e =
    let z = size_some _ _ c.requires.1 (or_right (by_rule c.args.q.now) _ c.requires.2) in
    past_on _ _ _ (e ∙ c.if-is_past.false) z.0 z.1

-- the test of its cells
tested : (c : After-bottom_reaches) → On c.args.surface.now.w c.args.surface.now.h (pinned c.args.q.now) → cells_empty (occupied c.args.surface.now.table.now) (pinned c.args.q.now) ≡ c.bottom_reaches.result
tested c o =
    let s = c.args.surface.now in
    let e = c.pinned-rect.ensures.0 in
    sym (c.bottom_reaches.ensures
    ∙ reaches_empty s.w s.h s.weights.now s.table.now s.standing.sound c.pinned-rect.result (subst (On s.w s.h) (sym e) o)
    ∙ ap (cells_empty (occupied s.table.now)) e)

pub returns-then-is_past-clause-step : goal.returns-then-is_past-clause-step
returns-then-is_past-clause-step c =
    pin_tested _ _ _ _ c.requires.1 (at_place_lem _ c.requires.2) true _ _ (told (goal.at.returns-then-is_past-clause-step c).After-is_past ∙ c.if-is_past.true) refl refl

pub returns-in_err-slot-clause-step : goal.returns-in_err-slot-clause-step
returns-in_err-slot-clause-step c =
    let z = ok_or_err _ _ _ (sym c.ok_or.ensures.value ∙ c.in_err-slot.was) in
    let p = err_from_is_err_and c.from_residual.result c.from_residual.ensures.1 in
    rw (p.1, p.2, z.1) (pin_tested _ _ _ _ c.requires.1 (at_place_lem _ c.requires.2) false false _
    (told (goal.at.returns-in_err-slot-clause-step c).After-is_past ∙ c.if-is_past.false) (none_free _ _ refl (below_none _ _ (sym c.lowest_free.ensures ∙ z.0))) refl)

pub bottom_reaches-requires : goal.bottom_reaches-requires
bottom_reaches-requires c =
    let g = goal.at.bottom_reaches-requires c in
    let s = c.args.surface.now in
    let o = subst (On s.w s.h) (sym c.pinned-rect.ensures.0) (on g.Else-is_past (told g.After-is_past)) in
    record { inside = on_weights _ _ _ _ _ s.standing o; sized = (o.wide, o.tall, omega (arith, o.lines, s.standing.sides.highest)) }

pub returns-then-not-bottom_reaches-clause-step : goal.returns-then-not-bottom_reaches-clause-step
returns-then-not-bottom_reaches-clause-step c =
    let g = goal.at.returns-then-not-bottom_reaches-clause-step c in
    let t = told g.After-is_past in
    let z = below_some _ _ _ (sym c.lowest_free.ensures ∙ ok_or_ok _ _ _ (sym c.ok_or.ensures.value ∙ c.in_ok-slot.was)) in
    pin_tested _ _ _ _ c.requires.1 (at_place_lem _ c.requires.2) false true false (t ∙ c.if-is_past.false) (one_free _ _ refl z.1) (tested g.After-bottom_reaches (on g.Else-is_past t) ∙ c.if-not-bottom_reaches.true)

pub returns-clause-step : goal.returns-clause-step
returns-clause-step c =
    let g = goal.at.returns-clause-step c in
    let t = told g.After-is_past in
    let z = below_some _ _ _ (sym c.lowest_free.ensures ∙ ok_or_ok _ _ _ (sym c.ok_or.ensures.value ∙ c.in_ok-slot.was)) in
    ap₂ Done z.0 c.pinned-rect.ensures.0
    ∙ pin_tested _ _ _ _ c.requires.1 (at_place_lem _ c.requires.2) false true true (t ∙ c.if-is_past.false) (one_free _ _ refl z.1) (tested g.After-bottom_reaches (on g.Else-is_past t) ∙ c.if-not-bottom_reaches.false)
