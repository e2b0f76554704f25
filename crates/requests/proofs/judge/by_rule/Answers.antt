-- `requests::judge::by_rule` meets its contract. Assumes nothing.
use Rattle.std.proofs.Common.{◌≡◌, sym, ◌∙◌, List, ℕ}
use Rattle.std.proofs.lemmas.Result.{err_from_is_err_and}
use Rattle.std.proofs.Math.Option as maybe
use Rattle.rules.specs.Surface.{occupied}
use Rattle.rules.specs.Empties.{cells_empty}
use Rattle.rules.specs.Requests.{rule_of, wide, high, rule_place}
use Rattle.rules.specs.declared.Rect.{Rect}
use Rattle.meaning.proofs.Choice.{rule_place_empty}
use Rattle.meaning.specs.Change.{On}
use Rattle.modules.proofs.Place.{untaken_empty}
use Rattle.meaning.proofs.Steps.{empty_parts}
use Rattle.choice.specs.Best.{choice_of}
use Rattle.requests.proofs.StepLaws.{chose_same, chose_none, chose_some, rule_none, rule_some, on_weights, ok_or_err, ok_or_ok}
use Rattle.requests.proofs.judge.by_rule.Goals as goal
use Rattle.requests.proofs.judge.by_rule.Goals.{After-choose, After-none_taken, In_ok-rect}

-- the place that the rule chose
abbrev place : ℕ → ℕ → List ℕ → List ℕ → maybe.Option Rect
place w h t q = rule_place (occupied t) w h (rule_of q) (wide q) (high q)

chose : (c : After-choose) → let s = c.args.surface.now in c.choose.result ≡ choice_of (place s.w s.h s.table.now c.args.q.now)
chose c = let s = c.args.surface.now in
    c.choose.ensures.place ∙ chose_same _ _ _ _ _ _ _ _ _ (c.from_number.ensures ∙ c.byte.ensures.0) c.byte-2.ensures.0 c.byte-3.ensures.0

-- what an entry's place is told by
record Placed (c : In_ok-rect) : Type 0 where
  found : place c.args.surface.now.w c.args.surface.now.h c.args.surface.now.table.now c.args.q.now ≡ maybe.some c.in_ok-rect.rect
  on : On c.args.surface.now.w c.args.surface.now.h c.in_ok-rect.rect

placed : (c : In_ok-rect) → (let s = c.args.surface.now in c.choose.result ≡ choice_of (place s.w s.h s.table.now c.args.q.now)) → Placed c
placed c k =
    let f = chose_some _ _ (sym k ∙ ok_or_ok _ _ _ (sym c.ok_or.ensures.value ∙ c.in_ok-rect.was)) in
    record { found = f; on = (empty_parts _ _ _ _ (rule_place_empty _ _ _ _ _ _ c.requires.2 c.requires.3 _ f)).0 }

-- and the test of its cells tells whether they are empty
tested : (c : After-none_taken) → On c.args.surface.now.w c.args.surface.now.h c.in_ok-rect.rect → cells_empty (occupied c.args.surface.now.table.now) c.in_ok-rect.rect ≡ c.none_taken.result
tested c o = let a = c.args.surface.now in sym (c.none_taken.ensures ∙ untaken_empty a.w a.h a.weights.now a.table.now a.standing _ o)

pub returns-in_err-rect-clause-step : goal.returns-in_err-rect-clause-step
returns-in_err-rect-clause-step c =
    let z = ok_or_err _ _ _ (sym c.ok_or.ensures.value ∙ c.in_err-rect.was) in
    let p = err_from_is_err_and c.from_residual.result c.from_residual.ensures.1 in
    rw (p.1, p.2, z.1) (rule_none _ _ _ (chose_none _ (sym (chose (goal.at.returns-in_err-rect-clause-step c).After-choose) ∙ z.0)))

pub none_taken-requires : goal.none_taken-requires
none_taken-requires c =
    let g = goal.at.none_taken-requires c in
    on_weights _ _ _ _ _ c.args.surface.now.standing (placed g.In_ok-rect (chose g.After-choose)).on

pub returns-then-not-none_taken-clause-step : goal.returns-then-not-none_taken-clause-step
returns-then-not-none_taken-clause-step c =
    let g = goal.at.returns-then-not-none_taken-clause-step c in
    let p = placed g.In_ok-rect (chose g.After-choose) in
    rule_some _ _ _ _ _ p.found (tested g.After-none_taken p.on ∙ c.if-not-none_taken.true)

pub returns-clause-step : goal.returns-clause-step
returns-clause-step c =
    let g = goal.at.returns-clause-step c in
    let p = placed g.In_ok-rect (chose g.After-choose) in
    rule_some _ _ _ _ _ p.found (tested g.After-none_taken p.on ∙ c.if-not-none_taken.false)
