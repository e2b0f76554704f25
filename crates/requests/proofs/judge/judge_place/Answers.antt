-- `requests::judge::judge_place` meets its contract. Assumes nothing.
use Rattle.std.proofs.Common.{sym, refl, ◌∙◌}
use Rattle.std.proofs.lemmas.Result.{err_from_is_err_and}
use Rattle.meaning.proofs.Operations.{none_free, one_free, by_asks, place_by}
use Rattle.requests.proofs.StepLaws.{place_full, place_rule, ok_or_err, ok_or_ok, below_none, below_some}
use Rattle.requests.proofs.judge.judge_place.Goals as goal

pub returns-in_err-slot-clause-step : goal.returns-in_err-slot-clause-step
returns-in_err-slot-clause-step c =
    let z = ok_or_err _ _ _ (sym c.ok_or.ensures.value ∙ c.in_err-slot.was) in
    let p = err_from_is_err_and c.from_residual.result c.from_residual.ensures.1 in
    rw (p.1, p.2, z.1) (place_full _ _ _ _ c.requires.1 c.requires.2 (none_free _ _ refl (below_none _ _ (sym c.lowest_free.ensures ∙ z.0))))

pub by_rule-requires : goal.by_rule-requires
by_rule-requires c = let z = by_asks _ _ c.requires.1 (place_by c.args.q.now c.requires.2) in (c.requires.0, z.0, z.1, z.2)

pub returns-clause-step : goal.returns-clause-step
returns-clause-step c =
    let z = below_some _ _ _ (sym c.lowest_free.ensures ∙ ok_or_ok _ _ _ (sym c.ok_or.ensures.value ∙ c.in_ok-slot.was)) in
    place_rule _ _ _ _ c.requires.1 c.requires.2 (one_free _ _ refl z.1) _ z.0 _ c.by_rule.ensures.step
