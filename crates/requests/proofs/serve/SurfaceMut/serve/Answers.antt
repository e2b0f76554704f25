-- `SurfaceMut::serve` meets its contract. Assumes nothing.
use Rattle.std.proofs.Common.{sym, ap, ◌∙◌}
use Rattle.rules.specs.Surface.{fresh}
use Rattle.meaning.proofs.Stands.{standing_fresh}
use Rattle.meaning.proofs.Steps.{change}
use Rattle.requests.proofs.Halves.{change_on, on_bytes, served_by}
use Rattle.requests.proofs.serve.SurfaceMut.serve.Goals as goal

pub change-requires-clause-change : goal.change-requires-clause-change
change-requires-clause-change c = change _ _ _ _ _ c.args.self.now.standing _ _ (sym c.in-Ok.ensures.step)

pub answer-requires-clause-bytes : goal.answer-requires-clause-bytes
answer-requires-clause-bytes c =
    let d = c.args.self.now.standing in
    on_bytes _ _ _ _ _ d (change_on _ _ _ _ _ _ _ (change _ _ _ _ _ d _ _ (sym c.in-Ok.ensures.step)))

pub returns-clause-served : goal.returns-clause-served
returns-clause-served c =
    let k = c.change.ensures.kept in
    let fresh_after = rw (k.w, k.h) at (standing_fresh _ _ _ _ c.change.new.self.standing) in
    served_by _ _ _ _ _ _ _ _ _ (sym c.in-Ok.ensures.step) (fresh_after ∙ ap (fresh _ _) c.change.ensures.changed) c.change.ensures.changed c.answer.ensures
