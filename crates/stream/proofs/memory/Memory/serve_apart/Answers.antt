-- `stream::memory::Memory::serve_apart` meets its contract. Assumes nothing.
use mathlib.Core.Path.{sym, ap, ◌∙◌}
use Rattle.rules.specs.Requests.{answer_of}
use Rattle.rules.specs.Refusals.{Refused}
use Rattle.stream.proofs.Laws.{none_yet, other, apart_other, refused_served}
use Rattle.stream.proofs.memory.Memory.serve_apart.Goals as goal

pub returns-else-is_clear : goal.returns-else-is_clear
returns-else-is_clear c =
    let q = c.args.q.now in
    let n = sym c.is_clear.ensures ∙ c.if-is_clear.false in
    let r = none_yet q _ (other q n) (apart_other _ q c.requires.2 n) in
    refused_served q _ _ _ _ _ 8 r.0 r.1 c.args.self.now.ready (c.refuse.ensures ∙ ap (λ n. answer_of q (Refused n)) c.code.ensures)
