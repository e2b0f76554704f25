-- `stream::memory::Memory::serve_clear` meets its contract. Assumes nothing.
use mathlib.Core.Path.{refl, sym, ap, ◌∙◌}
use Rattle.std.proofs.Common.{arith}
use Rattle.rules.specs.Requests.{answer_of}
use Rattle.rules.specs.Refusals.{Refused}
use Rattle.stream.specs.Memory.{kept_in}
use Rattle.rules.proofs.Refusals.{coded}
use Rattle.stream.proofs.Laws.{clear_refused, clear_served, refused_served}
use Rattle.stream.proofs.memory.Memory.serve_clear.Goals as goal

pub returns-in-Err : goal.returns-in-Err
returns-in-Err c =
    let q = c.args.q.now in
    let e = c.in-Err.ensures.code in
    let r = clear_refused q _ c.requires.2 (λ z. omega (arith, coded c.in-Err.refusal, e, z)) in
    refused_served q _ _ _ _ _ _ r.0 r.1 c.args.self.now.ready (c.refuse.ensures ∙ ap (λ n. answer_of q (Refused n)) (c.code.ensures ∙ e))

pub returns-in-Ok : goal.returns-in-Ok
returns-in-Ok c =
    let s = c.in-Ok.ensures in
    clear_served c.args.q.now _ _ _ _ _ _ s.size.0 s.size.1 c.requires.2 (sym s.code) c.args.self.now.ready.long c.args.self.now.ready.slots c.clear_to.ensures.room_after c.clear_to.ensures.table_after c.answer.ensures

-- the surface that the record has cleared
pub invariant_of-self : goal.invariant_of-self
invariant_of-self c =
    let s = c.in-Ok.ensures in
    let m = c.args.self.now in
    record { ready = (clear_served c.args.q.now (kept_in m) _ _ _ _ _ s.size.0 s.size.1 c.requires.2 (sym s.code) m.ready.long m.ready.slots c.clear_to.ensures.room_after c.clear_to.ensures.table_after refl).ready }
