-- `stream::records::apart` meets its contract. Assumes nothing.
use mathlib.Core.Path.{◌∙◌}
use mathlib.Core.Bool.{false, true}
use borrow.Author.Tests.{eq-eqb, ne_eqb}
use Rattle.stream.proofs.Laws.{apart_is}
use Rattle.stream.proofs.records.apart.Goals as goal

pub returns-then-w-eq0 : goal.returns-then-w-eq0
returns-then-w-eq0 c = rw (eq-eqb c.args.w 0 c.if-w-eq0.true) (apart_is c.args.w c.args.q.now true (eq-eqb c.args.w 0 c.if-w-eq0.true))

pub returns-else-w-eq0 : goal.returns-else-w-eq0
returns-else-w-eq0 c = c.is_clear.ensures ∙ apart_is c.args.w c.args.q.now false (ne_eqb c.args.w 0 c.if-w-eq0.false)
