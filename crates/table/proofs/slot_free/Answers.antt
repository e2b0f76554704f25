use Rattle.table.proofs.Laws.{free_sum}
use Rattle.table.proofs.slot_free.Goals as goal

pub returns : goal.returns
returns c =
    let a = c.before.before.before.before.before.args in
    rw (
      c.before.before.before.two_at.ensures.0,
      c.before.before.two_at-2.ensures.0,
      c.before.two_at-3.ensures.0,
      c.two_at-4.ensures.0,
    )
    (free_sum a.t.now a.i)
