use Rattle.table.proofs.rect_at.Goals as goal

pub returns : goal.returns
returns c = rw (c.before.before.before.byte_at.ensures.0, c.before.before.byte_at-2.ensures.0, c.before.byte_at-3.ensures.0, c.byte_at-4.ensures.0)
