-- `modules::take_out` meets its contract: the law `take_weights` at what `remove` and `put_free` promise. Assumes nothing.
use native.Mathlib.Omega.{arith}
use Rattle.meaning.proofs.Changes.{slot_fits}
use Rattle.modules.proofs.Weights.{taken_on, taken_shallow, take_weights}
use Rattle.modules.proofs.take_out.Goals as goal

pub rect_at-requires : goal.rect_at-requires
rect_at-requires c = slot_fits c.requires.standing c.requires.slot

pub remove-requires : goal.remove-requires
remove-requires c = record { shallow = taken_shallow c.requires c.rect_at.ensures; on = taken_on c.requires c.rect_at.ensures }

pub returns-clause-s_after : goal.returns-clause-s_after
returns-clause-s_after c = let e = take_weights c.requires c.rect_at.ensures c.remove.ensures.removed c.put_free.ensures in grind (arith, e)
