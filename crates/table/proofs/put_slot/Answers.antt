use Prim.Native.Nat.{◌*◌}
use native.Mathlib.Omega.{arith}
use Rattle.table.proofs.Laws.{part_put}
use Rattle.table.proofs.put_slot.Goals as goal

pub returns : goal.returns
returns c = part_put c.args.t.now (8 * c.args.i) 8 _ c.args.bytes c.put_eight.ensures (omega arith) (omega arith)
