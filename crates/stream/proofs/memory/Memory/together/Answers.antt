-- `stream::memory::Memory::together` meets its contract. Assumes nothing.
use mathlib.Core.Path.{◌≡◌, sym, ◌∙◌}
use mathlib.Core.Bool.{false}
use Prim.Native.Nat.{◌*◌}
use native.Mathlib.Omega.{arith}
use lib.ListN.{get_or}
use Rattle.std.specs.Prelude.{⊤}
use Rattle.std.proofs.Common.{rules}
use Rattle.std.proofs.lemmas.Iterator.{first_from_Range}
use lib.Dec.{eqb}
use Rattle.stream.proofs.Blocks.{up_to_clear}
use Rattle.stream.proofs.memory.Memory.together.Goals as goal

pub returns : goal.returns
returns c =
    let q = c.args.q.now in
    rw c.unwrap_or.ensures (up_to_clear _ _ q (omega (arith, c.requires)) (sym c.is_apart.ensures ∙ c.if-is_apart.false) _
    (first_from_Range _ _ _ _ (λ k. ⊤) (λ k. eqb (get_or q (8 * k) 0) 5 ≡ false) c.find.ensures.ran (λ x p k. search rules) (λ x p k. search rules)))
