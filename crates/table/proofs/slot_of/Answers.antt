use mathlib.Core.Path.{◌≡◌, ◌∙◌}
use mathlib.Core.Bool.{true, false}
use Rattle.std.proofs.Common.{rules}
use Rattle.std.proofs.lemmas.Iterator.{YieldsList-from_slice, IsFirst-from_position}
use Rattle.rules.specs.Requests.{has_id, slot_of}
use Rattle.table.proofs.Laws.{first_slot, chunk_has_id}
use Rattle.table.proofs.slot_of.Goals as goal

pub returns : goal.returns
unfolding slot_of
returns c =
    first_slot c.args.t.now (λ slot. has_id slot c.args.id 0) (has_id c.args.t.now c.args.id) _ (λ i l. chunk_has_id c.args.t.now i l c.args.id)
    (IsFirst-from_position _ _ _ (λ slot. has_id slot c.args.id 0 ≡ true) (λ slot. has_id slot c.args.id 0 ≡ false) c.position.ensures.ran (YieldsList-from_slice _ (c.iter.ensures.rest ∙ c.as_chunks.ensures.front)) (λ x q k. search rules) (λ x q k. search rules))
