use mathlib.Core.Path.{◌≡◌, ◌∙◌}
use mathlib.Core.Bool.{true, false}
use Rattle.std.proofs.Common.{rules}
use Rattle.std.proofs.lemmas.Iterator.{YieldsList-from_slice, IsFirst-from_position}
use Rattle.rules.specs.Surface.{free_slot}
use Rattle.rules.specs.Requests.{lowest_free}
use Rattle.table.proofs.Laws.{first_slot, chunk_free}
use Rattle.table.proofs.lowest_free.Goals as goal

pub returns : goal.returns
unfolding lowest_free
returns c =
    first_slot c.args.t.now (λ slot. free_slot slot 0) (free_slot c.args.t.now) _ (λ i l. chunk_free c.args.t.now i l)
    (IsFirst-from_position _ _ _ (λ slot. free_slot slot 0 ≡ true) (λ slot. free_slot slot 0 ≡ false) c.position.ensures.ran (YieldsList-from_slice _ (c.iter.ensures.rest ∙ c.as_chunks.ensures.front)) (λ x q k. search rules) (λ x q k. search rules))
