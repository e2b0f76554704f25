-- `listing::stairs::cut` meets its contract. Assumes nothing.
use Rattle.std.proofs.Common.{rules}
use Rattle.listing.proofs.Cuts.{cut_at}
use Rattle.listing.proofs.stairs.cut.Goals as goal

pub returns : goal.returns
returns c = cut_at _ _ _ c.requires.rises (search rules) (λ p. search rules) (λ p. search rules)
