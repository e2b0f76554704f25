-- `requests::fields::any_not_zero` meets its contract. Assumes nothing.
use Rattle.requests.proofs.Lines.{five_zero}
use Rattle.requests.proofs.fields.any_not_zero.Goals as goal

pub returns : goal.returns
returns c = five_zero c.byte.ensures.0 c.byte-2.ensures.0 c.byte-3.ensures.0 c.byte-4.ensures.0 c.byte-5.ensures.0
