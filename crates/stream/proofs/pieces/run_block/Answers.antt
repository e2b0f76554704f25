-- `stream::pieces::run_block` meets its contract. Assumes nothing.
use native.Mathlib.Omega.{arith}
use Rattle.stream.proofs.Blocks.{block_lent}
use Rattle.stream.proofs.pieces.run_block.Goals as goal

pub returns : goal.returns
returns c = let v = c.run_on in block_lent _ _ _ _ _ c.requires.ready (λ n. omega (arith, c.args.size.sides.wide)) _ c.cells.ensures.0 _ _ _ _ c.requires.q_len.3 v.ensures v.auto.t
