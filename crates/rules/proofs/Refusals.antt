-- A refusal has a code of its own: never 0, which says that nothing was refused. Assumes nothing.
use Rattle.std.proofs.Common.{◌≤◌, arith}
use Rattle.rules.specs.Refusals.{number_of}
use Rattle.rules.specs.declared.Refusal.{Refusal}

pub coded : (r : Refusal) → 1 ≤ number_of r
coded r = grind arith
