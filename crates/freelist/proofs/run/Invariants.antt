use Rattle.std.proofs.Common.{◌<◌, take}
use Rattle.stream.specs.Memory.{SoFarIn}
use Rattle.freelist.proofs.run.Given as goal

abbrev pub invariant-loop : goal.invariant-loop
invariant-loop g l = (l.held < 8) × SoFarIn l.memory (take l.held l.piece)
