-- WHAT THE HOST IS TOLD, by what a call comes to inside: both counts, or a refusal.
use Rattle.std.specs.Prelude.{ℕ, Result, Ok, Err}
use Rattle.rules.specs.Calls.{result_of}
use Rattle.rules.specs.Refusals.{number_of}
use Rattle.rules.specs.declared.Refusal.{Refusal}
use Rattle.lent.specs.declared.counts.Counts.{Counts}

abbrev pub told_number : Result Counts Refusal → ℕ
told_number (Ok c) = result_of 0 c.first c.second
told_number (Err r) = result_of (number_of r) 0 0
