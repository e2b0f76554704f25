-- THE RULES by their numbers in a request.
use Rattle.std.specs.Prelude.{ℕ}
use Rattle.choice.specs.declared.Rule.{Rule}
use Rattle.choice.specs.declared.Rule.TheVariants.{FirstFit, BestFit, BottomLeft}

-- "rule 0 takes the first; rule 1 the least area of the entry less that of the module; rule 2 the least (H − y − h)·W + x of the entry."
abbrev pub rule_number : Rule → ℕ
rule_number FirstFit = 0
rule_number BestFit = 1
rule_number BottomLeft = 2
