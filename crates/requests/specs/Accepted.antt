-- ACCEPTED REQUESTS: the rules' step of what judging hands on.
use Rattle.std.specs.Prelude.{◌≡◌, Result, Ok, Err, IfOk}
use Rattle.rules.specs.Refusals.{Step, Refused, Done, number_of}
use Rattle.rules.specs.declared.Refusal.{Refusal}
use Rattle.requests.specs.declared.operation.Operation.{Operation}
use Rattle.requests.specs.declared.accepted.Accepted.{Accepted}

abbrev pub as_step : Result Accepted Refusal → Step
as_step (Ok a) = Done a.slot a.rect
as_step (Err r) = Refused (number_of r)

-- accepted, it is by this operation
abbrev pub By : Operation → Result Accepted Refusal → Type 0
By o r = IfOk r (λ a. a.operation ≡ o)
