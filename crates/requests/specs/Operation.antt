-- OPERATIONS: the number of each.
use Rattle.std.specs.Prelude.{◌≡◌, List, ℕ, Result, Ok, Err, false}
use Rattle.rules.specs.declared.Refusal.{Refusal}
use Rattle.rules.specs.declared.Refusal.TheVariants.{UnknownOperation}
use Rattle.rules.specs.Requests.{operation, known}
use Rattle.requests.specs.declared.operation.Operation.{Operation}
use Rattle.requests.specs.declared.operation.Operation.TheVariants.{Place, Remove, Pin, Exchange, Set}

abbrev pub operation_number : Operation → ℕ
operation_number Place = 1
operation_number Remove = 2
operation_number Pin = 3
operation_number Exchange = 4
operation_number Set = 6

-- a request with this operation
abbrev pub Asks : List ℕ → Operation → Type 0
Asks q o = operation_number o ≡ operation q

-- the test, or the number, is this for any request with this operation
abbrev pub OfAny : {A : Type 0} → (List ℕ → A) → Operation → A → Type 0
OfAny test o b = (q : List ℕ) → Asks q o → b ≡ test q

-- what a request's first byte tells: its operation; or that there is none with its number
abbrev pub Named : ℕ → Result Operation Refusal → Type 0
Named n (Ok o) = operation_number o ≡ n
Named n (Err r) = (r ≡ UnknownOperation) × ((q : List ℕ) → n ≡ operation q → known q ≡ false)
