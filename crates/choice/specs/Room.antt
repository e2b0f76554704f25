-- WHICH ROWS NEED NO STAIRCASE: where no entry of a row has room for the module, the row changes nothing. w and h are the module's size.
use Rattle.std.specs.Prelude.{Bool, not, List, ℕ}
use Rattle.rules.specs.Tests.{all}
use Rattle.rules.specs.Requests.{fits}
use Rattle.rules.specs.declared.Rect.{Rect}

-- no entry of the list has room for the module
unfoldable pub none_fits : ℕ → ℕ → List Rect → Bool
none_fits w h l = all (λ e. not (fits w h e)) l
