-- THE CHOICE BY RULE as one walk over the list: the best entry with room so far, as its cost and the place that it gives. W and H are the surface's
-- size, m the module that asks for a place.
use Rattle.std.specs.Prelude.{◌≡◌, cond, List, [], ◌∷◌, ℕ, ltb, Option, Some, None}
use Rattle.std.proofs.Math.Option as maybe
use Rattle.rules.specs.Surface.{rect}
use Rattle.rules.specs.Requests.{fits, cost, lower_left, or_none}
use Rattle.rules.specs.declared.Rect.{Rect}
use Rattle.choice.specs.declared.Best.{Best}
use Rattle.choice.specs.declared.Wanted.{Wanted}
use Rattle.choice.specs.Rule.{rule_number}

-- what `choose` answers for the place that a rule chose
abbrev pub choice_of : maybe.Option Rect → Option Rect
choice_of maybe.none = None
choice_of (maybe.some r) = Some r

-- ---- this paper's number and values for each case of a choice

-- code 20, "no position has all its cells empty", for none; a place is not refused
abbrev pub code_of : Option Rect → ℕ
code_of None = 20
code_of (Some r) = 0

-- "x, y, w, h: of the new module .. A refusal has four zeros there."
abbrev pub values_of : Option Rect → Rect
values_of None = rect 0 0 0 0
values_of (Some r) = r

-- c is the choice for the place o that the rule chose: refused where it chose none
abbrev pub code_for : maybe.Option Rect → ℕ
code_for maybe.none = 20
code_for (maybe.some r) = 0

pub record Chosen (o : maybe.Option Rect) (c : Option Rect) : Type 0 where
  pub code : code_of c ≡ code_for o
  pub values : values_of c ≡ or_none o

-- ---- the walk

-- an entry with room that costs c and gives the place r
abbrev pub found : ℕ → Rect → Option Best
found c r = Some (record { cost = c; place = r })

-- it is held against the best so far: "Ties go to the earlier entry."
abbrev pub less_of : Option Best → ℕ → Rect → Option Best
less_of None c r = found c r
less_of (Some b) c r = cond (ltb c b.cost) (found c r) (Some b)

-- one entry more: "Among list entries with room for the module"
unfoldable pub better : ℕ → ℕ → Wanted → Option Best → Rect → Option Best
better W H m b e = cond (fits m.w m.h e) (less_of b (cost W H m.w m.h (rule_number m.rule) e) (lower_left m.w m.h e)) b

-- the entries of a list in turn
unfoldable pub best_of : ℕ → ℕ → Wanted → Option Best → List Rect → Option Best
best_of W H m b [] = b
best_of W H m b (e ∷ l) = best_of W H m (better W H m b e) l
