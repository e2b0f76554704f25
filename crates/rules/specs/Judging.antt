-- JUDGING: a list of codes, each with the condition under which it applies, in the order in which they are looked at.
use Rattle.std.specs.Prelude.{◌≡◌, Bool, true, false, cond, List, [], ◌∷◌, ◌++◌, ℕ}

pub record Line : Type 0 where
  pub code : ℕ
  pub applies : Bool

infix 68 ◌when◌
abbrev pub ◌when◌ : ℕ → Bool → Line
c when b = record { code = c; applies = b }

-- the code of the first line that applies, 0 where none does
unfoldable pub first : List Line → ℕ
first [] = 0
first (l ∷ ls) = let rest = first ls in cond l.applies l.code rest

-- ---- the same as a statement: "refused by number, in a fixed order"

-- no line of the list applies
unfoldable pub NoneApplies : List Line → Type 0
NoneApplies [] = Unit {0}
NoneApplies (l ∷ ls) = (l.applies ≡ false) × NoneApplies ls

-- c is the code of the first line that applies: no line before it does; it is 0 where no line of the list does
pub data FirstThat (ls : List Line) (c : ℕ) : Type 0 where
  none : NoneApplies ls → c ≡ 0 → FirstThat ls c
  line : (before : List Line) (l : Line) (behind : List Line) → ls ≡ before ++ (l ∷ behind) → NoneApplies before → l.applies ≡ true → c ≡ l.code → FirstThat ls c
