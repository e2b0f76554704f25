-- THE NUMBERS OF A LIST OF CODES, as computed tests.
use Rattle.std.specs.Prelude.{Bool, true, false, not, ◌&&◌, ◌||◌, List, [], ◌∷◌, ℕ, ltb, eqb}
use Rattle.rules.specs.Judging.{Line}

-- every code is above n; above 0, so that 0 stands for none
unfoldable pub above : ℕ → List Line → Bool
above n [] = true
above n (l ∷ ls) = ltb n l.code && above n ls

-- a line of the list has the code c
unfoldable pub has_code : ℕ → List Line → Bool
has_code c [] = false
has_code c (l ∷ ls) = eqb l.code c || has_code c ls

-- no two lines have the same code, so that a code names its line
unfoldable pub differ : List Line → Bool
differ [] = true
differ (l ∷ ls) = not (has_code l.code ls) && differ ls

-- the codes rise: each is below all that stand behind it
unfoldable pub rising : List Line → Bool
rising [] = true
rising (l ∷ ls) = above l.code ls && rising ls

-- the codes in their order
unfoldable pub codes : List Line → List ℕ
codes [] = []
codes (l ∷ ls) = l.code ∷ codes ls
