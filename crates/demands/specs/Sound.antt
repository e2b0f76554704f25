-- A SOUND REQUEST: "A sound request by rule, with a free slot where it needs one, is refused exactly when .."
use Rattle.std.specs.Prelude.{◌≡◌, true, false, ℕ, ◌≤◌, drop}
use mathlib.Core.List.{List, ◌∷◌, Memᴰ}
use Rattle.rules.specs.Judging.{Line}
use Rattle.rules.specs.Requests.{is_place, some_free, sound_lines}

-- none of the conditions of 11 to 17 and 23 holds
abbrev pub Sound : List ℕ → List ℕ → Type 0
Sound t q = (l : Line) → Memᴰ l (sound_lines t q) → l.applies ≡ false

-- "with a free slot where it needs one": an exchange needs none, for it keeps its own
abbrev pub SlotForIt : List ℕ → List ℕ → Type 0
SlotForIt t q = is_place q ≡ true → some_free t ≡ true

-- order 2, "23 .. follows 16": none of the conditions of 11 to 16 holds
abbrev pub SoundTo16 : List ℕ → List ℕ → Type 0
SoundTo16 t q = (l : Line) → Memᴰ l (sound_lines t q) → l.code ≤ 16 → l.applies ≡ false

-- the pin with the fields of the request q
abbrev pub as_pin : List ℕ → List ℕ
as_pin q = 3 ∷ drop 1 q
