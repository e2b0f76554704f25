-- A SPLIT IN TWO, each case with what it tells. Assumes nothing.
use mathlib.Core.Path.{◌≡◌, refl}
use mathlib.Core.Bool.{Bool, true, false, cond, ◌||◌}
use mathlib.Core.Logic.{⊎_elim}
use mathlib.Core.List.Memᴰ
use mathlib.Core.List.{List, ◌∷◌, Memᴰ}
use Prim.Native.Nat.{ℕ, ◌≤◌, ◌<◌}
use native.Mathlib.Decide.{ℕ_discrete}
use Rattle.rules.proofs.Tests.{decide, or_which, lt_or_le}

-- what `cond` gives has what both of its arms have
pub split : {A : Type 0} (P : A → Type 0) (b : Bool) {x y : A} → (b ≡ true → P x) → (b ≡ false → P y) → P (cond b x y)
split P true f g = f refl
split P false f g = g refl

module _ {A : Type 0} where
  -- a test holds or fails; one of two holds
  pub by_test : (b : Bool) → (b ≡ true → A) → (b ≡ false → A) → A
  by_test b f g = ⊎_elim f g (decide b)

  pub by_or : (a b : Bool) → (a || b) ≡ true → (a ≡ true → A) → (b ≡ true → A) → A
  by_or a b e f g = ⊎_elim f g (or_which a b e)

  -- two numbers
  pub by_less : (a b : ℕ) → (a < b → A) → (b ≤ a → A) → A
  by_less a b f g = ⊎_elim f g (lt_or_le a b)

  pub by_same : (a b : ℕ) → (a ≡ b → A) → ((a ≡ b → ⊥) → A) → A
  by_same a b f g = elim (ℕ_discrete a b) [ yes e ↦ f e | no ne ↦ g ne ]

-- the first item of a list, or one behind it
pub by_cons : {A B : Type 0} {a x : A} {l : List A} → Memᴰ a (x ∷ l) → (a ≡ x → B) → (Memᴰ a l → B) → B
by_cons m f g = ⊎_elim f g (Memᴰ.cases_cons m)
