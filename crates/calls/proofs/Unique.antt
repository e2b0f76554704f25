-- The promises leave no choice: two outcomes that they allow are equal. Assumes nothing.
use mathlib.Core.Path.{◌≡◌, sym, ◌∙◌}
use mathlib.Core.List.{List}
use Prim.Native.Nat.{ℕ}
use Rattle.rules.specs.Host.{LentSurface, host_check, HostClearedBy, HostRanBy, HostListedBy}

pub clear_one : (W H : ℕ) (l : LentSurface) (r₁ r₂ : ℕ) (l₁ l₂ : LentSurface) → HostClearedBy W H l r₁ l₁ → HostClearedBy W H l r₂ l₂ → (r₁ ≡ r₂) × (l₁ ≡ l₂)
clear_one W H l r₁ r₂ l₁ l₂ x y = (x.result ∙ sym y.result, x.left ∙ sym y.left)

pub check_one : (W H : ℕ) (l : LentSurface) (r₁ r₂ : ℕ) → r₁ ≡ host_check W H l → r₂ ≡ host_check W H l → r₁ ≡ r₂
check_one W H l r₁ r₂ x y = x ∙ sym y

pub run_one : (W H : ℕ) (l : LentSurface) (q a : List ℕ) (r₁ r₂ : ℕ) (l₁ l₂ : LentSurface) (a₁ a₂ : List ℕ) → HostRanBy W H l q a r₁ l₁ a₁ → HostRanBy W H l q a r₂ l₂ a₂ → (r₁ ≡ r₂) × (l₁ ≡ l₂) × (a₁ ≡ a₂)
run_one W H l q a r₁ r₂ l₁ l₂ a₁ a₂ x y = (x.result ∙ sym y.result, x.left ∙ sym y.left, x.answers ∙ sym y.answers)

pub list_one : (W H : ℕ) (l : LentSurface) (room : List ℕ) (r₁ r₂ : ℕ) (room₁ room₂ : List ℕ) → HostListedBy W H l room r₁ room₁ → HostListedBy W H l room r₂ room₂ → (r₁ ≡ r₂) × (room₁ ≡ room₂)
list_one W H l room r₁ r₂ room₁ room₂ x y = (x.result ∙ sym y.result, x.written ∙ sym y.written)
