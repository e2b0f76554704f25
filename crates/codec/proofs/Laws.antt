-- Laws of a signed number's two bytes, and of bytes stored one weight after the other. Assumes nothing.
use mathlib.Core.Path.{◌≡◌, refl, sym, ap₂, subst}
use mathlib.Core.List.{List, [], ◌∷◌}
use Prim.Native.Nat.{ℕ, ◌+◌, ◌*◌, ◌/◌, ◌%◌, ◌<◌}
use native.Mathlib.Omega.{arith}
use lib.IntN.{ℤ, pos, negsuc}
use lib.ListN.{length, get_or, set}
use mir.Syntax.{w16}
use mir.Val.{of_z, SFits}
use Rattle.rules.specs.Host.{bits16, bytes_of}
use Rattle.meaning.proofs.Bytes.{length-bytes_of, bytes_of_low, bytes_of_high}
use Rattle.cells.proofs.Upto.{Upto, upto_more}

-- the two bytes that `to_le_bytes` gives
pub two_bytes : (z : ℤ) → SFits w16 z → of_z w16 z % 256 ∷ of_z w16 z / 256 % 256 ∷ [] ≡ bits16 z % 256 ∷ bits16 z / 256 ∷ []
two_bytes (pos n) f = let h = f.sfits in ap₂ (λ a b. a ∷ b ∷ []) (omega arith) (omega arith)
two_bytes (negsuc n) f = let h = f.sfits in ap₂ (λ a b. a ∷ b ∷ []) (omega arith) (omega arith)

-- one weight more is stored, in two steps
pub stored_more : (s : List ℤ) (b : List ℕ) (k : ℕ) → Upto 0 (bytes_of s) b (2 * k) → k < length s →
    let n = bits16 (get_or s k (pos 0)) in
    Upto 0 (bytes_of s) (set (set b (2 * k) (n % 256)) (2 * k + 1) (n / 256)) (2 * (k + 1))
stored_more s b k u h =
    let first = upto_more (2 * k) u (omega (arith, length-bytes_of s)) refl (sym (bytes_of_low s k h)) in
    let second = upto_more (2 * k + 1) first (omega (arith, length-bytes_of s)) refl (sym (bytes_of_high s k h)) in
    subst (Upto 0 (bytes_of s) _) (omega arith) second
