-- WEIGHTS AND THEIR BYTES: a signed number and its 16 bits, a list of them and its bytes, both ways. Assumes nothing.
use mathlib.Core.Path.{◌≡◌, refl, sym, ap, ◌∙◌}
use mathlib.Core.List.{List, [], ◌∷◌}
use Prim.Native.Nat.{ℕ, zero, suc, ◌+◌, ◌-◌, ◌*◌, ◌/◌, ◌%◌, ◌<◌, ◌≤◌}
use native.Mathlib.Omega.{arith}
use borrow.Author.Tests.{le-ltb, lt-ltb}
use lib.IntN.{ℤ, pos, negsuc}
use lib.ListN.{length, get_or}
use lib.Seq.{ext_get_or}
use Rattle.rules.specs.Host.{signed16, bits16, weight_at, weights_of, bytes_of}
use Rattle.rules.proofs.Tests.{length-tab, get_or-tab}
use Rattle.meaning.proofs.Splits.{by_less}

-- ---- one number of 16 bits

pub low : (n : ℕ) → n < 32768 → pos n ≡ signed16 n
low n h = rw (lt-ltb n 32768 h)

pub high : (n : ℕ) → 32768 ≤ n → negsuc (65535 - n) ≡ signed16 n
high n h = rw (le-ltb n 32768 h)

-- ---- the bytes of a list of weights

pub length-bytes_of : (s : List ℤ) → length (bytes_of s) ≡ 2 * length s
unfolding bytes_of
length-bytes_of [] = refl
length-bytes_of (z ∷ s) = ap (λ n. suc (suc n)) (length-bytes_of s) ∙ omega arith

pub bytes_of_low : (s : List ℤ) (k : ℕ) → k < length s → get_or (bytes_of s) (2 * k) 0 ≡ bits16 (get_or s k (pos 0)) % 256
unfolding bytes_of
bytes_of_low [] k h = absurd (omega arith)
bytes_of_low (z ∷ s) zero h = refl
bytes_of_low (z ∷ s) (suc k) h = let e : 2 * suc k ≡ suc (suc (2 * k)) = omega arith in rw e (bytes_of_low s k (omega arith))

pub bytes_of_high : (s : List ℤ) (k : ℕ) → k < length s → get_or (bytes_of s) (2 * k + 1) 0 ≡ bits16 (get_or s k (pos 0)) / 256
unfolding bytes_of
bytes_of_high [] k h = absurd (omega arith)
bytes_of_high (z ∷ s) zero h = refl
bytes_of_high (z ∷ s) (suc k) h = let e : 2 * suc k + 1 ≡ suc (suc (2 * k + 1)) = omega arith in rw e (bytes_of_high s k (omega arith))

-- ---- the weights of a list of bytes

pub length-weights_of : (b : List ℕ) → length (weights_of b) ≡ length b / 2
unfolding weights_of
length-weights_of b = length-tab (length b / 2) (weight_at b)

pub weights_of_at : (b : List ℕ) (k : ℕ) → k < length b / 2 → get_or (weights_of b) k (pos 0) ≡ weight_at b k
unfolding weights_of
weights_of_at b k h = get_or-tab (length b / 2) k (weight_at b) (pos 0) h

-- ---- bytes that are bytes

bits_signed : (n : ℕ) → n < 65536 → bits16 (signed16 n) ≡ n
bits_signed n l =
    by_less n 32768 (λ h. ap bits16 (sym (low n h))) (λ h. ap bits16 (sym (high n h)) ∙ (let q : 65535 - (65535 - n) ≡ n = omega arith in q))

module _ (w : List ℕ) (bytes : (k : ℕ) → get_or w k 0 < 256) (n : ℕ) (long : length w ≡ 2 * n) where
  many : length (weights_of w) ≡ n
  many = let q : length w / 2 ≡ n = omega arith in length-weights_of w ∙ q

  -- the 16 bits of the weight at cell j
  bits_at : (j : ℕ) → j < n → bits16 (get_or (weights_of w) j (pos 0)) ≡ get_or w (2 * j) 0 + 256 * get_or w (2 * j + 1) 0
  bits_at j l =
      ap bits16 (weights_of_at w j (omega arith))
      ∙ bits_signed (get_or w (2 * j) 0 + 256 * get_or w (2 * j + 1) 0) (omega (arith, bytes (2 * j), bytes (2 * j + 1)))

  byte_back : (k : ℕ) → k < 2 * n → get_or (bytes_of (weights_of w)) k 0 ≡ get_or w k 0
  byte_back k l =
      let j = k / 2 in
      let m = bits_at j (omega arith) in
      let z = bits16 (get_or (weights_of w) j (pos 0)) in
      by_less (k % 2) 1
      (λ h.
      let e : k ≡ 2 * j = omega arith in
      let g : z % 256 ≡ get_or w (2 * j) 0 = omega (arith, m, bytes (2 * j), bytes (2 * j + 1)) in
      ap (λ i. get_or (bytes_of (weights_of w)) i 0) e ∙ bytes_of_low (weights_of w) j (omega (arith, many)) ∙ g ∙ ap (λ i. get_or w i 0) (sym e))
      (λ h.
      let e : k ≡ 2 * j + 1 = omega arith in
      let g : z / 256 ≡ get_or w (2 * j + 1) 0 = omega (arith, m, bytes (2 * j), bytes (2 * j + 1)) in
      ap (λ i. get_or (bytes_of (weights_of w)) i 0) e ∙ bytes_of_high (weights_of w) j (omega (arith, many)) ∙ g ∙ ap (λ i. get_or w i 0) (sym e))

  -- BYTES ARE WRITTEN BACK AS THEY WERE READ
  pub bytes_back : bytes_of (weights_of w) ≡ w
  bytes_back =
      let l : length (bytes_of (weights_of w)) ≡ length w = (let a = length-bytes_of (weights_of w) in let b = many in omega arith) in
      ext_get_or 0 (bytes_of (weights_of w)) w l (λ k h. byte_back k (omega arith))
