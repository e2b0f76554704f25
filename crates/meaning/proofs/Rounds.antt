-- WEIGHTS OF A SURFACE THAT STANDS ARE READ BACK FROM THEIR BYTES as they were written. Assumes nothing.
use mathlib.Core.Path.{◌≡◌, sym, ap, ◌∙◌, subst}
use mathlib.Core.List.{List}
use Prim.Native.Nat.{ℕ, zero, suc, ◌+◌, ◌-◌, ◌*◌, ◌/◌, ◌%◌, ◌≤◌, ◌<◌}
use native.Mathlib.Nat.{mod-lt, div-lt_iff_lt-mul, mul_comm}
use native.Mathlib.Omega.{arith}
use lib.IntN.{ℤ, pos, negsuc, neg_ℤ}
use lib.ListN.{length, get_or}
use lib.Seq.{ext_get_or}
use Rattle.rules.specs.Surface.{Standing, occupied, upwards, weight, fresh}
use Rattle.rules.specs.Host.{signed16, bits16, weight_at, weights_of, bytes_of}
use Rattle.rules.proofs.Tests.{get_or-tab}
use Rattle.meaning.proofs.Splits.{by_test}
use Rattle.meaning.proofs.Weights.{upwards_le, number_at_lem, weight_number, weight_empty}
use Rattle.meaning.proofs.Bytes.{low, high, length-bytes_of, bytes_of_low, bytes_of_high, length-weights_of}
use Rattle.meaning.specs.Column.{number_at}
use Rattle.meaning.proofs.Stands.{standing_fresh, number_fits}

-- ---- one weight, and all

abbrev Round : ℤ → Type 0
Round z = signed16 (bits16 z) ≡ z

round_neg : (n : ℕ) → 1 ≤ n → n ≤ 32768 → Round (neg_ℤ (pos n))
round_neg zero h l = absurd (omega arith)
round_neg (suc n) h l = sym (high (65535 - n) (omega arith)) ∙ ap negsuc (let q : 65535 - (65535 - n) ≡ n = omega arith in q)

pub round : (s : List ℤ) → ((k : ℕ) → k < length s → Round (get_or s k (pos 0))) → weights_of (bytes_of s) ≡ s
unfolding weights_of
round s h =
    let b = bytes_of s in
    let n : length b / 2 ≡ length s = (let l = length-bytes_of s in omega arith) in
    ext_get_or (pos 0) (weights_of b) s (length-weights_of b ∙ n)
    (λ k lt.
    let l : k < length s = omega (arith, length-weights_of b, n) in
    let z = bits16 (get_or s k (pos 0)) in
    let e : get_or b (2 * k) 0 + 256 * get_or b (2 * k + 1) 0 ≡ z = (let lo = bytes_of_low s k l in let hi = bytes_of_high s k l in omega arith) in
    get_or-tab (length b / 2) k (weight_at b) (pos 0) (omega (arith, n)) ∙ ap signed16 e ∙ h k l)

-- ---- the weights of a surface that stands

module _ (W H : ℕ) (s : List ℤ) (t : List ℕ) (d : Standing W H s t) where
  weight_round : (x y : ℕ) → x < W → y < H → Round (weight t x y)
  weight_round x y hx hy =
      by_test (occupied t x y)
      (λ e. subst Round (sym (weight_number t x y e)) (round_neg (number_at t x y) (number_at_lem t x y e) (omega (arith, number_fits W H s t d x y e))))
      (λ e. subst Round (sym (weight_empty t x y e)) (sym (low (upwards (occupied t) x y) (let l = upwards_le (occupied t) x y in omega (arith, d.sides.highest)))))

  -- WEIGHTS ARE READ BACK FROM THEIR BYTES
  pub standing_round : weights_of (bytes_of s) ≡ s
  unfolding fresh
  standing_round = round s (λ k l.
      let n = d.long in
      let e : get_or s k (pos 0) ≡ weight t (k % W) (k / W) =
      ap (λ u. get_or u k (pos 0)) (standing_fresh W H s t d) ∙ get_or-tab (W * H) k (λ k. weight t (k % W) (k / W)) (pos 0) (omega arith) in
      subst Round (sym e) (weight_round (k % W) (k / W) (mod-lt k d.sides.wide) ((div-lt_iff_lt-mul d.sides.wide).1 (omega (arith, mul_comm W H)))))
