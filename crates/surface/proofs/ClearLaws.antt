-- Laws of the cleared surface. Assumes nothing.
use mathlib.Core.Path.{◌≡◌, sym, ap, ap₂, ◌∙◌}
use mathlib.Core.List.{List, ◌++◌}
use mathlib.Core.Logic.{⊎_elim}
use Prim.Native.Nat.{ℕ, ◌+◌, ◌-◌, ◌*◌, ◌/◌, ◌≤◌, ◌<◌}
use native.Mathlib.Nat.{mul_comm, add-mul}
use native.Mathlib.Omega.{arith}
use lib.Arith.{digits_div}
use borrow.Rule.Slice.PartMut.{put_mid}
use Rattle.std.proofs.lemmas.Slice.{take-put_mid}
use lib.ListN.{length, take, drop, replicate, length-take, length-drop, get_or, length-append, length-replicate, get_or-append, get_or-replicate}
use lib.Seq.{ext_get_or, get_or-append_right}
use lib.IntN.{ℤ, pos}
use Rattle.rules.specs.Tests.{tab, tab_from}
use Rattle.rules.specs.Calls.{cleared_weights}
use Rattle.surface.proofs.RowLaws.{row_end}
use Rattle.rules.proofs.Tests.{length-tab, get_or-tab, lt_or_le}

pub no_rows : (w : ℕ) (s : List ℤ) → take (0 * w) s ≡ cleared_weights w 0
unfolding cleared_weights tab_from
no_rows w s = rw (let q : 0 * w ≡ 0 = omega arith in q, let q : w * 0 ≡ 0 = omega arith in q)

one_row_more : (w y : ℕ) → cleared_weights w y ++ replicate w (pos (y + 1)) ≡ cleared_weights w (y + 1)
unfolding cleared_weights
one_row_more w y = ext_get_or (pos 0) _ _ (long ∙ sym (length-tab (w * (y + 1)) f)) same
  where
    f : ℕ → ℤ
    f k = pos (k / w + 1)

    row : List ℤ
    row = replicate w (pos (y + 1))

    long : length (tab (w * y) f ++ replicate w (pos (y + 1))) ≡ w * (y + 1)
    long = omega (arith, length-append (tab (w * y) f) (replicate w (pos (y + 1))), length-tab (w * y) f, length-replicate w (pos (y + 1)), mul_comm w (y + 1), mul_comm w y, add-mul y 1 w)

    same : (k : ℕ) → k < length (tab (w * y) f ++ replicate w (pos (y + 1))) → get_or (tab (w * y) f ++ replicate w (pos (y + 1))) k (pos 0) ≡ get_or (tab (w * (y + 1)) f) k (pos 0)
    same k l =
        let n = length-tab (w * y) f in
        let h : k < w * (y + 1) = omega (arith, long) in
        ⊎_elim
        (λ (a : k < w * y). get_or-append (tab (w * y) f) _ (pos 0) k (omega (arith, n)) ∙ get_or-tab (w * y) k f (pos 0) a)
        (λ (a : w * y ≤ k).
        let i : k - w * y < w = omega (arith, mul_comm w (y + 1), mul_comm w y, add-mul y 1 w) in
        let q : y * w + (k - w * y) ≡ k = omega (arith, mul_comm w y) in
        get_or-append_right (tab (w * y) f) _ k (pos 0) (omega (arith, n)) ∙ get_or-replicate w _ (pos (y + 1)) (pos 0) (omega (arith, n, i))
        ∙ ap (λ d. pos (d + 1)) (sym (ap (λ n. n / w) (sym q) ∙ digits_div y i)))
        (lt_or_le k (w * y)) ∙ sym (get_or-tab (w * (y + 1)) k f (pos 0) h)

-- row y is cleared too
pub row_cleared : (w h y : ℕ) (s row : List ℤ) → y < h → length s ≡ w * h → take (y * w) s ≡ cleared_weights w y →
    row ≡ replicate (length (take ((y + 1) * w - y * w) (drop (y * w) s))) (pos (y + 1)) → take ((y + 1) * w) (put_mid (y * w) ((y + 1) * w - y * w) s row) ≡ cleared_weights w (y + 1)
row_cleared w h y s row l n e q =
    let r : y * w + w ≤ w * h = row_end w h y l in
    let m : length (take ((y + 1) * w - y * w) (drop (y * w) s)) ≡ w = omega (arith, length-take ((y + 1) * w - y * w) (drop (y * w) s), length-drop (y * w) s, add-mul y 1 w) in
    let p : row ≡ replicate w (pos (y + 1)) = q ∙ ap (λ k. replicate k (pos (y + 1))) m in
    take-put_mid (y * w) _ s row _ (omega (arith, ap length p, length-replicate w (pos (y + 1)), add-mul y 1 w)) (omega arith) ∙ ap₂ ◌++◌ e p ∙ one_row_more w y
