-- The test of a bottom row: what `all` tells of the row's weights, said of its columns. Assumes nothing.
use mathlib.Core.Path.{◌≡◌, ap, ◌∙◌}
use mathlib.Core.Bool.{true, false}
use Prim.Native.Nat.{◌+◌, ◌-◌, ◌*◌}
use native.Mathlib.Omega.{arith}
use lib.IntN.{pos}
use lib.ListN.{get_or, take, drop, length-take, length-drop}
use lib.Signed.{le_z}
use Rattle.std.proofs.Common.{rules}
use Rattle.std.proofs.lemmas.Int.{ints}
use Rattle.std.proofs.lemmas.Iterator.{cases_from_all, YieldsList-from_slice}
use Rattle.std.proofs.lemmas.List.{get_or-take, get_or-drop}
use Rattle.rules.specs.Surface.{cell}
use Rattle.rules.specs.Empties.{bottom_reaches}
use Rattle.cells.proofs.Laws.{row_before, every_from_all}
use Rattle.cells.proofs.bottom_reaches.Goals as goal

pub returns : goal.returns
unfolding bottom_reaches
returns c =
    let a = c.args in
    let r = a.r in
    let at = (r.y + r.h - 1) * a.w + r.x in
    let reaches = le_z (pos r.h) in
    let fits = row_before a.w (r.y + r.h - 1) (r.y + r.h) (r.x + r.w) (omega (arith, c.requires.sized.1)) c.requires.inside.0 in
    every_from_all r.w (λ i. cell a.w a.s.now (r.x + i) (r.y + r.h - 1)) reaches (take (at + r.w - at) (drop at a.s.now)) c.all.result
    (simp (length-take, length-drop) (omega (arith, fits, c.requires.inside.1)))
    (λ k l. get_or-take _ _ k (pos 0) (omega arith) ∙ get_or-drop at a.s.now k (pos 0) ∙ ap (λ n. get_or a.s.now n (pos 0)) (omega arith))
    (cases_from_all _ _ c.all.result (λ v. reaches v ≡ true) (λ v. reaches v ≡ false) c.all.ensures.ran (YieldsList-from_slice _ c.iter.ensures.rest) (λ x q k. (search rules, search rules)) (λ x q k. grind (arith, ints)))
