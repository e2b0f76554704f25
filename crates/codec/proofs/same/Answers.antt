use mathlib.Core.Path.{◌≡◌, refl, sym, ap, ap₂, ◌∙◌}
use mathlib.Core.Bool.{◌&&◌}
use native.Mathlib.Omega.{arith}
use native.Mathlib.Numerals.{add-one}
use lib.IntN.{pos}
use lib.ListN.{length, get_or}
use mir.Syntax.{w16}
use mir.Val.{SFits}
use borrow.Author.Rules.{rules}
use Rattle.rules.specs.Tests.{every, eq_z}
use Rattle.cells.specs.Weight.{same_weights}
use Rattle.cells.proofs.Laws.{same_bits}
use Rattle.meaning.proofs.Bytes.{weights_of_at}
use Rattle.codec.proofs.same.Invariants.{item}
use Rattle.codec.proofs.same.Goals as goal

pub loop-k-init : goal.loop-k-init
unfolding every
loop-k-init c = refl

pub loop-k-preserved : goal.loop-k-preserved
unfolding every
loop-k-preserved c =
    let l = c.loop-k in
    let v = get_or c.args.s.now l.k (pos 0) in
    let f : SFits w16 v = search rules in
    let g : SFits w16 c.weight_at.result = search rules in
    rw add-one (ap₂ ◌&&◌ l.invariant (same_bits w16 v _ f g ∙ ap (eq_z v) (c.weight_at.ensures ∙ sym (weights_of_at c.args.b.now l.k (omega arith)))))

pub returns : goal.returns
unfolding same_weights
returns c =
    let l = c.loop-k in
    let n : l.k ≡ length c.args.s.now = omega arith in
    l.invariant ∙ ap (λ k. every k (item c.args.b.now c.args.s.now)) n
