use mathlib.Core.Path.{◌≡◌, sym, ◌∙◌}
use mathlib.Core.List.{[], ◌∷◌}
use Prim.Native.Nat.{◌/◌, ◌%◌}
use native.Mathlib.Omega.{arith}
use lib.IntN.{pos}
use lib.ListN.{get_or}
use mir.Syntax.{w16}
use mir.Val.{SFits}
use mir.ValLaws.{to_z-of_z}
use borrow.Author.Rules.{rules}
use Rattle.rules.specs.Host.{bits16}
use Rattle.cells.proofs.Upto.{upto_none, upto_all}
use Rattle.meaning.proofs.Bytes.{length-bytes_of}
use Rattle.codec.proofs.Laws.{two_bytes, stored_more}
use Rattle.codec.proofs.encode.Goals as goal

pub loop-k-init : goal.loop-k-init
loop-k-init c = upto_none (c.requires ∙ sym (length-bytes_of c.args.s.now))

pub loop-k-preserved : goal.loop-k-preserved
loop-k-preserved c =
    let l = c.loop-k in
    let v = get_or c.args.s.now l.k (pos 0) in
    let f : SFits w16 v = search rules in
    let e : c.to_le_bytes.result ≡ bits16 v % 256 ∷ bits16 v / 256 ∷ [] = c.to_le_bytes.ensures ∙ rw (to_z-of_z w16 v f) (two_bytes v f) in
    rw e (stored_more c.args.s.now l.b l.k l.invariant (omega arith))

pub returns : goal.returns
returns c = upto_all _ c.loop-k.invariant (omega (arith, length-bytes_of c.args.s.now))
