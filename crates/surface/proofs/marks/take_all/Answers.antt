use mathlib.Core.Path.{◌≡◌, sym, ◌∙◌, subst}
use native.Mathlib.Omega.{arith}
use lib.ListN.{length}
use Rattle.surface.specs.Marks.{Takeable}
use Rattle.surface.proofs.MarkLaws.{take_next, take_last, take_all}
use Rattle.surface.proofs.marks.take_all.Goals as goal

pub take_slot-requires : goal.take_slot-requires
take_slot-requires c =
    let l = c.loop-k in
    let a = c.args in
    let g = c.requires.2 in
    let h = c.loop-k-test.true in
    subst (λ i. Takeable a.w a.h a.t.now i l.ids l.k l.top l.m) (sym c.from.ensures) (record {
      wide = c.requires.0;
      widest = c.requires.1;
      low = g.low l.k h;
      used = g.used l.k h;
      room = omega (arith, c.requires.3);
      under = l.invariant.1;
      taken = take_next a.w a.h a.t.now l.ids l.k l.m a.used.now _ g h l.invariant.0;
    })

pub returns : goal.returns
returns c =
    let l = c.loop-k in
    let a = c.args in
    let q : length a.used.now ≡ l.k = omega arith in
    let d = take_last a.w a.h a.t.now l.ids l.k l.m (sym c.requires.2.many ∙ q) l.invariant.0 in
    record { code = rw (take_all a.w a.h a.t.now l.ids l.k l.m d); marked = d.marked }
