-- `requests::run::run_on` meets its contract. Assumes nothing.
use Rattle.std.proofs.Common.{Bor, cond}
use mathlib.Core.Path.{◌≡◌, sym, ap, subst₂, ◌∙◌}
use mathlib.Core.List.{List}
use Prim.Native.Nat.{ℕ, suc, ◌<◌}
use native.Mathlib.Omega.{arith}
use borrow.Author.Rules.{rules}
use borrow.Author.Tests.{ltb-true}
use lib.ListN.{length}
use Rattle.requests.specs.Steps.{ServedAt}
use Rattle.requests.proofs.Turns.{ran_none, ran_suc, bit}
use Rattle.requests.proofs.run.run_on.Goals as goal

pub loop-r-init : goal.loop-r-init
loop-r-init c =
    let a = c.args in (
      ap (λ (b : Bor (List ℕ)). b.now) c.begin-r.ensures.0,
      0,
      c.begin-r.ensures.1,
      omega arith,
      search rules,
      ran_none a.w a.h a.s.now a.t.now a.q.now a.a.now,
    )

pub loop-r-preserved : goal.loop-r-preserved
loop-r-preserved c =
    let a = c.args in
    let l = c.loop-r in
    let i = l.invariant in
    let k = i.4 in
    let b : length l.r.block.now ≡ length a.q.now = ap length i.0 in
    let less : l.r.at < length l.r.block.now = ltb-true _ _ (sym c.loop-r-test.ensures) in
    let n = c.serve_next in
    let m = n.new.surface in
    let served = subst₂ (λ b at. ServedAt a.w a.h b at l.surface.weights.now l.surface.table.now l.a m.weights.now m.table.now n.new.a (cond n.result 1 0)) i.0 i.2 (rw (k.w, k.h) at n.ensures.served) in (
      ap (λ (b : Bor (List ℕ)). b.now) c.next-r.ensures.0 ∙ i.0,
      suc i.1,
      omega (arith, c.next-r.ensures.1, i.2),
      omega (arith, less, b, i.2, c.requires.q_len.0),
      search rules,
      rw (c.from-done.ensures, bit n.result) (ran_suc a.w a.h a.s.now a.t.now a.q.now a.a.now i.1 l.surface.weights.now l.surface.table.now l.a m.weights.now m.table.now n.new.a l.done (cond n.result 1 0) i.5 served),
    )
