use mathlib.Core.Path.{refl, sym, ap, ◌∙◌}
use Prim.Native.Nat.{◌*◌}
use lib.ListN.{length}
use Rattle.std.proofs.lemmas.Result.{err_from_is_err_and}
use Rattle.rules.specs.Host.{lent, bad_bytes, weights_of}
use Rattle.rules.proofs.Tests.{not_both}
use Rattle.cells.proofs.Laws.{same_equal}
use Rattle.meaning.proofs.Codes.{table_sized}
use Rattle.surface.proofs.ExamineLaws.{fallen, stands_is, falls_is, table_fallen, Worked, table_stood}
use Rattle.lent.proofs.Laws.{lent_good, lent_long, weights_many}
use Rattle.lent.proofs.examine.examine.Goals as goal
use Rattle.lent.proofs.examine.examine.Goals.{In_ok-used}

pub work_out-requires : goal.work_out-requires
work_out-requires c = let a = c.args in
    (table_sized (bad_bytes a.w a.h (lent a.b.now a.t.now)) a.w a.h (length a.t.now) c.requires.0.right, c.requires.1)

pub returns-in_err-used : goal.returns-in_err-used
returns-in_err-used c =
    let a = c.args in
    let p = err_from_is_err_and c.from_residual.result c.from_residual.ensures.1 in
    let k = table_fallen a.w a.h (weights_of a.b.now) _ a.t.now _ c.work_out.ensures _ c.in_err-used.was in
    rw (p.1, p.2) (record { answer = k; weights = λ q. not_both _ q (fallen _ _ _ _ k refl) })

-- the table stands
worked : (c : In_ok-used) → let a = c.args in let k = c.work_out in
    Worked a.w a.h (weights_of a.b.now) k.new.m a.t.now k.result k.ensures c.in_ok-used.used
worked c =
    let a = c.args in
    table_stood a.w a.h (weights_of a.b.now) _ a.t.now _ c.work_out.ensures (lent_good _ _ _ _ c.requires.0).sides.wide
    (weights_many _ _ _ _ c.requires.0) _ c.in_ok-used.was

pub same-requires : goal.same-requires
same-requires c = lent_long _ _ _ _ c.requires.0 ∙ ap (λ n. 2 * n) (sym (worked (goal.at.same-requires c).In_ok-used).long)

pub returns-then-not-same : goal.returns-then-not-same
returns-then-not-same c =
    let e = (worked (goal.at.returns-then-not-same c).In_ok-used).same ∙ sym c.same.ensures ∙ c.if-not-same.true in
    record { answer = falls_is _ _ e; weights = λ q. not_both _ q e }

pub returns : goal.returns
returns c =
    let a = c.args in
    let k = worked (goal.at.returns c).In_ok-used in
    let yes = sym c.same.ensures ∙ c.if-not-same.false in
    record {
      answer = stands_is _ _ _ (k.same ∙ yes) k.used;
      weights = λ q. same_equal _ (weights_of a.b.now) (k.long ∙ sym (weights_many _ _ _ _ c.requires.0)) yes;
    }
