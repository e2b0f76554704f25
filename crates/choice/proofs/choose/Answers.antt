-- `choice::choose` meets its contract. Assumes nothing.
use mathlib.Core.Path.{◌≡◌, refl, sym, ◌∙◌}
use mathlib.Core.Bool.{true}
use native.Mathlib.Omega.{arith}
use Rattle.std.proofs.Common.{rules, ◌<◌, ◌+◌}
use Rattle.listing.proofs.ListLaws.{unscanned_rects}
use Rattle.choice.proofs.Walk.{chosen_by, place_in, unbeaten, above_none, above_more, above_same, above_unbeaten, above_all}
use Rattle.choice.proofs.choose.Goals as goal
use Rattle.choice.proofs.choose.Goals.{then-scans-y+else-is_some_and, else-scans-y}
use Rattle.choice.proofs.choose.Goals.{else-loop-y-test, then-loop-y-test+then-scans-y+then-is_some_and}

pub loop-y-init : goal.loop-y-init
loop-y-init c = (refl, above_none)

pub loop-y-preserved : goal.loop-y-preserved
loop-y-preserved c =
    let a = c.args.surface.now in
    let i = c.loop-y.invariant in
    let y = c.loop-y.y in
    elim c.if-scans-y.branch [
      | then-scans-y+else-is_some_and w ↦ (search rules, rw w.best-is (above_more y i.1 w.best_row-best.ensures))
      | else-scans-y w ↦
          let n : y < a.h = omega arith in
          (search rules, rw w.best-is (above_same y i.1 (unscanned_rects a.table.now a.w a.h y n (sym (c.scanned_rows.ensures.marks _ n) ∙ w.if-scans-y.false))))
    ]

pub returns-clause-place : goal.returns-clause-place
returns-clause-place c =
    let a = c.args.surface.now in
    let y = c.loop-y.y in
    let i = c.loop-y.invariant in
    let m : c.map.result ≡ place_in c.loop-y-test.best = search (rules, c.map.ensures) in
    elim c.loop-y-test.branch [
      | else-loop-y-test w ↦ m ∙ above_all y (rw w.best-is i.1) (omega arith)
      | then-loop-y-test+then-scans-y+then-is_some_and w ↦
          let u : unbeaten w.best_row-best.result ≡ true = search (rules, w.is_some_and.ensures) in
          m ∙ above_all a.h (rw w.best-is (above_unbeaten (y + 1) a.h (omega arith) (above_more y i.1 w.best_row-best.ensures) u)) refl
    ]

pub returns-clause-chosen : goal.returns-clause-chosen
returns-clause-chosen c = chosen_by _ _ (returns-clause-place c)
