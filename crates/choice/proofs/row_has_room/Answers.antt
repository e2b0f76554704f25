-- `choice::row_has_room` meets its contract. Assumes nothing.
use native.Mathlib.Omega.{arith}
use Rattle.std.proofs.Common.{rules, get_or, pos}
use Rattle.std.proofs.lemmas.Int.{to_z-of_z}
use mir.Syntax.{w16}
use mir.Val.{SFits}
use Rattle.choice.proofs.Room.{runs_more, runs_anew, too_low, too_high, too_short, row_of}
use Rattle.choice.proofs.row_has_room.Goals as goal
use Rattle.choice.proofs.row_has_room.Goals.{then-weight-least, else-weight-least+else-wanted-run}

pub returns-then-y-wanted : goal.returns-then-y-wanted
returns-then-y-wanted c = λ _. too_high c.args.surface.now c.args.y c.requires _ _ c.if-y-wanted.true

pub loop-weight-preserved : goal.loop-weight-preserved
loop-weight-preserved c =
    let a = c.args.surface.now in
    let l = c.loop-weight in
    elim c.if-weight-least.branch [
      | then-weight-least w ↦
          let f : SFits w16 (get_or (row_of a.w a.weights.now c.args.y) l.weight-index (pos 0)) = search rules in
          let g : SFits w16 c.counted-least.result = search rules in
          rw w.run-is (runs_anew l.run l.weight-index l.invariant (too_low a c.args.y c.requires _ _ c.counted-least.result (omega arith) c.counted-least.ensures (simp to_z-of_z at w.if-weight-least.true)))
      | else-weight-least+else-wanted-run w ↦ rw w.run-is (runs_more l.run l.weight-index l.invariant w.if-wanted-run.false)
    ]

pub returns : goal.returns
returns c = λ _. let l = c.loop-weight in too_short c.args.surface.now c.args.y c.requires _ _ l.run l.weight-index l.invariant (omega arith)
