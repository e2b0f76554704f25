use mathlib.Core.Path.{◌≡◌, sym, ap, ◌∙◌, subst}
use Prim.Native.Nat.{◌*◌, ◌<◌}
use native.Mathlib.Omega.{arith}
use lib.ListN.{length}
use Rattle.rules.specs.Blocks.{started, requests, after}
use Rattle.rules.specs.Host.{lent, weights_of, bytes_of}
use Rattle.meaning.proofs.Counts.{accepted_few}
use Rattle.surface.proofs.ExamineLaws.{ones_part}
use Rattle.requests.specs.Steps.{Ran}
use Rattle.lent.specs.Lent.{RightBlock}
use Rattle.lent.proofs.Laws.{told_err, stood_lent, lent_long, weights_many, lent_standing}
use Rattle.lent.proofs.RunLaws.{block_lent, block_good, ran_refused, ran_fallen, ran_done, unwritten}
use Rattle.lent.proofs.run.ran.Goals as goal
use Rattle.lent.proofs.run.ran.Goals.{After-run_on-accepted, In_ok-check_block, then-accepted-gt0, else-accepted-gt0}

pub returns-in_err-check_block : goal.returns-in_err-check_block
returns-in_err-check_block c = rw (told_err _ _ c.from_residual.ensures.1) (ran_refused _ _ _ _ _ _ _ c.in_err-check_block.ensures.code)

-- sizes and lengths are right
right : (c : In_ok-check_block) → let a = c.args in RightBlock a.w a.h (lent a.weights.now a.table.now) a.requests.now a.answers.now
right c = record { right = sym c.in_ok-check_block.ensures.code }

pub examine-requires : goal.examine-requires
examine-requires c = (block_lent _ _ _ _ _ _ (right (goal.at.examine-requires c).In_ok-check_block), ones_part _ 4096 c.in_ok-check_block.ensures.cells)

pub returns-in_err-examine : goal.returns-in_err-examine
returns-in_err-examine c =
    rw (told_err _ _ c.from_residual-in_err-examine.ensures.1) (ran_fallen _ _ _ _ _ _ (right (goal.at.returns-in_err-examine c).In_ok-check_block).right _ c.in_err-examine.ensures.answer)

pub run_on-accepted-requires-clause-standing : goal.run_on-accepted-requires-clause-standing
run_on-accepted-requires-clause-standing c =
    let k = stood_lent _ _ _ _ _ _ c.in_ok-examine.ensures in
    lent_standing _ _ _ _ (block_lent _ _ _ _ _ _ (right (goal.at.run_on-accepted-requires-clause-standing c).In_ok-check_block)) _ k.1 k.0

pub run_on-accepted-requires-clause-q_len : goal.run_on-accepted-requires-clause-q_len
run_on-accepted-requires-clause-q_len c =
    let g = block_good _ _ _ _ _ _ (right (goal.at.run_on-accepted-requires-clause-q_len c).In_ok-check_block) in (g.whole, g.few, g.alike)

-- what the block has left, from the lent weights
left : (c : After-run_on-accepted) → c.examine.new.s ≡ weights_of c.args.weights.now → let a = c.args in let k = c.run_on-accepted in
    Ran (after a.w a.h a.requests.now (started (weights_of a.weights.now) a.table.now) (requests a.requests.now)) k.new.s k.new.t k.new.a k.result
left c e = let a = c.args in let k = c.run_on-accepted in
    subst (λ s. Ran (after a.w a.h a.requests.now (started s a.table.now) (requests a.requests.now)) k.new.s k.new.t k.new.a k.result) e k.ensures

-- the scratch is as long as before
pub encode-requires : goal.encode-requires
encode-requires c =
    let g = block_lent _ _ _ _ _ _ (right (goal.at.encode-requires c).In_ok-check_block) in
    let e = (stood_lent _ _ _ _ _ _ c.in_ok-examine.ensures).1 in
    lent_long _ _ _ _ g ∙ ap (λ n. 2 * n) (sym (c.run_on-accepted.auto.s ∙ ap length e ∙ weights_many _ _ _ _ g))

-- at most as many are accepted as there are
few : (c : After-run_on-accepted) → RightBlock c.args.w c.args.h (lent c.args.weights.now c.args.table.now) c.args.requests.now c.args.answers.now → c.examine.new.s ≡ weights_of c.args.weights.now → c.run_on-accepted.result < 65536
few c d e =
    let a = c.args in
    let g = block_good _ _ _ _ _ _ d in
    omega (arith, (left c e).accepted, accepted_few a.w a.h a.requests.now (weights_of a.weights.now) a.table.now (requests a.requests.now), g.few)

pub invariant_of-result : goal.invariant_of-result
invariant_of-result c =
    let p = goal.at.invariant_of-result c in
    record { small = (few p.After-run_on-accepted (right p.In_ok-check_block) (stood_lent _ _ _ _ _ _ c.in_ok-examine.ensures).1, omega arith) }

pub returns : goal.returns
returns c =
    let p = goal.at.returns c in
    let d = right p.In_ok-check_block in
    let k = stood_lent _ _ _ _ _ _ c.in_ok-examine.ensures in
    let r = left p.After-run_on-accepted k.1 in
    ran_done _ _ _ _ _ _ d.right k.0 _ _ _ _ _ r (elim c.if-accepted-gt0.branch [
      | then-accepted-gt0 z ↦ z.weights-is ∙ z.encode.ensures ∙ ap bytes_of r.weights
      | else-accepted-gt0 z ↦ z.weights-is ∙ unwritten _ _ _ _ _ c.args.answers.now (λ k. omega (arith, c.slice_known-1.given k)) (lent_long _ _ _ _ (block_lent _ _ _ _ _ _ d)) (omega (arith, r.accepted, z.if-accepted-gt0.false))
    ])
