-- `listing::stairs::push` meets its contract. Assumes nothing.
use native.Mathlib.Omega.{arith}
use Rattle.listing.proofs.Cells.{positive}
use Rattle.listing.proofs.Cuts.{push_none, push_some}
use Rattle.listing.proofs.stairs.push.Goals as goal
use Rattle.listing.proofs.stairs.push.Goals.{then-k-n, else-k-n}

pub returns-then-height-eq0-clause-stairs_after : goal.returns-then-height-eq0-clause-stairs_after
returns-then-height-eq0-clause-stairs_after c = push_none _ _ _ _ _ c.requires.cut_at c.if-height-eq0.true

pub returns-clause-stairs_after : goal.returns-clause-stairs_after
returns-clause-stairs_after c =
    let p = positive c.args.height c.if-height-eq0.false in
    let put = push_some _ _ _ _ c.args.x c.requires.cut_at c.if-k-n.left c.requires.n_in_bounds p (c.requires.k_in_bounds p) in
    elim c.if-k-n.branch [
      | then-k-n w ↦ put (λ _. w.left-is) (λ h. absurd (omega arith))
      | else-k-n w ↦ put (λ h. absurd (omega arith)) (λ _. w.left-is)
    ]
