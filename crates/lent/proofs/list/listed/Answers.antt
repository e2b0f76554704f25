-- `lent::list::listed` meets its contract. Assumes nothing.
use Rattle.surface.proofs.ExamineLaws.{ones_part}
use Rattle.lent.proofs.Laws.{told_err, sized, stood_lent, lent_standing, listed_refused, listed_fallen, listed_done, listed_small}
use Rattle.lent.proofs.list.listed.Goals as goal
use Rattle.lent.proofs.list.listed.Goals.{In_ok-examine}
use Rattle.rules.specs.Surface.{Standing}

pub returns-in_err-check_sizes : goal.returns-in_err-check_sizes
returns-in_err-check_sizes c = rw (told_err _ _ c.from_residual.ensures.1) (listed_refused _ _ _ _ _ _ c.in_err-check_sizes.ensures.code)

pub examine-requires : goal.examine-requires
examine-requires c = (sized _ _ _ _ c.in_ok-check_sizes.ensures.code, ones_part _ 4096 c.in_ok-check_sizes.ensures.cells)

pub returns-in_err-examine : goal.returns-in_err-examine
returns-in_err-examine c =
    rw (told_err _ _ c.from_residual-in_err-examine.ensures.1) (listed_fallen _ _ _ _ _ (sized _ _ _ _ c.in_ok-check_sizes.ensures.code) _ c.in_err-examine.ensures.answer)

-- it stands, with the weights in the scratch
held : (c : In_ok-examine) → let a = c.args in Standing a.w a.h c.examine.new.s a.table.now
held c =
    let k = stood_lent _ _ _ _ _ _ c.in_ok-examine.ensures in
    lent_standing _ _ _ _ (sized _ _ _ _ c.in_ok-check_sizes.ensures.code) _ k.1 k.0

pub invariant_of-surface : goal.invariant_of-surface
invariant_of-surface c = record { standing = held c }

pub returns-in_err-counts : goal.returns-in_err-counts
returns-in_err-counts c =
    let e = c.in_err-counts.ensures in
    rw (told_err _ _ c.from_residual-in_err-counts.ensures.1) (listed_done _ _ _ _ _ (sized _ _ _ _ c.in_ok-check_sizes.ensures.code) (stood_lent _ _ _ _ _ _ c.in_ok-examine.ensures).0 _ _ e.number e.room_after)

pub returns : goal.returns
returns c =
    let e = c.in_ok-counts.ensures in
    listed_done _ _ _ _ _ (sized _ _ _ _ c.in_ok-check_sizes.ensures.code) (stood_lent _ _ _ _ _ _ c.in_ok-examine.ensures).0 _ _ e.number e.room_after

pub invariant_of-result : goal.invariant_of-result
invariant_of-result c = record { small = listed_small _ _ _ c.args.table.now c.args.room.now (held (goal.at.invariant_of-result c).In_ok-examine) _ c.in_ok-counts.ensures.result_value }
