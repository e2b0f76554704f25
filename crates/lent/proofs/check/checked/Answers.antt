-- `lent::check::checked` meets its contract. Assumes nothing.
use Rattle.std.proofs.Common.{arith}
use Rattle.meaning.proofs.Counts.{used_few}
use Rattle.surface.proofs.ExamineLaws.{ones_part, stood}
use Rattle.lent.proofs.Laws.{told_err, sized, lent_good, checked_refused, checked_fallen, checked_done}
use Rattle.lent.proofs.check.checked.Goals as goal

pub returns-in_err-check_sizes : goal.returns-in_err-check_sizes
returns-in_err-check_sizes c = rw (told_err _ _ c.from_residual.ensures.1) (checked_refused _ _ _ _ _ c.in_err-check_sizes.ensures.code)

pub examine-requires : goal.examine-requires
examine-requires c = (sized _ _ _ _ c.in_ok-check_sizes.ensures.code, ones_part _ 4096 c.in_ok-check_sizes.ensures.cells)

pub returns-in_err-used : goal.returns-in_err-used
returns-in_err-used c =
    rw (told_err _ _ c.from_residual-in_err-used.ensures.1) (checked_fallen _ _ _ _ (sized _ _ _ _ c.in_ok-check_sizes.ensures.code) _ c.in_err-used.ensures.answer)

pub returns : goal.returns
returns c = let k = stood _ c.args.table.now _ _ c.examine.ensures.answer c.in_ok-used.was in
    checked_done _ _ _ _ (sized _ _ _ _ c.in_ok-check_sizes.ensures.code) k.0 _ k.1

pub invariant_of-result : goal.invariant_of-result
invariant_of-result c = let k = stood _ c.args.table.now _ _ c.examine.ensures.answer c.in_ok-used.was in
    record { small = (omega (arith, k.1, used_few c.args.table.now, (lent_good _ _ _ _ (sized _ _ c.args.weights.now _ c.in_ok-check_sizes.ensures.code)).few), omega arith) }
