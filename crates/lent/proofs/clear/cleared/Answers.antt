-- `lent::clear::cleared` meets its contract. Assumes nothing.
use Rattle.std.proofs.Common.{◌*◌, refl, sym, ap, ◌∙◌}
use Rattle.rules.specs.Host.{bytes_of}
use Rattle.surface.proofs.ExamineLaws.{part}
use Rattle.lent.proofs.Laws.{told_err, sized, lent_long, lent_good, clear_refused, clear_done}
use Rattle.lent.proofs.clear.cleared.Goals as goal

pub returns-in_err-check_sizes : goal.returns-in_err-check_sizes
returns-in_err-check_sizes c = rw (told_err _ _ c.from_residual.ensures.1) (clear_refused _ _ _ _ _ c.in_err-check_sizes.ensures.code)

pub clear_weights-requires : goal.clear_weights-requires
clear_weights-requires c = let d = (lent_good _ _ _ _ (sized _ _ c.args.weights.now _ c.in_ok-check_sizes.ensures.code)).sides in (d.widest, d.highest, sym (part _ _ 4096 c.in_ok-check_sizes.ensures.cells refl))

pub encode-requires : goal.encode-requires
encode-requires c =
    lent_long _ _ _ _ (sized _ _ _ c.args.table.now c.in_ok-check_sizes.ensures.code)
    ∙ ap (λ n. 2 * n) (part _ _ 4096 c.in_ok-check_sizes.ensures.cells refl ∙ sym c.clear_weights.auto.s)

pub returns : goal.returns
returns c = clear_done _ _ _ _ (sized _ _ _ _ c.in_ok-check_sizes.ensures.code) _ _ (c.encode.ensures ∙ ap bytes_of c.clear_weights.ensures) c.free_slots.ensures
