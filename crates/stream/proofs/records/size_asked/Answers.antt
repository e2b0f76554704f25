-- `stream::records::size_asked` meets its contract. Assumes nothing.
use mathlib.Core.Path.{sym, ◌∙◌}
use Rattle.std.proofs.lemmas.Result.{err_from_is_err_and}
use Rattle.stream.specs.Records.{stray_clear}
use Rattle.stream.proofs.Laws.{code_stray, code_sized, size_good}
use Rattle.stream.proofs.records.size_asked.Goals as goal

pub returns-then-any_not_zero-clause-code : goal.returns-then-any_not_zero-clause-code
unfolding stray_clear
returns-then-any_not_zero-clause-code c = code_stray c.args.q.now (sym c.any_not_zero.ensures ∙ c.if-any_not_zero.true)

pub returns-in_err-check_sizes-clause-code : goal.returns-in_err-check_sizes-clause-code
unfolding stray_clear
returns-in_err-check_sizes-clause-code c =
    let p = err_from_is_err_and c.from_residual.result c.from_residual.ensures.1 in
    rw (p.1, p.2) (code_sized c.args.q.now _ _ _ (sym c.any_not_zero.ensures ∙ c.if-any_not_zero.false) c.byte-columns.ensures.0 c.byte-rows.ensures.0 c.in_err-check_sizes.ensures.code)

pub invariant_of-result : goal.invariant_of-result
invariant_of-result c = record { sides = size_good _ _ c.in_ok-check_sizes.ensures.code }

pub returns-clause-code : goal.returns-clause-code
unfolding stray_clear
returns-clause-code c = code_sized c.args.q.now _ _ _ (sym c.any_not_zero.ensures ∙ c.if-any_not_zero.false) c.byte-columns.ensures.0 c.byte-rows.ensures.0 c.in_ok-check_sizes.ensures.code
