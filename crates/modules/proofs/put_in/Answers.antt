-- `modules::put_in` meets its contract: the law `put_weights` at what `add` and `put_record` promise. Assumes nothing.
use Rattle.std.proofs.Common.{ap, ◌∙◌, arith}
use Rattle.rules.specs.Surface.{record_of, with_record}
use Rattle.modules.proofs.Weights.{put_weights}
use Rattle.modules.proofs.put_in.Goals as goal

pub returns-clause-s_after : goal.returns-clause-s_after
returns-clause-s_after c =
    let r = c.args.r in
    let record_put = c.put_record.ensures ∙ ap (λ n. with_record c.args.t.now c.args.i (record_of r.id_low r.id_high r.rect n)) c.byte.ensures in
    let e = put_weights c.requires (c.add.ensures.added _) record_put in grind (arith, e)
