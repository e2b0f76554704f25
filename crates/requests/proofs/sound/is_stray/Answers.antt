-- `requests::sound::is_stray` meets its contract. Assumes nothing.
use Rattle.std.proofs.Common.{◌∙◌, eqb}
use Rattle.requests.specs.declared.operation.Operation.TheVariants.{Remove}
use Rattle.requests.proofs.Lines.{told, there_told, rule_told, stray_remove, stray_there, stray_rule}
use Rattle.requests.proofs.sound.is_stray.Goals as goal

pub returns-in-Remove : goal.returns-in-Remove
returns-in-Remove c = c.any_not_zero.ensures ∙ stray_remove _ (told c.args.q.now _ c.requires.asks (λ n. eqb n 2) Remove c.in-Remove.is)

pub returns-in-Pin : goal.returns-in-Pin
returns-in-Pin c = let e = there_told c.args.q.now _ c.requires.asks c.in-Pin.is in stray_there _ _ e.0 e.1 c.byte.ensures.0

pub returns-in-Place : goal.returns-in-Place
returns-in-Place c =
    let e = rule_told c.args.q.now _ c.requires.asks c.in-Place.is in
    stray_rule _ _ _ e.0 e.1.0 e.1.1 c.byte-in-Place.ensures.0 c.byte-in-Place-2.ensures.0
