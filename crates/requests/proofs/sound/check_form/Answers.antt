-- `requests::sound::check_form` meets its contract. Assumes nothing.
use Rattle.std.proofs.lemmas.Result.{err_from_is_err_and}
use Rattle.std.proofs.Common.{◌≡◌, refl, sym, ap, ap₂, ◌∙◌, List, ℕ, false, not, ltb}
use mathlib.Core.Bool.{◌&&◌, and-false}
use borrow.Author.Tests.{eq-eqb, ne_eqb, lt-ltb, le-ltb}
use Rattle.rules.specs.Requests.{known, by_rule, rule_of}
use Rattle.requests.specs.Steps.{stray}
use Rattle.meaning.proofs.First.{first_here, first_past, first_end}
use Rattle.requests.proofs.Lines.{known_told}
use Rattle.requests.proofs.sound.check_form.Goals as goal
use Rattle.requests.proofs.sound.check_form.Goals.{Else-is_stray, Joined-else-is_by_rule, else-is_by_rule-via-then-is_by_rule+else-q-gt2, else-is_by_rule-via-else-is_by_rule}

-- 11 and 12 do not apply
abbrev Past : List ℕ → Type 0
Past q = (not (known q) ≡ false) × (stray q ≡ false)

past : (c : Else-is_stray) → Past c.args.q.now
past c = (ap not (known_told c.args.q.now _ c.in_ok-operation.ensures), sym c.is_stray.ensures ∙ c.if-is_stray.false)

-- nor does 13
no_13 : (c : Joined-else-is_by_rule) → (by_rule c.args.q.now && ltb 2 (rule_of c.args.q.now)) ≡ false
no_13 c =
    elim c.else-is_by_rule.branch [
      | else-is_by_rule-via-then-is_by_rule+else-q-gt2 w ↦ ap (λ b. by_rule c.args.q.now && b) (le-ltb 2 _ w.if-q-gt2.false) ∙ and-false _
      | else-is_by_rule-via-else-is_by_rule w ↦ ap (λ b. b && ltb 2 (rule_of c.args.q.now)) (sym (c.is_by_rule.ensures c.args.q.now c.in_ok-operation.ensures) ∙ w.if-is_by_rule.false)
    ]

pub returns-in_err-operation-clause-code : goal.returns-in_err-operation-clause-code
returns-in_err-operation-clause-code c =
    let e = c.in_err-operation.ensures in
    let p = err_from_is_err_and c.from_residual.result c.from_residual.ensures.1 in
    rw (p.1, p.2, e.0) (first_here _ _ _ (ap not (e.1 c.args.q.now refl)))

pub returns-then-is_stray-clause-code : goal.returns-then-is_stray-clause-code
returns-then-is_stray-clause-code c = first_past _ _ _ _ (ap not (known_told c.args.q.now _ c.in_ok-operation.ensures)) (first_here _ _ _ (sym c.is_stray.ensures ∙ c.if-is_stray.true))

pub returns-then-q-gt2-clause-code : goal.returns-then-q-gt2-clause-code
returns-then-q-gt2-clause-code c =
    let p = past (goal.at.returns-then-q-gt2-clause-code c).Else-is_stray in
    first_past _ _ _ _ p.0 (first_past _ _ _ _ p.1 (first_here _ _ _ (ap₂ ◌&&◌ (sym (c.is_by_rule.ensures c.args.q.now c.in_ok-operation.ensures) ∙ c.if-is_by_rule.true) (lt-ltb 2 _ c.if-q-gt2.true))))

pub returns-then-id_asked-eq0-clause-code : goal.returns-then-id_asked-eq0-clause-code
returns-then-id_asked-eq0-clause-code c =
    let g = goal.at.returns-then-id_asked-eq0-clause-code c in
    let p = past g.Else-is_stray in
    first_past _ _ _ _ p.0 (first_past _ _ _ _ p.1 (first_past _ _ _ _ (no_13 g.Joined-else-is_by_rule) (first_here _ _ _ (eq-eqb _ 0 (sym c.id_asked.ensures.0 ∙ c.if-id_asked-eq0.true)))))

pub returns-clause-code : goal.returns-clause-code
returns-clause-code c =
    let g = goal.at.returns-clause-code c in
    let p = past g.Else-is_stray in
    first_past _ _ _ _ p.0 (first_past _ _ _ _ p.1 (first_past _ _ _ _ (no_13 g.Joined-else-is_by_rule) (first_past _ _ _ _ (ne_eqb _ 0 (λ e. c.if-id_asked-eq0.false (c.id_asked.ensures.0 ∙ e))) first_end)))
