-- `requests::sound::check_slot` meets its contract. Assumes nothing.
use Rattle.std.proofs.Common.{◌≡◌, refl, sym, ap, ap₂, ◌∙◌, true, false, true≢false, not, ltb, eqb}
use mathlib.Core.Bool.{◌&&◌, ◌||◌, and-false}
use borrow.Author.Tests.{eq-eqb, ne_eqb}
use Rattle.rules.specs.Surface.{slots, is_hard}
use Rattle.rules.specs.Requests.{makes_new, needs_old, has_size, wide, high}
use Rattle.std.specs.Option.{is_some}
use Rattle.table.specs.Slot.{slot_or}
use Rattle.meaning.proofs.First.{first_here, first_past, first_end}
use Rattle.requests.proofs.Lines.{found, none_asked}
use Rattle.requests.proofs.sound.check_slot.Goals as goal
use Rattle.requests.proofs.sound.check_slot.Goals.{Joined-else-makes_new, else-makes_new-via-then-makes_new+else-is_some, else-makes_new-via-else-makes_new, Joined-needs_old, then-needs_old+in-Some+else-is_block, else-needs_old, Joined-q-eq0, Joined-else-has_size, else-has_size-via-then-has_size+else-q-eq0-2, then-q-eq0, else-q-eq0, else-has_size-via-else-has_size}

-- 15 does not apply
no_15 : (c : Joined-else-makes_new) → (makes_new c.args.q.now && ltb (slot_or (slots c.args.t.now) c.args.slot) (slots c.args.t.now)) ≡ false
no_15 c =
    let q = c.args.q.now in
    elim c.else-makes_new.branch [
      | else-makes_new-via-then-makes_new+else-is_some w ↦ ap (λ b. makes_new q && b) (sym (w.is_some.ensures ∙ found _ _ c.requires.inside) ∙ w.if-is_some.false) ∙ and-false _
      | else-makes_new-via-else-makes_new w ↦ ap (λ b. b && ltb (slot_or (slots c.args.t.now) c.args.slot) (slots c.args.t.now)) (sym (c.makes_new.ensures q c.in-Ok.ensures) ∙ w.if-makes_new.false)
    ]

-- nor do 16 and 23
no_16_23 : (c : Joined-needs_old) →
    ((needs_old c.args.q.now && not (ltb (slot_or (slots c.args.t.now) c.args.slot) (slots c.args.t.now))) ≡ false)
    × ((needs_old c.args.q.now && is_hard c.args.t.now (slot_or (slots c.args.t.now) c.args.slot)) ≡ false)
no_16_23 c =
    let q = c.args.q.now in
    let n = slots c.args.t.now in
    let i = slot_or n c.args.slot in
    elim c.if-needs_old.branch [
      | then-needs_old+in-Some+else-is_block w ↦ (
        ap (λ b. needs_old q && not b) (sym (found _ _ c.requires.inside) ∙ ap is_some w.in-Some.is) ∙ and-false _,
        ap (λ s. needs_old q && is_hard c.args.t.now (slot_or n s)) w.in-Some.is ∙ ap (λ b. needs_old q && b) (sym w.is_block.ensures ∙ w.if-is_block.false) ∙ and-false _,
      )
      | else-needs_old w ↦
          let f : needs_old q ≡ false = sym (c.needs_old.ensures q c.in-Ok.ensures) ∙ w.if-needs_old.false in
          (ap (λ b. b && not (ltb i n)) f, ap (λ b. b && is_hard c.args.t.now i) f)
    ]

-- the test of w and h
size : (c : Joined-q-eq0) → (eqb (wide c.args.q.now) 0 || eqb (high c.args.q.now) 0) ≡ c.if-q-eq0.value
size c =
    elim c.if-q-eq0.branch [
      | then-q-eq0 w ↦ ap (λ b. b || eqb (high c.args.q.now) 0) (eq-eqb _ 0 w.if-q-eq0.true) ∙ sym (eq-eqb _ 0 w.if-q-eq0.true) ∙ sym w.value-is
      | else-q-eq0 w ↦ ap (λ b. b || eqb (high c.args.q.now) 0) (ne_eqb _ 0 w.if-q-eq0.false) ∙ sym w.value-is
    ]

-- nor does 17
no_17 : (c : Joined-else-has_size) → (has_size c.args.q.now && (eqb (wide c.args.q.now) 0 || eqb (high c.args.q.now) 0)) ≡ false
no_17 c =
    let q = c.args.q.now in
    elim c.else-has_size.branch [
      | else-has_size-via-then-has_size+else-q-eq0-2 w ↦
          ap (λ b. has_size q && b) (elim w.if-q-eq0.branch [
            | then-q-eq0 v ↦ absurd (true≢false (sym (eq-eqb _ 0 v.if-q-eq0.true) ∙ sym v.value-is ∙ w.if-q-eq0-2.false))
            | else-q-eq0 v ↦ ap (λ b. b || eqb (high q) 0) (ne_eqb _ 0 v.if-q-eq0.false) ∙ sym v.value-is ∙ w.if-q-eq0-2.false
          ]) ∙ and-false _
      | else-has_size-via-else-has_size w ↦ ap (λ b. b && (eqb (wide q) 0 || eqb (high q) 0)) (sym (c.has_size.ensures q c.in-Ok.ensures) ∙ w.if-has_size.false)
    ]

pub returns-in_default : goal.returns-in_default
returns-in_default c = none_asked _ c.args.q.now _ (c.in_default.ensures.1 c.args.q.now refl)

pub returns-then-is_some : goal.returns-then-is_some
returns-then-is_some c =
    let q = c.args.q.now in
    let p : (makes_new q && ltb (slot_or (slots c.args.t.now) c.args.slot) (slots c.args.t.now)) ≡ true =
    ap₂ ◌&&◌ (sym (c.makes_new.ensures q c.in-Ok.ensures) ∙ c.if-makes_new.true) (sym (c.is_some.ensures ∙ found _ _ c.requires.inside) ∙ c.if-is_some.true) in
    first_here _ _ _ p

pub returns-in_default-slot : goal.returns-in_default-slot
returns-in_default-slot c =
    let q = c.args.q.now in
    first_past _ _ _ _ (no_15 (goal.at.returns-in_default-slot c).Joined-else-makes_new)
    (first_here _ _ _ (ap₂ (λ a b. a && not b) (sym (c.needs_old.ensures q c.in-Ok.ensures) ∙ c.if-needs_old.true) (sym (found _ _ c.requires.inside) ∙ ap is_some c.in_default-slot.is)))

pub returns-then-is_block : goal.returns-then-is_block
returns-then-is_block c =
    let q = c.args.q.now in
    let t = c.args.t.now in
    first_past _ _ _ _ (no_15 (goal.at.returns-then-is_block c).Joined-else-makes_new)
    (first_past _ _ _ _ (ap (λ b. needs_old q && not b) (sym (found _ _ c.requires.inside) ∙ ap is_some c.in-Some.is) ∙ and-false _)
    (first_here _ _ _ (ap₂ (λ a s. a && is_hard t (slot_or (slots t) s)) (sym (c.needs_old.ensures q c.in-Ok.ensures) ∙ c.if-needs_old.true) c.in-Some.is ∙ sym c.is_block.ensures ∙ c.if-is_block.true)))

pub returns-then-q-eq0-2 : goal.returns-then-q-eq0-2
returns-then-q-eq0-2 c =
    let g = goal.at.returns-then-q-eq0-2 c in
    let k = no_16_23 g.Joined-needs_old in
    first_past _ _ _ _ (no_15 g.Joined-else-makes_new) (first_past _ _ _ _ k.0 (first_past _ _ _ _ k.1 (first_here _ _ _ (ap₂ ◌&&◌ (sym (c.has_size.ensures c.args.q.now c.in-Ok.ensures) ∙ c.if-has_size.true) (size g.Joined-q-eq0 ∙ c.if-q-eq0-2.true)))))

pub returns : goal.returns
returns c =
    let g = goal.at.returns c in
    let k = no_16_23 g.Joined-needs_old in
    first_past _ _ _ _ (no_15 g.Joined-else-makes_new) (first_past _ _ _ _ k.0 (first_past _ _ _ _ k.1 (first_past _ _ _ _ (no_17 g.Joined-else-has_size) first_end)))
