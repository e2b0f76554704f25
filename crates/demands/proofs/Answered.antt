-- THE REQUESTS OF A CALL THAT WAS NOT REFUSED, each with its answer in the host's bytes. Assumes nothing.
use mathlib.Core.Path.{◌≡◌, refl, sym, ap, ap₂, ◌∙◌, subst}
use mathlib.Core.Bool.{Bool, true, false, cond, ◌||◌}
use mathlib.Core.Logic.{◌↔◌}
use mathlib.Core.List.{List}
use Prim.Native.Nat.{ℕ, suc, ◌+◌, ◌*◌, ◌≤◌, ◌<◌}
use native.Mathlib.Omega.{arith}
use borrow.Author.Tests.{eqb-true, eq-eqb, ne_eqb}
use lib.Dec.{eqb}
use lib.IntN.{ℤ}
use lib.ListN.{get_or, drop}
use lib.Seq.{get_or-take, get_or-drop}
use Rattle.rules.specs.Judging.{first, FirstThat}
use Rattle.rules.specs.Surface.{rect, slots, covers, rect_of, kind_of, is_hard, record_of, free_record, free_slot, with_record, occupied}
use Rattle.rules.specs.Empties.{on_surface, Empty, bottom_reaches}
use Rattle.rules.specs.Requests.{operation, kind_asked, id_low, id_high, id_asked, wide, high, by_rule, is_place, is_remove, is_pin, is_exchange, is_set, at_place, makes_new, needs_old, pinned, judged_to, id_placed, slot_of, some_free, lowest_free, judging, step_of, code_of, values_of, answer_of, table_after, accepted_one}
use Rattle.rules.specs.Place.{pin_lines, pin_step}
use Rattle.rules.specs.Blocks.{requests, request, next_by, after_by}
use Rattle.rules.specs.Host.{weights_in}
use Rattle.rules.specs.declared.Rect.{Rect}
use Rattle.rules.specs.Refusals.{Step, Refused, Done}
use Rattle.rules.proofs.Tests.{or_right, not_both, least_is}
use Rattle.meaning.specs.Change.{Change, OldModule}
use Rattle.meaning.specs.Change.Change.{puts, takes, swaps}
use Rattle.meaning.proofs.Splits.{by_same}
use Rattle.meaning.proofs.First.{first_is}
use Rattle.meaning.proofs.Changes.{id_gone, put_occupied, taken_less}
use Rattle.meaning.proofs.Theorems.{pin_step_lem, set_step}
use Rattle.meaning.proofs.Operations.{old_in}
use Rattle.meaning.proofs.Steps.{refused_code, rules_step, kind_is, module_kind, change, put_leaves, take_leaves, swap_leaves}
use Rattle.demands.specs.Sound.{Sound, SlotForIt, SoundTo16, as_pin}
use Rattle.demands.specs.History.{module_at, code_in, place_in}
use Rattle.demands.specs.Told.{HasModule, Placed, LowestFree, SlotOfId, HardId, HardStays}
use Rattle.demands.specs.Frame.{OneFramed}
use Rattle.demands.specs.Chain.{RunCall, NotRefused, asked, answered, up_to}
use Rattle.demands.proofs.Refusals as R
use Rattle.demands.proofs.Refusals.{StandsAs, stands_as}
use Rattle.demands.proofs.Told.{put_has}
use Rattle.demands.proofs.Hard.{hard_used, used_occupied, written_soft, hard_step, change_clear}
use Rattle.demands.proofs.Blocks.{answers_at, framed_after}
use Rattle.demands.proofs.Chains.{call_stands, call_answers, each_stands}

-- the code in answer k is byte 8·k of the answers
pub code_byte : (a : List ℕ) (k : ℕ) → code_in (request a k) ≡ get_or a (8 * k) 0
code_byte a k = let e : 8 * k + 0 ≡ 8 * k = omega arith in get_or-take 8 (drop (8 * k) a) 0 0 (omega arith) ∙ get_or-drop (8 * k) a 0 0 ∙ ap (λ n. get_or a n 0) e

-- an accepted step's slot, and that it is done there
accepted : (d : Step) → ((c : ℕ) → d ≡ Refused c → 11 ≤ c) → code_of d ≡ 0 → (i : ℕ) × (d ≡ Done i (values_of d))
accepted (Refused c) h e = absurd (omega (arith, h c refl, e))
accepted (Done i r) h e = (i, refl)

-- the code of what is judged
judged_code : (c i : ℕ) (r : Rect) → code_of (judged_to c (Done i r)) ≡ c
judged_code c i r = by_same c 0 (λ e. rw e) (λ ne. rw (ne_eqb c 0 ne))

-- what is counted of a step is 1 where its code is 0
counted : (d : Step) → ((c : ℕ) → d ≡ Refused c → 11 ≤ c) → accepted_one d ≡ cond (eqb (code_of d) 0) 1 0
counted (Refused c) h = ap {B = ℕ} (λ b. cond b 1 0) (sym (ne_eqb c 0 (λ z. omega (arith, h c refl, z))))
counted (Done i r) h = refl

module _ {W H : ℕ} (c : RunCall W H) (e : NotRefused c) (k : ℕ) (l : k < requests c.block) where
  abbrev t : List ℕ
  t = (up_to c k).table

  abbrev s : List ℤ
  s = (up_to c k).weights

  abbrev q : List ℕ
  q = asked c k

  abbrev then : List ℕ
  then = (up_to c (suc k)).table

  -- EACH REQUEST'S ANSWER
  pub answer_is : answered c k ≡ answer_of q (step_of W H t q)
  answer_is = ap (λ u. request u k) (call_answers c e) ∙ answers_at (step_of W H) W H c.block (weights_in c.lent) c.lent.table (requests c.block) k l

  code_is : code_in (answered c k) ≡ code_of (step_of W H t q)
  code_is = ap code_in answer_is

  pub answer_counted : (up_to c (suc k)).accepted ≡ (up_to c k).accepted + cond (eqb (code_in (answered c k)) 0) 1 0
  unfolding after_by next_by
  answer_counted = ap (λ n. (up_to c k).accepted + n) (counted (step_of W H t q) (refused_code W H t q) ∙ ap {B = ℕ} (λ n. cond (eqb n 0) 1 0) (sym code_is))

  pub answer_first : FirstThat (judging W H t q) (code_in (answered c k))
  answer_first = rw code_is (R.code_first W H t q)

  pub answer_never_22 : get_or c.answers (8 * k) 0 ≡ 22 → ⊥
  answer_never_22 z = R.never_22 W H t q (sym code_is ∙ code_byte c.answers k ∙ z)

  -- a refused one
  pub answer_refused : (code_in (answered c k) ≡ 0 → ⊥) → ((up_to c (suc k)).weights ≡ (up_to c k).weights) × (then ≡ t)
  unfolding after_by next_by
  answer_refused ne = R.refused_keeps W H q (up_to c k) (step_of W H t q) (λ z. ne (code_is ∙ z))

  -- refused exactly when
  pub answer_refused_exactly : Sound t q → by_rule q ≡ true → SlotForIt t q →
      (code_in (answered c k) ≡ 0 → ⊥) ↔ ((x y : ℕ) → Empty (occupied t) W H (rect x y (wide q) (high q)) → ⊥)
  answer_refused_exactly so by sl =
      let a = R.refused_exactly W H t q so by sl in
      let b = R.no_position (occupied t) W H (wide q) (high q) in
      (λ ne. b.0 (a.0 (λ z. ne (code_is ∙ z))), λ f z. a.1 (b.1 f) (sym code_is ∙ z))

  -- an exchange needs no slot
  pub answer_exchange_exactly : Sound t q → is_exchange q ≡ true →
      ((code_in (answered c k) ≡ 0 → ⊥) ↔ ((x y : ℕ) → Empty (occupied t) W H (rect x y (wide q) (high q)) → ⊥)) × ((code_in (answered c k) ≡ 0 → ⊥) → code_in (answered c k) ≡ 20)
  answer_exchange_exactly so f =
      let by = or_right (is_place q) (is_exchange q) f in
      let none : SlotForIt t q = λ p. not_both (is_place q) p (ap (λ n. eqb n 1) (eqb-true (operation q) 4 f)) in
      (answer_refused_exactly so by none, λ ne. code_is ∙ R.refused_as_20 W H t q so by none (λ z. ne (code_is ∙ z)))

  -- the old module of a remove or an exchange is counted
  pub answer_old_counted : Sound t q → needs_old q ≡ true → (x y : ℕ) → covers (rect_of t (slot_of t (id_asked q))) x y ≡ true → occupied t x y ≡ true
  answer_old_counted so f =
      let d = each_stands c e k in
      used_occupied d (slot_of t (id_asked q)) (old_in t q (R.sound_first t q so) W H s d f (slot_of t (id_asked q)) refl).taking.used

  -- ---- blocks of the fabric

  pub answer_hard_stays : HardStays t then
  unfolding after_by next_by
  answer_hard_stays = hard_step W H q (up_to c k) (step_of W H t q) (rules_step W H t q) (each_stands c e k)

  pub answer_hard_code : (code_in (answered c k) ≡ 23) ↔ ((needs_old q ≡ true) × SoundTo16 t q × HardId t (id_asked q))
  answer_hard_code = let x = R.hard_exactly W H s t q (each_stands c e k) in (λ z. x.0 (sym code_is ∙ z), λ h. code_is ∙ x.1 h)

  -- a pin and a set
  pub answer_at_place_first : at_place q ≡ true → FirstThat (pin_lines W H t q) (code_in (answered c k))
  unfolding pin_step
  answer_at_place_first a =
      rw (code_is ∙ ap code_of (pin_step_lem W H t q a) ∙ judged_code (first (pin_lines W H t q)) (lowest_free t) (pinned q)) (first_is (pin_lines W H t q))

  pub answer_pin_exactly : at_place q ≡ true → (b : Bool) →
      (code_in (answered c k) ≡ cond b 0 21) ↔ (Sound t q × (on_surface W H (pinned q) ≡ true) × (some_free t ≡ true) × (bottom_reaches W s (pinned q) ≡ b))
  answer_pin_exactly a b = let x = R.pin_exactly W H s t q (each_stands c e k) a b in (λ z. x.0 (sym code_is ∙ z), λ h. code_is ∙ x.1 h)

  -- ---- an accepted one has a slot, and the rectangle that its answer names

  module _ (ok : code_in (answered c k) ≡ 0) where
    abbrev r : Rect
    r = place_in (answered c k)

    accepted_at : (i : ℕ) × (step_of W H t q ≡ Done i r)
    accepted_at = let d = accepted (step_of W H t q) (refused_code W H t q) (sym code_is ∙ ok) in (d.0, d.1 ∙ ap (Done d.0) (sym (ap place_in answer_is)))

    abbrev i : ℕ
    i = accepted_at.0

    did : Change W H s t q i r
    did = change W H s t q (each_stands c e k) i r accepted_at.1

    -- the table that it leaves
    leaves : then ≡ table_after q (Done i r) t
    unfolding after_by next_by
    leaves = ap (λ d. table_after q d t) accepted_at.1

    pub answer_stands_as : StandsAs W H t q r
    answer_stands_as = stands_as W H s t q (each_stands c e k) i r accepted_at.1

    pub answer_there : is_remove q ≡ false → Placed then (id_asked q) r (kind_asked q)
    answer_there f =
        let m = module_at i (id_asked q) r (kind_asked q) in
        let at : (u : List ℕ) → table_after q (Done i r) t ≡ u → HasModule u m → Placed then (id_asked q) r (kind_asked q) =
        λ u e h. record { slot = i; has = subst (λ u. HasModule u m) (sym (leaves ∙ e)) h } in
        elim did [
          | puts n l p ↦ at _ (put_leaves W H s t q i r n.no_remove) (put_has W H s t i (id_low q) (id_high q) r (kind_asked q) p)
          | takes o x p z ↦ not_both (is_remove q) o f
          | swaps o x p v n ↦ at _ (swap_leaves W H s t q i r o p.taking) (put_has W H _ _ i (id_low q) (id_high q) r (kind_asked q) n)
        ]

    pub answer_gone : is_remove q ≡ true → Placed t (id_asked q) r 0 × (id_placed then (id_asked q) ≡ false)
    answer_gone f = elim did [
      | puts n m p ↦ not_both (is_remove q) f n.no_remove
      | takes o x p z ↦ (
        record { slot = i; has = record { low = p.taking.slot; used = p.taking.used; id = p.named; place = sym z; kind = module_kind W H s t q i p } },
        ap₂ id_placed (leaves ∙ take_leaves W H s t q i r o) (sym p.named) ∙ id_gone W H s t i p.taking,
      )
      | swaps o x p v n ↦ not_both (is_remove q) f o
    ]

    -- ---- its record stands in the lowest free slot, or in its own

    its : OldModule W H s t q i → SlotOfId t (slot_of t (id_asked q)) (id_asked q)
    its p = subst (λ j. SlotOfId t j (id_asked q)) p.at (record { slot = p.taking.slot; used = p.taking.used; named = p.named })

    pub answer_new_slot : makes_new q ≡ true → LowestFree t (lowest_free t) × (then ≡ with_record t (lowest_free t) (record_of (id_low q) (id_high q) r (kind_asked q)))
    unfolding lowest_free
    answer_new_slot f = elim did [
      | puts n m p ↦ (
        subst (LowestFree t) m (record { slot = p.slot; free = p.unused; before = λ j h. (least_is (slots t) (free_slot t)).before j (omega arith) (subst (λ a. j < a) m h) }),
        leaves ∙ put_leaves W H s t q i r n.no_remove ∙ ap (λ j. with_record t j (record_of (id_low q) (id_high q) r (kind_asked q))) m,
      )
      | takes o x p z ↦ not_both (makes_new q) f (R.old_not_new q (ap₂ ◌||◌ o x))
      | swaps o x p v n ↦ not_both (makes_new q) f (R.old_not_new q (ap₂ ◌||◌ o x))
    ]

    pub answer_exchange_slot : is_exchange q ≡ true → SlotOfId t (slot_of t (id_asked q)) (id_asked q) × (then ≡ with_record t (slot_of t (id_asked q)) (record_of (id_low q) (id_high q) r 0))
    answer_exchange_slot f = elim did [
      | puts n m p ↦ not_both (is_exchange q) f n.no_exchange
      | takes o x p z ↦ not_both (is_exchange q) f x
      | swaps o x p v n ↦ (its p, leaves ∙ put_leaves W H s t q i r o ∙ ap₂ (λ j k. with_record t j (record_of (id_low q) (id_high q) r k)) p.at (kind_is q false (ap (λ n. eqb n 6) (eqb-true (operation q) 4 x))))
    ]

    pub answer_freed_slot : is_remove q ≡ true → SlotOfId t (slot_of t (id_asked q)) (id_asked q) × (then ≡ with_record t (slot_of t (id_asked q)) free_record)
    answer_freed_slot f = elim did [
      | puts n m p ↦ not_both (is_remove q) f n.no_remove
      | takes o x p z ↦ (its p, leaves ∙ take_leaves W H s t q i r o ∙ ap (λ j. with_record t j free_record) p.at)
      | swaps o x p v n ↦ not_both (is_remove q) f o
    ]

    -- ---- it stands clear of what was there, and the old module of an exchange goes

    pub answer_clear : is_remove q ≡ false → (j : ℕ) → free_slot t j ≡ false → (x y : ℕ) → covers (rect_of t j) x y ≡ true → covers r x y ≡ false
    answer_clear f j u = change_clear W H s t q i r (each_stands c e k) did j u (λ o z. not_both (is_remove q) o f)

    pub answer_clear_of_old : is_exchange q ≡ true → (x y : ℕ) → covers (rect_of t (slot_of t (id_asked q))) x y ≡ true → covers r x y ≡ false
    answer_clear_of_old f = answer_clear (ap (λ n. eqb n 2) (eqb-true (operation q) 4 f)) (slot_of t (id_asked q)) (answer_exchange_slot f).0.used

    pub answer_old_goes : is_exchange q ≡ true → ((j : ℕ) → SlotOfId then j (id_asked q) → j ≡ slot_of t (id_asked q)) × ((x y : ℕ) → covers (rect_of t (slot_of t (id_asked q))) x y ≡ true → occupied then x y ≡ false)
    answer_old_goes f = elim did [
      | puts n m p ↦ not_both (is_exchange q) f n.no_exchange
      | takes o x p z ↦ not_both (is_exchange q) f x
      | swaps o x p v n ↦
          let u = leaves ∙ swap_leaves W H s t q i r o p.taking in
          let h = subst (λ t. HasModule t (module_at i (id_asked q) r (kind_asked q))) (sym u) (put_has W H _ _ i (id_low q) (id_high q) r (kind_asked q) n) in
          let one = R.slot_one W H _ then (each_stands c e (suc k)) in (
            (λ j w. sym (one j (id_asked q) w.slot w.used w.named) ∙ one i (id_asked q) h.low h.used h.id ∙ p.at),
            (λ x y w. ap (λ t. occupied t x y) u ∙ put_occupied W H _ _ i (id_low q) (id_high q) r (kind_asked q) n x y
                ∙ ap₂ ◌||◌ ((taken_less W H s t i p.taking).alone x y (ap (λ j. covers (rect_of t j) x y) p.at ∙ w)) (answer_clear_of_old f x y w)),
          )
    ]

    -- ---- blocks of the fabric

    pub answer_hard_clear : (j : ℕ) → kind_of t j ≡ 1 → (x y : ℕ) → covers (rect_of t j) x y ≡ true → covers r x y ≡ false
    answer_hard_clear j h =
        change_clear W H s t q i r (each_stands c e k) did j (hard_used t j h) (λ o z. not_both (is_hard t i) (eq-eqb (kind_of t i) 1 (ap (kind_of t) (sym z) ∙ h)) (written_soft W H s t q i r did).1)

    pub answer_set_stands : is_set q ≡ true → (r ≡ pinned q) × LowestFree t (lowest_free t) × (then ≡ with_record t (lowest_free t) (record_of (id_low q) (id_high q) (pinned q) 1))
    answer_set_stands f =
        let a : at_place q ≡ true = or_right (is_pin q) (is_set q) f in
        let p = answer_stands_as.there a in
        let w = answer_new_slot (or_right (is_place q) (at_place q) a) in
        (p, w.0, w.1 ∙ ap₂ (λ r k. with_record t (lowest_free t) (record_of (id_low q) (id_high q) r k)) p (kind_is q true f))

    pub answer_others_stand : is_remove q ≡ false → is_set q ≡ false → Placed then (id_asked q) r 0
    answer_others_stand f g = subst (Placed then (id_asked q) r) (kind_is q false g) (answer_there f)

    pub answer_frame : OneFramed W H q r (up_to c k) (up_to c (suc k))
    answer_frame =
        record { slot = i; framed = framed_after (step_of W H) W H c.block (weights_in c.lent) c.lent.table (rules_step W H) (call_stands c e) k i r accepted_at.1 }

-- A SET IS ANSWERED AS THE PIN WITH THE SAME FIELDS, on the same table
pub answer_set_as_pin : {W H : ℕ} (c c' : RunCall W H) (e : NotRefused c) (e' : NotRefused c') (k k' : ℕ) → k < requests c.block → k' < requests c'.block →
    (up_to c' k').table ≡ (up_to c k).table → is_set (asked c k) ≡ true → asked c' k' ≡ as_pin (asked c k) →
    (code_in (answered c k) ≡ code_in (answered c' k')) × (place_in (answered c k) ≡ place_in (answered c' k'))
answer_set_as_pin {W} {H} c c' e e' k k' l l' t f g =
    let d : step_of W H (up_to c k).table (asked c k) ≡ step_of W H (up_to c' k').table (asked c' k') =
    set_step W H (up_to c k).table (asked c k) f ∙ sym (ap₂ (λ t q. step_of W H t q) t g) in
    (ap code_in (answer_is c e k l) ∙ ap code_of d ∙ sym (ap code_in (answer_is c' e' k' l')), ap place_in (answer_is c e k l) ∙ ap values_of d ∙ sym (ap place_in (answer_is c' e' k' l')))
