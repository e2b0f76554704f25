-- WHAT A REQUEST COMES TO, case by case: the step that the rules define, from the tests that the code makes. Assumes nothing.
use mathlib.Core.Path.{◌≡◌, refl, sym, ap, ◌∙◌}
use mathlib.Core.Bool.{Bool, true, false, not, cond}
use mathlib.Core.List.{List, [], ◌∷◌}
use Rattle.std.proofs.Math.Option as maybe
use Rattle.std.proofs.Common.{Option, Some, None, Ok, Err, ◌<◌, ltb}
use Rattle.std.specs.Option.{ok_or}
use borrow.Author.Tests.{ltb-true, ltb-false}
use Rattle.table.specs.Slot.{found_below}
use Rattle.choice.specs.Best.{choice_of}
use mathlib.Core.Option.{none-ne-some}
use Prim.Native.Nat.{ℕ, ◌+◌, ◌*◌, ◌≤◌}
use native.Mathlib.Nat.{mul-le-mul_right, mul_comm}
use native.Mathlib.Omega.{arith}
use lib.IntN.{ℤ}
use lib.ListN.{length}
use Rattle.rules.specs.Surface.{Standing, rect_of, occupied}
use Rattle.rules.specs.Empties.{cells_empty}
use Rattle.rules.specs.Judging.{◌when◌, first}
use Rattle.rules.specs.Requests.{operation, rule_of, wide, high, id_asked, slot_of, some_free, lowest_free, position, rule_place, any_cell_taken, or_none, judged_to, step_of}
use Rattle.rules.specs.declared.Rect.{Rect}
use Rattle.rules.specs.Refusals.{Step, Refused, Done}
use Rattle.rules.proofs.Tests.{fails}
use Rattle.meaning.proofs.Choice.{rule_finds}
use Rattle.meaning.specs.Change.{On}
use Rattle.meaning.proofs.Operations.{place_by, exchange_by, by_asks, step_by}
use Rattle.requests.specs.Steps.{rule_step, Passes}

-- ---- remove

pub remove_step : (W H : ℕ) (t q : List ℕ) → Passes t q → operation q ≡ 2 → Done (slot_of t (id_asked q)) (rect_of t (slot_of t (id_asked q))) ≡ step_of W H t q
unfolding first
remove_step W H t q s e = sym (step_by W H t q s 2 e)

-- ---- by rule

-- A MODULE BY RULE COMES TO WHAT THE RULE'S CHOICE COMES TO: 20 and 22 are the choice's
rule_step_lem : (occ : ℕ → ℕ → Bool) (W H rule w h i : ℕ) → 1 ≤ w → 1 ≤ h →
    let o = rule_place occ W H rule w h in
    rule_step occ i o ≡ judged_to (first (20 when not (position occ W H w h) ∷ 22 when any_cell_taken occ o ∷ [])) (Done i (or_none o))
unfolding first rule_step
rule_step_lem occ W H rule w h i a b = go (rule_place occ W H rule w h) refl
  where
    tested : (p : Rect) (b : Bool) → cells_empty occ p ≡ b → position occ W H w h ≡ true → cond (cells_empty occ p) (Done i p) (Refused 22) ≡ judged_to (cond (not (position occ W H w h)) 20 (cond (not (cells_empty occ p)) 22 0)) (Done i p)
    tested p true c f = rw (c, f)
    tested p false c f = rw (c, f)

    go : (o : maybe.Option Rect) → rule_place occ W H rule w h ≡ o → rule_step occ i o ≡ judged_to (cond (not (position occ W H w h)) 20 (cond (any_cell_taken occ o) 22 0)) (Done i (or_none o))
    go maybe.none e = rw (fails (position occ W H w h) (λ p. let r = (rule_finds occ W H rule w h a b).1 p in none-ne-some r.0 (sym e ∙ r.1)))
    go (maybe.some p) e = tested p (cells_empty occ p) refl ((rule_finds occ W H rule w h a b).0 (p, e))

module _ (W H : ℕ) (t q : List ℕ) (s : Passes t q) where
  pub place_full : operation q ≡ 1 → some_free t ≡ false → Refused 19 ≡ step_of W H t q
  unfolding first
  place_full e f = sym (step_by W H t q s 1 e ∙ rw f)

  pub place_rule : operation q ≡ 1 → some_free t ≡ true → (i : ℕ) → i ≡ lowest_free t → (d : Step) →
      d ≡ rule_step (occupied t) i (rule_place (occupied t) W H (rule_of q) (wide q) (high q)) → d ≡ step_of W H t q
  unfolding first
  place_rule e f i j d k =
      let z = by_asks t q s (place_by q e) in
      k ∙ rule_step_lem (occupied t) W H (rule_of q) (wide q) (high q) i z.1 z.2 ∙ sym (step_by W H t q s 1 e ∙ rw (f, sym j))

  pub exchange_rule : operation q ≡ 4 → (i : ℕ) → i ≡ slot_of t (id_asked q) → (d : Step) →
      d ≡ rule_step (occupied t) i (rule_place (occupied t) W H (rule_of q) (wide q) (high q)) → d ≡ step_of W H t q
  unfolding first
  exchange_rule e i j d k =
      let z = by_asks t q s (exchange_by q e) in
      k ∙ rule_step_lem (occupied t) W H (rule_of q) (wide q) (high q) i z.1 z.2 ∙ sym (step_by W H t q s 4 e ∙ rw (sym j))

-- ---- the test of a place

-- a place on the surface has a weight for each cell
pub on_weights : (W H : ℕ) (s : List ℤ) (t : List ℕ) (r : Rect) → Standing W H s t → On W H r → (r.x + r.w ≤ W) × ((r.y + r.h) * W ≤ length s)
on_weights W H s t r d o = let a : (r.y + r.h) * W ≤ H * W = mul-le-mul_right W o.lines in
    (o.columns, omega (arith, d.long, mul_comm W H))

-- ---- an Option, and the Result that `ok_or` makes of it, taken apart

module _ {A E : Type 0} where
  pub ok_or_err : (o : Option A) (e d : E) → ok_or o e ≡ Err d → (o ≡ None) × (d ≡ e)
  ok_or_err None e d p = (refl, grind arith)
  ok_or_err (Some x) e d p = grind arith

  pub ok_or_ok : (o : Option A) (e : E) (x : A) → ok_or o e ≡ Ok x → o ≡ Some x
  ok_or_ok None e x p = grind arith
  ok_or_ok (Some y) e x p = grind arith

-- the place that a rule chose
pub chose_same : (occ : ℕ → ℕ → Bool) (W H a b d a' b' d' : ℕ) → a ≡ a' → b ≡ b' → d ≡ d' → choice_of (rule_place occ W H a b d) ≡ choice_of (rule_place occ W H a' b' d')
chose_same occ W H a b d a' b' d' p q r = rw (p, q, r) refl

pub chose_none : (o : maybe.Option Rect) → choice_of o ≡ None → o ≡ maybe.none
chose_none maybe.none e = refl
chose_none (maybe.some a) e = grind arith

pub chose_some : (o : maybe.Option Rect) (r : Rect) → choice_of o ≡ Some r → o ≡ maybe.some r
chose_some maybe.none r e = grind arith
chose_some (maybe.some a) r e = grind arith

-- a slot that is looked for among n
pub below_none : (n i : ℕ) → found_below n i ≡ None → n ≤ i
below_none n i e = go (ltb i n) refl e
  where
    go : (b : Bool) → ltb i n ≡ b → cond b (Some i) None ≡ None → n ≤ i
    go true f e = grind arith
    go false f e = ltb-false i n f

pub below_some : (n i j : ℕ) → found_below n i ≡ Some j → (j ≡ i) × (i < n)
below_some n i j e = go (ltb i n) refl e
  where
    go : (b : Bool) → ltb i n ≡ b → cond b (Some i) None ≡ Some j → (j ≡ i) × (i < n)
    go true f e = (grind arith, ltb-true i n f)
    go false f e = grind arith

module _ (occ : ℕ → ℕ → Bool) (i : ℕ) (o : maybe.Option Rect) where
  pub rule_none : o ≡ maybe.none → Refused 20 ≡ rule_step occ i o
  unfolding rule_step
  rule_none e = sym (ap (rule_step occ i) e)

  pub rule_some : (r : Rect) (b : Bool) → o ≡ maybe.some r → cells_empty occ r ≡ b → cond b (Done i r) (Refused 22) ≡ rule_step occ i o
  unfolding rule_step
  rule_some r b e c = sym (ap (rule_step occ i) e ∙ ap (λ k. cond k (Done i r) (Refused 22)) c)
