-- WHAT A REQUEST COMES TO on a surface that stands, case by case: refused, placed, removed, put where it says (a pin, a set), exchanged. Assumes nothing.
use mathlib.Core.Path.{◌≡◌, refl, sym, ap, ◌∙◌, subst, subst₂}
use mathlib.Core.Bool.{Bool, true, false, not, cond, ◌&&◌, ◌||◌, false≢true}
use mathlib.Core.List.{List}
use mathlib.Core.Option.{some}
use Prim.Native.Nat.{ℕ, zero, suc, ◌+◌, ◌≤◌}
use native.Mathlib.Omega.{arith}
use borrow.Author.Tests.{leb-true, ltb-true, ltb-false, eqb-true, eqb-false, ne_eqb, not-false}
use lib.Dec.{leb, ltb, eqb}
use lib.IntN.{ℤ}
use lib.ListN.{length}
use Rattle.rules.specs.Surface.{Standing, slots, rect_of, kind_of, is_hard, free_record, with_record, occupied, record_of, fresh}
use Rattle.rules.specs.Empties.{cells_empty, empty, on_surface, Empty}
use Rattle.rules.specs.Judging.{first, NoneApplies}
use Rattle.meaning.specs.Numbers.{above}
use Rattle.rules.specs.Requests.{code_of, is_place, is_remove, is_pin, is_exchange, is_set, operation, rule_of, id_low, id_high, id_asked, wide, high, byte6, byte7, known, by_rule, at_place, makes_new, needs_old, has_size, pinned, kind_asked, id_placed, slot_of, some_free, lowest_free, position, rule_place, sound_lines, place_lines, judging, or_none, accepted_step, step_of, record_after, table_after}
use Rattle.rules.specs.declared.Rect.{Rect}
use Rattle.rules.specs.Refusals.{Step, Refused, Done}
use Rattle.rules.specs.Tests.{between}
use Rattle.rules.proofs.Tests.{and_left, and_right, or_left, or_right, or_neither}
use Rattle.meaning.proofs.Splits.{split, by_same, by_or}
use Rattle.meaning.proofs.Choice.{rule_finds, rule_place_empty}
use Rattle.meaning.proofs.Rectangles.{empty_on, empty_is}
use Rattle.meaning.specs.Change.StepOrRefusal.{same, refusal}
use Rattle.meaning.specs.Change.Change.{puts, takes, swaps}
use Rattle.meaning.specs.Change.{StepOrRefusal, Stricter, Newcomer, OldModule, Change, On, Placing, Taking}
use Rattle.meaning.proofs.First.{none_applies, first_parts, first_above}
use Rattle.meaning.proofs.Tables.{slot_placed, slot_has, lowest_some, lowest_is}
use Rattle.rules.specs.Blocks.{with_step, State, request, after, after_by, next_by}
use Rattle.meaning.proofs.Changes.{put_stands, taken_sound, take_stands, exchange_placing, exchange_table}

-- ---- lines none of which applies

-- none of the conditions of 11 to 17 and 23
pub record Asking (t q : List ℕ) : Type 0 where
  pub op : known q ≡ true
  pub rule : (by_rule q && ltb 2 (rule_of q)) ≡ false
  pub id : 1 ≤ id_asked q
  pub new : (makes_new q && id_placed t (id_asked q)) ≡ false
  pub old : (needs_old q && not (id_placed t (id_asked q))) ≡ false
  pub soft : (needs_old q && is_hard t (slot_of t (id_asked q))) ≡ false
  pub size : (has_size q && (eqb (wide q) 0 || eqb (high q) 0)) ≡ false

pub asking : (t q : List ℕ) → first (sound_lines t q) ≡ 0 → Asking t q
unfolding sound_lines NoneApplies
asking t q e =
    let n = none_applies (sound_lines t q) (unfold sound_lines above in refl) e in
    let i = eqb-false (id_asked q) 0 n.1.1.1.0 in
    record { op = not-false (known q) n.0; rule = n.1.1.0; id = omega arith; new = n.1.1.1.1.0; old = n.1.1.1.1.1.0; soft = n.1.1.1.1.1.1.0; size = n.1.1.1.1.1.1.1.0 }

-- none of the conditions of 18 to 22
pub record Fitting (W H : ℕ) (t q : List ℕ) : Type 0 where
  pub on : (at_place q && (ltb W (byte6 q + wide q) || ltb H (byte7 q + high q))) ≡ false
  pub room : (makes_new q && not (some_free t)) ≡ false
  pub position : (by_rule q && not (position (occupied t) W H (wide q) (high q))) ≡ false
  pub clear : (at_place q && not (cells_empty (occupied t) (pinned q))) ≡ false

pub fitting : (W H : ℕ) (t q : List ℕ) → first (place_lines W H t q) ≡ 0 → Fitting W H t q
unfolding place_lines NoneApplies
fitting W H t q e =
    let n = none_applies (place_lines W H t q) (unfold place_lines above in refl) e in
    record { on = n.0; room = n.1.0; position = n.1.1.0; clear = n.1.1.1.0 }

pub judged : (W H : ℕ) (t q : List ℕ) → first (judging W H t q) ≡ 0 → Asking t q × Fitting W H t q
judged W H t q e =
    let p = first_parts (sound_lines t q) (place_lines W H t q) (unfold sound_lines above in refl) e in
    (asking t q p.0, fitting W H t q p.1)

-- a condition of an operation that it is
pub then_false : (a b : Bool) → a ≡ true → (a && b) ≡ false → b ≡ false
then_false true b p q = q
then_false false b p q = absurd (false≢true p)

-- ---- the operation

-- operations 3 and 6: at the place that they name
pub record AtPlace (q : List ℕ) : Type 0 where
  pub at : at_place q ≡ true
  pub no_place : is_place q ≡ false
  pub no_remove : is_remove q ≡ false
  pub no_exchange : is_exchange q ≡ false

pub at_place_lem : (q : List ℕ) → at_place q ≡ true → AtPlace q
at_place_lem q e = by_or (is_pin q) (is_set q) e (λ p. only 3 (eqb-true (operation q) 3 p) refl refl refl) (λ p. only 6 (eqb-true (operation q) 6 p) refl refl refl)
  where
    only : (n : ℕ) → operation q ≡ n → eqb n 1 ≡ false → eqb n 2 ≡ false → eqb n 4 ≡ false → AtPlace q
    only n o a b c = record { at = e; no_place = ap (λ n. eqb n 1) o ∙ a; no_remove = ap (λ n. eqb n 2) o ∙ b; no_exchange = ap (λ n. eqb n 4) o ∙ c }

pub data Asked (q : List ℕ) : Type 0 where
  place : operation q ≡ 1 → Asked q
  remove : operation q ≡ 2 → Asked q
  there : AtPlace q → Asked q
  exchange : operation q ≡ 4 → Asked q

pub asked : (q : List ℕ) → known q ≡ true → Asked q
asked q e =
    by_or (between 1 4 (operation q)) (is_set q) e
    (λ b. go (operation q) refl (leb-true 1 (operation q) (and_left (leb 1 (operation q)) (leb (operation q) 4) b)) (leb-true (operation q) 4 (and_right (leb 1 (operation q)) (leb (operation q) 4) b)))
    (λ b. there (at_place_lem q (or_right (is_pin q) (is_set q) b)))
  where
    go : (n : ℕ) → operation q ≡ n → 1 ≤ n → n ≤ 4 → Asked q
    go zero e a b = absurd (omega arith)
    go (suc zero) e a b = place e
    go (suc (suc zero)) e a b = remove e
    go (suc (suc (suc zero))) e a b = there (at_place_lem q (or_left (is_pin q) (is_set q) (ap (λ n. eqb n 3) e)))
    go (suc (suc (suc (suc zero)))) e a b = exchange e
    go (suc (suc (suc (suc (suc n))))) e a b = absurd (omega arith)

-- ---- the step

pub step_refused : (W H : ℕ) (t q : List ℕ) → (first (judging W H t q) ≡ 0 → ⊥) → step_of W H t q ≡ Refused (first (judging W H t q))
unfolding step_of
step_refused W H t q ne = let c = first (judging W H t q) in ap (λ b. cond b (accepted_step W H t q) (Refused c)) (ne_eqb c 0 ne)

pub step_accepted : (W H : ℕ) (t q : List ℕ) → first (judging W H t q) ≡ 0 → step_of W H t q ≡ accepted_step W H t q
unfolding step_of
step_accepted W H t q e = ap (λ c. cond (eqb c 0) (accepted_step W H t q) (Refused c)) e

module _ (W H : ℕ) (t q : List ℕ) where
  abbrev pub old : ℕ
  old = slot_of t (id_asked q)

  abbrev pub chosen : Rect
  chosen = or_none (rule_place (occupied t) W H (rule_of q) (wide q) (high q))

  -- what is done by operation n
  abbrev pub done_for : ℕ → Step
  done_for n =
      cond (eqb n 1) (Done (lowest_free t) chosen)
      (cond (eqb n 2) (Done old (rect_of t old))
      (cond (eqb n 3 || eqb n 6) (Done (lowest_free t) (pinned q))
      (cond (eqb n 4) (Done old chosen)
      (Refused 11))))

  pub step_for : (n : ℕ) → operation q ≡ n → accepted_step W H t q ≡ done_for n
  unfolding accepted_step
  step_for n e = ap done_for e

  step_there : AtPlace q → accepted_step W H t q ≡ Done (lowest_free t) (pinned q)
  unfolding accepted_step
  step_there a = rw (a.no_place, a.no_remove, a.at)

-- a step tells its slot and place, or its code
pub done_slot : (i j : ℕ) (r m : Rect) → Done i r ≡ Done j m → j ≡ i
done_slot i j r m e = cc

pub done_rect : (i j : ℕ) (r m : Rect) → Done i r ≡ Done j m → m ≡ r
done_rect i j r m e = cc

pub done_refused : {A : Type 0} (i : ℕ) (r : Rect) (c : ℕ) → Refused c ≡ Done i r → A
done_refused i r c e = absurd (let z : ◌≡◌ {A = ℕ} 0 1 = cc in omega arith)

pub refused_same : (a b : ℕ) → Refused a ≡ Refused b → a ≡ b
refused_same a b e = cc

module _ (W H : ℕ) (t q : List ℕ) where
  -- a request that no line refuses is done
  pub done_is : first (judging W H t q) ≡ 0 → (i : ℕ) × (r : Rect) × (step_of W H t q ≡ Done i r)
  done_is z = elim (asked q (judged W H t q z).0.op) [
    | place o ↦ (_, _, step_accepted W H t q z ∙ step_for W H t q 1 o)
    | remove o ↦ (_, _, step_accepted W H t q z ∙ step_for W H t q 2 o)
    | there a ↦ (_, _, step_accepted W H t q z ∙ step_there W H t q a)
    | exchange o ↦ (_, _, step_accepted W H t q z ∙ step_for W H t q 4 o)
  ]

  -- THE STEP'S CODE IS THAT OF THE FIRST LINE THAT APPLIES
  pub code_is : code_of (step_of W H t q) ≡ first (judging W H t q)
  code_is = by_same (first (judging W H t q)) 0 (λ z. ap code_of (done_is z).2 ∙ sym z) (λ ne. ap code_of (step_refused W H t q ne))

  -- A REFUSAL HAS A CODE OF ITS OWN: a step that is no refusal has code 0, and `Refused 0` is never given
  pub refused_code : (c : ℕ) → step_of W H t q ≡ Refused c → 11 ≤ c
  refused_code c e =
      by_same (first (judging W H t q)) 0
      (λ z. done_refused _ _ c (sym e ∙ (done_is z).2))
      (λ ne. omega (arith, refused_same _ c (sym (step_refused W H t q ne) ∙ e), first_above 10 (judging W H t q) (unfold sound_lines place_lines above in refl) ne))

-- WHAT A REQUEST COMES TO
pub data Came (W H : ℕ) (s : List ℤ) (t q : List ℕ) : Type 0 where
  refused : (first (judging W H t q) ≡ 0 → ⊥) → step_of W H t q ≡ Refused (first (judging W H t q)) → Came W H s t q
  placed : (r : Rect) → operation q ≡ 1 → step_of W H t q ≡ Done (lowest_free t) r → rule_place (occupied t) W H (rule_of q) (wide q) (high q) ≡ some r →
      Placing W H s t (lowest_free t) (id_low q) (id_high q) r (kind_asked q) → Came W H s t q
  removed : operation q ≡ 2 → step_of W H t q ≡ Done (slot_of t (id_asked q)) (rect_of t (slot_of t (id_asked q))) → OldModule W H s t q (slot_of t (id_asked q)) → Came W H s t q
  put : AtPlace q → step_of W H t q ≡ Done (lowest_free t) (pinned q) → Placing W H s t (lowest_free t) (id_low q) (id_high q) (pinned q) (kind_asked q) → Came W H s t q
  exchanged : (r : Rect) → operation q ≡ 4 → step_of W H t q ≡ Done (slot_of t (id_asked q)) r → rule_place (occupied t) W H (rule_of q) (wide q) (high q) ≡ some r →
      OldModule W H s t q (slot_of t (id_asked q)) → On W H r → cells_empty (occupied t) r ≡ true → Came W H s t q

-- the kind of what a request puts in
pub kind_is : (q : List ℕ) (b : Bool) → is_set q ≡ b → kind_asked q ≡ cond b 1 0
kind_is q b e = ap {B = ℕ} (λ b. cond b 1 0) e

-- it is a module or a block
pub kind_known_lem : (q : List ℕ) → kind_asked q ≤ 1
kind_known_lem q = split (λ k. k ≤ 1) (is_set q) (λ e. omega arith) (λ e. omega arith)

-- an empty rectangle, in two parts
pub empty_parts : (occ : ℕ → ℕ → Bool) (W H : ℕ) (r : Rect) → Empty occ W H r → On W H r × (cells_empty occ r ≡ true)
unfolding empty
empty_parts occ W H r e =
    (empty_on occ W H e, and_right (on_surface W H r) (cells_empty occ r) ((empty_is occ W H r).1 e))

-- "x + w > W or y + h > H" is not so: it lies on the surface
pub past_on : (W H : ℕ) (r : Rect) → (ltb W (r.x + r.w) || ltb H (r.y + r.h)) ≡ false → 1 ≤ r.w → 1 ≤ r.h → On W H r
past_on W H r e a b =
    let n = or_neither (ltb W (r.x + r.w)) (ltb H (r.y + r.h)) e in
    record { wide = a; tall = b; columns = ltb-false W (r.x + r.w) n.0; lines = ltb-false H (r.y + r.h) n.1 }

-- what a remove or an exchange takes out is of kind 0
pub module_kind : (W H : ℕ) (s : List ℤ) (t q : List ℕ) (i : ℕ) → OldModule W H s t q i → kind_of t i ≡ 0
module_kind W H s t q i p = omega (arith, leb-true (kind_of t i) 1 (taken_sound W H s t i p.taking).kind, eqb-false (kind_of t i) 1 p.soft)

-- sizes, where the operation has them
pub sizes : (t q : List ℕ) → Asking t q → has_size q ≡ true → (1 ≤ wide q) × (1 ≤ high q)
sizes t q a e =
    let z = or_neither (eqb (wide q) 0) (eqb (high q) 0) (then_false (has_size q) _ e a.size) in
    let w = eqb-false (wide q) 0 z.0 in
    let h = eqb-false (high q) 0 z.1 in
    (omega arith, omega arith)

module _ (W H : ℕ) (s : List ℤ) (t q : List ℕ) (d : Standing W H s t) (a : Asking t q) where
  -- the slot of an id that is placed, and is no block's
  pub old_there : needs_old q ≡ true → OldModule W H s t q (slot_of t (id_asked q))
  old_there e =
      let p : id_placed t (id_asked q) ≡ true = not-false _ (then_false (needs_old q) _ e a.old) in
      let l = ltb-true (slot_of t (id_asked q)) (slots t) (slot_placed t (id_asked q) ∙ p) in
      let h = slot_has t (id_asked q) l in
      record { at = refl; named = h.1; soft = then_false (needs_old q) _ e a.soft; taking = record { standing = d; slot = l; used = h.0 } }

  module _ (f : Fitting W H t q) where
    -- a place by rule
    chosen_place : by_rule q ≡ true → (r : Rect) × (rule_place (occupied t) W H (rule_of q) (wide q) (high q) ≡ some r) × On W H r × (cells_empty (occupied t) r ≡ true)
    chosen_place e =
        let z = sizes t q a (or_left (by_rule q) (at_place q) e) in
        let p : position (occupied t) W H (wide q) (high q) ≡ true = not-false _ (then_false (by_rule q) _ e f.position) in
        let r = (rule_finds (occupied t) W H (rule_of q) (wide q) (high q) z.0 z.1).1 p in
        let c = empty_parts (occupied t) W H r.0 (rule_place_empty (occupied t) W H (rule_of q) (wide q) (high q) z.0 z.1 r.0 r.1) in
        (r.0, r.1, c.0, c.1)

    -- a new module may be put into the lowest free slot
    placing : makes_new q ≡ true → (r : Rect) → On W H r → cells_empty (occupied t) r ≡ true → Placing W H s t (lowest_free t) (id_low q) (id_high q) r (kind_asked q)
    placing e r o c =
        let p : some_free t ≡ true = not-false _ (then_false (makes_new q) _ e f.room) in
        let l = ltb-true (lowest_free t) (slots t) (lowest_some t ∙ p) in
        record {
          standing = d;
          slot = l;
          unused = lowest_is t l;
          place = o;
          empty = c;
          some = a.id;
          new = then_false (makes_new q) _ e a.new;
          known = kind_known_lem q;
        }

    came_for : first (judging W H t q) ≡ 0 → Asked q → Came W H s t q
    came_for z (place e) =
        let c = chosen_place (ap (λ n. eqb n 1 || eqb n 4) e) in
        placed c.0 e (step_accepted W H t q z ∙ step_for W H t q 1 e ∙ ap (λ o. Done (lowest_free t) (or_none o)) c.1) c.1
        (placing (ap (λ n. eqb n 1 || (eqb n 3 || eqb n 6)) e) c.0 c.2 c.3)
    came_for z (remove e) = removed e (step_accepted W H t q z ∙ step_for W H t q 2 e) (old_there (ap (λ n. eqb n 2 || eqb n 4) e))
    came_for z (there e) =
        let n = sizes t q a (or_right (by_rule q) (at_place q) e.at) in
        let c : cells_empty (occupied t) (pinned q) ≡ true = not-false _ (then_false (at_place q) _ e.at f.clear) in
        put e (step_accepted W H t q z ∙ step_there W H t q e)
        (placing (or_right (is_place q) (at_place q) e.at) (pinned q) (past_on W H (pinned q) (then_false (at_place q) _ e.at f.on) n.0 n.1) c)
    came_for z (exchange e) =
        let c = chosen_place (ap (λ n. eqb n 1 || eqb n 4) e) in
        exchanged c.0 e (step_accepted W H t q z ∙ step_for W H t q 4 e ∙ ap (λ o. Done (slot_of t (id_asked q)) (or_none o)) c.1) c.1
        (old_there (ap (λ n. eqb n 2 || eqb n 4) e)) c.2 c.3

pub came : (W H : ℕ) (s : List ℤ) (t q : List ℕ) → Standing W H s t → Came W H s t q
came W H s t q d =
    by_same (first (judging W H t q)) 0
    (λ e. let j = judged W H t q e in came_for W H s t q d j.0 j.1 e (asked q j.0.op))
    (λ ne. refused ne (step_refused W H t q ne))

-- ==== WHAT AN ACCEPTED REQUEST DOES TO THE TABLE

-- an operation that makes a module or a block
newcomer_place : (q : List ℕ) → operation q ≡ 1 → Newcomer q
newcomer_place q e = record { makes = ap (λ n. eqb n 1 || (eqb n 3 || eqb n 6)) e; no_remove = ap (λ n. eqb n 2) e; no_exchange = ap (λ n. eqb n 4) e }

newcomer_there : (q : List ℕ) → AtPlace q → Newcomer q
newcomer_there q a = record { makes = or_right (is_place q) (at_place q) a.at; no_remove = a.no_remove; no_exchange = a.no_exchange }

module _ (W H : ℕ) (s : List ℤ) (t q : List ℕ) (d : Standing W H s t) (i : ℕ) (r : Rect) (e : step_of W H t q ≡ Done i r) where
  -- in the words of a case
  told : (j : ℕ) (m : Rect) → step_of W H t q ≡ Done j m → Change W H s t q j m → Change W H s t q i r
  told j m z = subst₂ (λ i r. Change W H s t q i r) (done_slot i j r m (sym e ∙ z)) (done_rect i j r m (sym e ∙ z))

  pub change : Change W H s t q i r
  change = elim (came W H s t q d) [
    | refused ne z ↦ done_refused i r _ (sym z ∙ e)
    | placed m o z c p ↦ told (lowest_free t) m z (puts (newcomer_place q o) refl p)
    | put o z p ↦ told (lowest_free t) (pinned q) z (puts (newcomer_there q o) refl p)
    | removed o z p ↦ told (slot_of t (id_asked q)) (rect_of t (slot_of t (id_asked q))) z (takes (ap (λ n. eqb n 2) o) (ap (λ n. eqb n 4) o) p refl)
    | exchanged m o z c p on free ↦ told (slot_of t (id_asked q)) m z (swaps (ap (λ n. eqb n 2) o) (ap (λ n. eqb n 4) o) p free
        (exchange_placing W H s t (slot_of t (id_asked q)) p.taking (id_low q) (id_high q) m (kind_asked q) (kind_known_lem q) (sym p.named) on free))
  ]

pub record_eight : (q : List ℕ) (r : Rect) → length (record_after q r) ≡ 8
record_eight q r = split (λ l. length l ≡ 8) (is_remove q) (λ e. refl) (λ e. refl)

-- the table that is left, in the words of the change
module _ (W H : ℕ) (s : List ℤ) (t q : List ℕ) (i : ℕ) (r : Rect) where
  pub put_leaves : is_remove q ≡ false → table_after q (Done i r) t ≡ with_record t i (record_of (id_low q) (id_high q) r (kind_asked q))
  put_leaves e = ap (λ b. with_record t i (cond b free_record (record_of (id_low q) (id_high q) r (kind_asked q)))) e

  pub take_leaves : is_remove q ≡ true → table_after q (Done i r) t ≡ with_record t i free_record
  take_leaves e = ap (λ b. with_record t i (cond b free_record (record_of (id_low q) (id_high q) r (kind_asked q)))) e

  pub swap_leaves : is_remove q ≡ false → Taking W H s t i → table_after q (Done i r) t ≡ with_record (with_record t i free_record) i (record_of (id_low q) (id_high q) r (kind_asked q))
  swap_leaves e p = put_leaves e ∙ sym (exchange_table W H s t i p (id_low q) (id_high q) r (kind_asked q))

-- ---- a step that the rules give, or a refusal

pub rules_step : (W H : ℕ) → Stricter W H (step_of W H)
rules_step W H t q = same refl

-- what is accepted, the rules accept
pub accepted_as : (i : ℕ) (r : Rect) (e : Step) → StepOrRefusal (Done i r) e → e ≡ Done i r
accepted_as i r e (same z) = sym z
accepted_as i r e (refusal c ne z) = done_refused i r c (sym z)

-- and a refusal has a code
pub refusal_code : (W H : ℕ) (t q : List ℕ) (c : ℕ) → StepOrRefusal (Refused c) (step_of W H t q) → c ≡ 0 → ⊥
refusal_code W H t q c (same z) e = omega (arith, refused_code W H t q c (sym z))
refusal_code W H t q c (refusal d ne z) e = ne (let k : d ≡ c = cc in k ∙ e)

-- ==== A SURFACE THAT STOOD BEFORE A REQUEST STANDS AFTER IT; so after every request of a block

-- a state whose surface stands
abbrev pub StateStands : ℕ → ℕ → State → Type 0
StateStands W H a = Standing W H a.weights a.table

pub step_stands : (W H : ℕ) (q : List ℕ) (a : State) (d : Step) → StepOrRefusal d (step_of W H a.table q) → StateStands W H a → StateStands W H (with_step W H q d a)
step_stands W H q a (Refused c) k z = z
step_stands W H q a (Done i r) k z =
    let s = a.weights in
    let t = a.table in
    let by : (u : List ℕ) → table_after q (Done i r) t ≡ u → Standing W H (fresh W H u) u → StateStands W H (with_step W H q (Done i r) a) =
    λ u e. subst (λ v. Standing W H (fresh W H v) v) (sym e) in
    elim (change W H s t q z i r (accepted_as i r _ k)) [
      | puts n l p ↦ by _ (put_leaves W H s t q i r n.no_remove) (put_stands W H s t i (id_low q) (id_high q) r (kind_asked q) p)
      | takes o x p m ↦ by _ (take_leaves W H s t q i r o) (take_stands W H s t i p.taking)
      | swaps o x p v n ↦ by _ (swap_leaves W H s t q i r o p.taking) (put_stands W H _ _ i (id_low q) (id_high q) r (kind_asked q) n)
    ]

-- ---- a block, by any stricter step function

module _ (f : List ℕ → List ℕ → Step) (W H : ℕ) (ok : Stricter W H f) where
  pub after_by_stands : (b : List ℕ) (a : State) → StateStands W H a → (k : ℕ) → StateStands W H (after_by f W H b a k)
  unfolding after_by next_by
  after_by_stands b a d zero = d
  after_by_stands b a d (suc k) =
      let z = after_by f W H b a k in
      step_stands W H (request b k) z (f z.table (request b k)) (ok z.table (request b k)) (after_by_stands b a d k)

pub after_stands : (W H : ℕ) (b : List ℕ) (a : State) → StateStands W H a → (k : ℕ) → StateStands W H (after W H b a k)
after_stands W H = after_by_stands (step_of W H) W H (rules_step W H)
