-- WHAT A REQUEST OF EACH OPERATION COMES TO: which of 11 to 23 can apply to operation n is computed from n. Assumes nothing.
use mathlib.Core.Path.{◌≡◌, refl, sym, ap, ◌∙◌, subst}
use mathlib.Core.Bool.{Bool, true, false, not, cond, ◌&&◌, ◌||◌, false≢true}
use mathlib.Core.List.{List, [], ◌∷◌, ◌++◌}
use Prim.Native.Nat.{ℕ, ◌+◌, ◌*◌, ◌≤◌, ◌<◌}
use native.Mathlib.Omega.{arith}
use borrow.Author.Tests.{ltb-false, lt-ltb, le-ltb, eqb-true, ne_eqb}
use lib.Dec.{ltb, eqb}
use lib.ListN.{drop}
use lib.IntN.{ℤ}
use Rattle.rules.specs.Tests.{between, all}
use Rattle.rules.specs.Surface.{Standing, slots, is_hard, occupied}
use Rattle.rules.specs.Empties.{cells_empty}
use Rattle.rules.specs.Judging.{Line, ◌when◌, first}
use Rattle.meaning.specs.Numbers.{above}
use Rattle.rules.specs.Requests.{operation, rule_of, id_asked, wide, high, byte6, byte7, is_place, is_remove, is_pin, is_exchange, is_set, by_rule, at_place, needs_old, has_size, zeros, pinned, id_placed, slot_of, some_free, lowest_free, position, rule_place, any_cell_taken, sound_lines, place_lines, judging, accepted_step, judged_to, step_of}
use Rattle.rules.specs.Place.{place_step, pin_step}
use Rattle.rules.specs.Refusals.{Step, Refused, Done}
use Rattle.rules.proofs.Tests.{or_left, or_right}
use Rattle.meaning.proofs.First.{first_stop, first_over}
use Rattle.meaning.specs.Change.{OldModule}
use Rattle.meaning.proofs.Splits.{by_or, by_same}
use Rattle.meaning.proofs.Tables.{lowest_some}
use Rattle.meaning.proofs.Steps.{asking, then_false, sizes, AtPlace, at_place_lem, Asked, asked, old_there, done_for, step_refused}
use Rattle.meaning.proofs.Steps.Asked.{place, remove, there, exchange}

-- ---- which operation is which

module _ (q : List ℕ) where
  -- a byte is one number
  pub is : (k : ℕ) → operation q ≡ k → (j : ℕ) → eqb (operation q) j ≡ eqb k j
  is k e j = ap (λ n. eqb n j) e

  pub place_by : operation q ≡ 1 → by_rule q ≡ true
  place_by e = or_left (is_place q) (is_exchange q) (is 1 e 1)

  pub exchange_by : operation q ≡ 4 → by_rule q ≡ true
  exchange_by e = or_right (is_place q) (is_exchange q) (is 4 e 4)

  pub remove_old : operation q ≡ 2 → needs_old q ≡ true
  remove_old e = or_left (is_remove q) (is_exchange q) (is 2 e 2)

-- ---- what the lines of 11 to 17 and 23 tell where none of them applies

module _ (t q : List ℕ) (e : first (sound_lines t q) ≡ 0) where
  pub size_some : has_size q ≡ true → (1 ≤ wide q) × (1 ≤ high q)
  size_some = sizes t q (asking t q e)

  -- what the choice of a place by rule asks
  pub by_asks : by_rule q ≡ true → (rule_of q ≤ 2) × (1 ≤ wide q) × (1 ≤ high q)
  by_asks p = let z = size_some (or_left (by_rule q) (at_place q) p) in (ltb-false 2 (rule_of q) (then_false (by_rule q) _ p (asking t q e).rule), z.0, z.1)

  -- what is none of 1, 2 and 4 is 3 or 6
  pub last_op : (operation q ≡ 1 → ⊥) → (operation q ≡ 2 → ⊥) → (operation q ≡ 4 → ⊥) → AtPlace q
  last_op a b c = go (asked q (asking t q e).op)
    where
      go : Asked q → AtPlace q
      go (place p) = absurd (a p)
      go (remove p) = absurd (b p)
      go (there p) = p
      go (exchange p) = absurd (c p)

  -- the slot of the old module has it
  pub old_in : (W H : ℕ) (s : List ℤ) → Standing W H s t → needs_old q ≡ true → (i : ℕ) → i ≡ slot_of t (id_asked q) → OldModule W H s t q i
  old_in W H s d o i f = subst (OldModule W H s t q) (sym f) (old_there W H s t q d (asking t q e) o)

-- ---- the lines for an operation n

module _ (W H : ℕ) (t q : List ℕ) where
  abbrev sound_for : ℕ → List Line
  sound_for n =
      11 when not (between 1 4 n || eqb n 6) ∷
      12 when not (all (eqb 0) (zeros q)) ∷
      13 when ((eqb n 1 || eqb n 4) && ltb 2 (rule_of q)) ∷
      14 when eqb (id_asked q) 0 ∷
      15 when ((eqb n 1 || (eqb n 3 || eqb n 6)) && id_placed t (id_asked q)) ∷
      16 when ((eqb n 2 || eqb n 4) && not (id_placed t (id_asked q))) ∷
      23 when ((eqb n 2 || eqb n 4) && is_hard t (slot_of t (id_asked q))) ∷
      17 when (((eqb n 1 || eqb n 4) || (eqb n 3 || eqb n 6)) && (eqb (wide q) 0 || eqb (high q) 0)) ∷
      []

  abbrev place_for : ℕ → List Line
  place_for n =
      18 when ((eqb n 3 || eqb n 6) && (ltb W (byte6 q + wide q) || ltb H (byte7 q + high q))) ∷
      19 when ((eqb n 1 || (eqb n 3 || eqb n 6)) && not (some_free t)) ∷
      20 when ((eqb n 1 || eqb n 4) && not (position (occupied t) W H (wide q) (high q))) ∷
      21 when ((eqb n 3 || eqb n 6) && not (cells_empty (occupied t) (pinned q))) ∷
      22 when ((eqb n 1 || eqb n 4) && any_cell_taken (occupied t) (rule_place (occupied t) W H (rule_of q) (wide q) (high q))) ∷
      []

  -- what operation n comes to, once 11 to 17 and 23 are out of the way
  abbrev pub judged_for : ℕ → Step
  judged_for n = judged_to (first (place_for n)) (done_for W H t q n)

  pub step_by : first (sound_lines t q) ≡ 0 → (n : ℕ) → operation q ≡ n → step_of W H t q ≡ judged_for n
  unfolding step_of place_lines accepted_step
  step_by s n e = ap (λ c. judged_to c (accepted_step W H t q)) (first_over (sound_lines t q) (place_lines W H t q) (unfold sound_lines above in refl) s) ∙ ap judged_for e

  -- a set comes to what a pin does
  pub step_there_by : first (sound_lines t q) ≡ 0 → AtPlace q → step_of W H t q ≡ judged_for 3
  step_there_by s a = by_or (is_pin q) (is_set q) a.at (λ p. step_by s 3 (eqb-true (operation q) 3 p)) (λ p. step_by s 6 (eqb-true (operation q) 6 p))

  -- the three tests of both in their order. Those behind one that refuses may come to anything
  pub pin_tested : first (sound_lines t q) ≡ 0 → AtPlace q → (p f b : Bool) →
      (ltb W (byte6 q + wide q) || ltb H (byte7 q + high q)) ≡ p → some_free t ≡ f → cells_empty (occupied t) (pinned q) ≡ b →
      cond p (Refused 18) (cond f (cond b (Done (lowest_free t) (pinned q)) (Refused 21)) (Refused 19)) ≡ step_of W H t q
  unfolding first
  pin_tested s a true f b x y z = sym (step_there_by s a ∙ rw x)
  pin_tested s a false false b x y z = sym (step_there_by s a ∙ rw (x, y))
  pin_tested s a false true true x y z = sym (step_there_by s a ∙ rw (x, y, z))
  pin_tested s a false true false x y z = sym (step_there_by s a ∙ rw (x, y, z))

  pub step_unsound : (c : ℕ) → c ≡ first (sound_lines t q) → (c ≡ 0 → ⊥) → Refused c ≡ step_of W H t q
  step_unsound c e n =
      let j : first (judging W H t q) ≡ c = first_stop (sound_lines t q) (place_lines W H t q) (λ z. n (e ∙ z)) ∙ sym e in
      ap Refused (sym j) ∙ sym (step_refused W H t q (λ z. n (sym j ∙ z)))

  -- what operation n comes to by all its lines
  abbrev judged_of : ℕ → Step
  judged_of n = judged_to (first (sound_for n ++ place_for n)) (done_for W H t q n)

  -- A REQUEST FOR A PLACE COMES TO WHAT THE PLACE IN NUMBERS COMES TO, where 12 and 13 do not refuse it
  pub place_in_numbers : operation q ≡ 1 → all (eqb 0) (zeros q) ≡ true → rule_of q ≤ 2 → step_of W H t q ≡ place_step W H t (id_asked q) (rule_of q) (wide q) (high q)
  unfolding step_of sound_lines place_lines accepted_step place_step first
  place_in_numbers e z r =
      ap judged_of e ∙ rw (z, le-ltb 2 (rule_of q) r)

  -- the byte that must be zero
  rule_zero : AtPlace q → all (eqb 0) (zeros q) ≡ eqb (rule_of q) 0
  unfolding zeros all
  rule_zero a =
      let one : all (eqb 0) (zeros q) ≡ eqb 0 (rule_of q) = rw (a.no_remove, a.at) in
      one ∙ by_same (rule_of q) 0 (λ e. rw e) (λ ne. ne_eqb 0 (rule_of q) (λ e. ne (sym e)) ∙ sym (ne_eqb (rule_of q) 0 ne))

  -- A PIN AND A SET COME TO WHAT THE LINES FOR THEIR FIELDS SAY, on every table
  pub step_there_is : AtPlace q → step_of W H t q ≡ pin_step W H t q
  unfolding step_of sound_lines place_lines accepted_step pin_step first
  step_there_is a =
      by_or (is_pin q) (is_set q) a.at (λ p. ap judged_of (eqb-true (operation q) 3 p) ∙ rw (rule_zero a)) (λ p. ap judged_of (eqb-true (operation q) 6 p) ∙ rw (rule_zero a))

-- so a set comes to what the pin with the same fields comes to
pub set_step : (W H : ℕ) (t q : List ℕ) → is_set q ≡ true → step_of W H t q ≡ step_of W H t (3 ∷ drop 1 q)
unfolding pin_step
set_step W H t [] e = absurd (false≢true e)
set_step W H t (a ∷ q) e =
    step_there_is W H t (a ∷ q) (at_place_lem (a ∷ q) (or_right (is_pin (a ∷ q)) (is_set (a ∷ q)) e)) ∙ sym (step_there_is W H t (3 ∷ q) (at_place_lem (3 ∷ q) refl))

-- the request's bytes from the numbers: id is low + 256 · high
pub place_bytes : (W H : ℕ) (t : List ℕ) (rule low high w h : ℕ) → rule ≤ 2 → step_of W H t (1 ∷ rule ∷ low ∷ high ∷ w ∷ h ∷ 0 ∷ 0 ∷ []) ≡ place_step W H t (low + 256 * high) rule w h
unfolding zeros all
place_bytes W H t rule low high w h r = place_in_numbers W H t (1 ∷ rule ∷ low ∷ high ∷ w ∷ h ∷ 0 ∷ 0 ∷ []) refl refl r

-- ---- slots

module _ (t : List ℕ) (i : ℕ) (e : i ≡ lowest_free t) where
  pub none_free : slots t ≤ i → some_free t ≡ false
  none_free h = sym (lowest_some t) ∙ le-ltb (lowest_free t) (slots t) (omega (arith, e))

  pub one_free : i < slots t → some_free t ≡ true
  one_free h = sym (lowest_some t) ∙ lt-ltb (lowest_free t) (slots t) (omega (arith, e))
