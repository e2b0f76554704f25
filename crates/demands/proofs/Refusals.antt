-- REFUSALS: what they leave, their codes, and when a request by rule is refused; where an accepted module stands. Assumes nothing.
use mathlib.Core.Path.{◌≡◌, refl, sym, ap, ap₂, ◌∙◌, subst}
use mathlib.Core.Bool.{Bool, true, false, not, cond, ◌&&◌, ◌||◌, true≢false, false≢true}
use mathlib.Core.Logic.{◌↔◌}
use mathlib.Core.List.Memᴰ
use mathlib.Core.List.{List, [], ◌∷◌, ◌++◌, Memᴰ}
use mathlib.Core.Option.{Option, none, some}
use Prim.Native.Nat.{ℕ, suc, ◌+◌, ◌≤◌, ◌<◌}
use native.Mathlib.Omega.{arith}
use borrow.Author.Tests.{ltb-true, le-ltb, eqb-true, eq-eqb, not-true}
use lib.Dec.{ltb, eqb}
use lib.IntN.{ℤ}
use lib.ListN.{take, drop}
use Rattle.rules.specs.Tests.{any}
use Rattle.rules.specs.Surface.{Standing, rect, slots, id_of, kind_of, is_hard, free_slot, occupied}
use Rattle.rules.specs.Empties.{on_surface, cells_empty, empty, Empty, bottom_reaches}
use Rattle.rules.specs.Judging.{Line, ◌when◌, first, NoneApplies, FirstThat}
use Rattle.meaning.specs.Numbers.{above, has_code, differ}
use Rattle.rules.specs.Requests.{operation, has_id, id_placed, rule_of, id_asked, wide, high, byte6, byte7, is_place, is_exchange, by_rule, at_place, makes_new, pinned, slot_of, some_free, lowest_free, position, rule_place, any_cell_taken, sound_lines, place_lines, judging, step_of, code_of, needs_old, is_remove}
use Rattle.rules.specs.Blocks.{State, with_step}
use Rattle.rules.specs.declared.Rect.{Rect}
use Rattle.rules.specs.Refusals.{Step, Refused, Done}
use Rattle.rules.proofs.Tests.{and_left, and_right, and_both, or_right, or_neither, not_both, fails, any_at, any_yes}
use Rattle.meaning.proofs.Splits.{split, by_test, by_or, by_same, by_cons}
use Rattle.meaning.proofs.Choice.{rule_place_empty}
use Rattle.meaning.proofs.Rectangles.{on_surface_on, on_on_surface, empty_is}
use Rattle.meaning.proofs.Bottom.{reaches_empty}
use Rattle.meaning.proofs.First.{first_is, none_is, none_applies, none_first, first_over, first_stop, exactly}
use Rattle.meaning.proofs.Tables.{slot_placed, slot_has}
use Rattle.meaning.proofs.Stands.{same_id, ids_told, standing_table}
use Rattle.demands.specs.Sound.{Sound, SlotForIt, SoundTo16}
use Rattle.demands.specs.Told.{HardId}
use Rattle.demands.proofs.Hard.{hard_used, used_low}
use Rattle.meaning.proofs.Operations.{pin_tested, step_unsound}
use Rattle.meaning.proofs.Steps.{code_is, done_refused, done_rect, came, empty_parts, past_on, at_place_lem, Asking, asking, sizes}
use Rattle.meaning.proofs.Steps.Came.{refused, placed, removed, put, exchanged}

-- ---- a refusal changes nothing

pub refused_keeps : (W H : ℕ) (q : List ℕ) (a : State) (d : Step) → (code_of d ≡ 0 → ⊥) → ((with_step W H q d a).weights ≡ a.weights) × ((with_step W H q d a).table ≡ a.table)
refused_keeps W H q a (Refused c) n = (refl, refl)
refused_keeps W H q a (Done i r) n = absurd (n refl)

-- ---- the code in an answer is the number of the first condition that applies

pub code_first : (W H : ℕ) (t q : List ℕ) → FirstThat (judging W H t q) (code_of (step_of W H t q))
code_first W H t q = subst (FirstThat (judging W H t q)) (sym (code_is W H t q)) (first_is (judging W H t q))

-- ---- a sound request

pub sound_first : (t q : List ℕ) → Sound t q → first (sound_lines t q) ≡ 0
sound_first t q s = none_first (sound_lines t q) ((none_is (sound_lines t q)).1 s)

-- ---- 22 is never given

-- every code is below n
unfoldable pub below : ℕ → List Line → Bool
below n [] = true
below n (l ∷ ls) = ltb l.code n && below n ls

pub first_below : (n : ℕ) (ls : List Line) → 0 < n → below n ls ≡ true → first ls < n
unfolding below first
first_below n [] p e = p
first_below n (l ∷ ls) p e =
    split (λ c. c < n) l.applies (λ a. ltb-true l.code n (and_left (ltb l.code n) (below n ls) e)) (λ a. first_below n ls p (and_right (ltb l.code n) (below n ls) e))

-- a code that no line has is not given
first_not : (n : ℕ) (ls : List Line) → (n ≡ 0 → ⊥) → has_code n ls ≡ false → first ls ≡ n → ⊥
unfolding has_code first
first_not n [] ne h e = ne (sym e)
first_not n (l ∷ ls) ne h e =
    let o = or_neither (eqb l.code n) (has_code n ls) h in
    split (λ c. c ≡ n → ⊥) l.applies (λ a e. not_both (eqb l.code n) (eq-eqb l.code n e) o.0) (λ a. first_not n ls ne o.1) e

module _ (W H : ℕ) (t q : List ℕ) where
  abbrev occ : ℕ → ℕ → Bool
  occ = occupied t

  abbrev chosen : Option Rect
  chosen = rule_place occ W H (rule_of q) (wide q) (high q)

  -- what the rule chose has no occupied cell
  never_taken : Asking t q → (by_rule q && any_cell_taken occ chosen) ≡ false
  never_taken a = fails _ (λ e. go chosen refl (and_left (by_rule q) (any_cell_taken occ chosen) e) (and_right (by_rule q) (any_cell_taken occ chosen) e))
    where
      go : (o : Option Rect) → chosen ≡ o → by_rule q ≡ true → any_cell_taken occ o ≡ true → ⊥
      go none p b e = false≢true e
      go (some r) p b e =
          let z = sizes t q a (ap (λ b. b || at_place q) b) in
          let m = rule_place_empty occ W H (rule_of q) (wide q) (high q) z.0 z.1 r p in
          true≢false (sym (empty_parts occ W H r m).1 ∙ not-true (cells_empty occ r) e)

  -- the lines of 18 to 21
  abbrev four : List Line → List Line
  four ls =
      18 when (at_place q && (ltb W (byte6 q + wide q) || ltb H (byte7 q + high q))) ∷
      19 when (makes_new q && not (some_free t)) ∷
      20 when (by_rule q && not (position occ W H (wide q) (high q))) ∷
      21 when (at_place q && not (cells_empty occ (pinned q))) ∷
      ls

  first_four : Asking t q → first (place_lines W H t q) ≡ first (four [])
  unfolding place_lines first
  first_four a = ap (λ e. first (four (22 when e ∷ []))) (never_taken a)

  -- 22 IS NEVER GIVEN
  pub never_22 : code_of (step_of W H t q) ≡ 22 → ⊥
  never_22 z =
      let g = sym (code_is W H t q) ∙ z in
      by_same (first (sound_lines t q)) 0
      (λ e. first_not 22 (four []) (λ z. omega arith) (unfold has_code in refl) (sym (first_over (sound_lines t q) (place_lines W H t q) (unfold sound_lines above in refl) e ∙ first_four (asking t q e)) ∙ g))
      (λ ne. first_not 22 (sound_lines t q) (λ z. omega arith) (unfold sound_lines has_code in refl) (sym (first_stop (sound_lines t q) (place_lines W H t q) ne) ∙ g))

  -- ---- when a sound request by rule is refused

  not_at : by_rule q ≡ true → at_place q ≡ false
  not_at e =
      by_or (is_place q) (is_exchange q) e
      (λ p. ap (λ n. eqb n 3 || eqb n 6) (eqb-true (operation q) 1 p))
      (λ p. ap (λ n. eqb n 3 || eqb n 6) (eqb-true (operation q) 4 p))

  slot_there : by_rule q ≡ true → SlotForIt t q → (makes_new q && not (some_free t)) ≡ false
  slot_there e f =
      fails _ (λ p.
      by_or (is_place q) (at_place q) (and_left (makes_new q) (not (some_free t)) p)
      (λ k. not_both (some_free t) (f k) (not-true (some_free t) (and_right (makes_new q) (not (some_free t)) p)))
      (λ k. not_both (at_place q) k (not_at e)))

  lines_four : (a b c d : Bool) → a ≡ false → b ≡ false → d ≡ false → first (18 when a ∷ 19 when b ∷ 20 when c ∷ 21 when d ∷ []) ≡ cond c 20 0
  unfolding first
  lines_four a b c d p q r = rw (p, q, r)

  pub rule_code : Sound t q → by_rule q ≡ true → SlotForIt t q → code_of (step_of W H t q) ≡ cond (position occ W H (wide q) (high q)) 0 20
  rule_code s e f =
      let z = sound_first t q s in
      code_is W H t q
      ∙ first_over (sound_lines t q) (place_lines W H t q) (unfold sound_lines above in refl) z
      ∙ first_four (asking t q z)
      ∙ lines_four _ _ _ _
      (ap (λ b. b && (ltb W (byte6 q + wide q) || ltb H (byte7 q + high q))) (not_at e))
      (slot_there e f)
      (ap (λ b. b && not (cells_empty occ (pinned q))) (not_at e))
      ∙ ap {B = ℕ} (λ b. cond (b && not (position occ W H (wide q) (high q))) 20 0) e
      ∙ by_test (position occ W H (wide q) (high q)) (λ k. rw k) (λ k. rw k)

  pub refused_exactly : Sound t q → by_rule q ≡ true → SlotForIt t q → (code_of (step_of W H t q) ≡ 0 → ⊥) ↔ (position occ W H (wide q) (high q) ≡ false)
  refused_exactly s e f = (
    (λ ne. fails _ (λ p. ne (rule_code s e f ∙ ap {B = ℕ} (λ b. cond b 0 20) p))),
    (λ p z. let n : ◌≡◌ {A = ℕ} 0 20 = sym z ∙ rule_code s e f ∙ ap {B = ℕ} (λ b. cond b 0 20) p in omega arith),
  )

  pub refused_as_20 : Sound t q → by_rule q ≡ true → SlotForIt t q → (code_of (step_of W H t q) ≡ 0 → ⊥) → code_of (step_of W H t q) ≡ 20
  refused_as_20 s e f ne = rule_code s e f ∙ ap {B = ℕ} (λ b. cond b 0 20) ((refused_exactly s e f).0 ne)

-- no position, said of all rectangles of that size that there are
pub no_position : (occ : ℕ → ℕ → Bool) (W H w h : ℕ) → (position occ W H w h ≡ false) ↔ ((x y : ℕ) → Empty occ W H (rect x y w h) → ⊥)
unfolding position
no_position occ W H w h = (
  (λ p x y e.
      not_both (position occ W H w h)
      (any_yes H (λ y. any W (λ x. empty occ W H (rect x y w h))) y (omega (arith, e.lines, e.tall))
      (any_yes W (λ x. empty occ W H (rect x y w h)) x (omega (arith, e.columns, e.wide)) ((empty_is occ W H (rect x y w h)).1 e)))
      p),
  (λ n.
      fails _ (λ p.
      let y = any_at H (λ y. any W (λ x. empty occ W H (rect x y w h))) p in
      let x = any_at W (λ x. empty occ W H (rect x y.0 w h)) y.2 in
      n x.0 y.0 ((empty_is occ W H (rect x.0 y.0 w h)).0 x.2))),
)

-- ---- 23, "remove or exchange of a block, follows 16"

-- where no line of ls ++ ms with a code of at most n applies, and every line of ls has such a code, none of ls applies
none_to : (n : ℕ) (ls ms : List Line) → below (suc n) ls ≡ true → ((l : Line) → Memᴰ l (ls ++ ms) → l.code ≤ n → l.applies ≡ false) → NoneApplies ls
unfolding below NoneApplies
none_to n [] ms b h = tt
none_to n (l ∷ ls) ms b h =
    let c = ltb-true l.code (suc n) (and_left (ltb l.code (suc n)) (below (suc n) ls) b) in
    (h l (Memᴰ.head refl) (omega arith), none_to n ls ms (and_right (ltb l.code (suc n)) (below (suc n) ls) b) (λ k m. h k (Memᴰ.tail m)))

-- and the other way round, where every code of ms is above n
to_none : (n : ℕ) (ls ms : List Line) → NoneApplies ls → ((l : Line) → Memᴰ l ms → n < l.code) → (l : Line) → Memᴰ l (ls ++ ms) → l.code ≤ n → l.applies ≡ false
unfolding NoneApplies
to_none n [] ms z h l m c = absurd (omega (arith, h l m))
to_none n (k ∷ ls) ms z h l m c = by_cons m (λ q. ap (λ (l : Line). l.applies) q ∙ z.0) (λ m. to_none n ls ms z.1 h l m c)

-- on a surface that stands an id has one slot
pub slot_one : (W H : ℕ) (s : List ℤ) (t : List ℕ) → Standing W H s t → (i n : ℕ) → i < slots t → free_slot t i ≡ false → id_of t i ≡ n → slot_of t n ≡ i
unfolding id_placed
slot_one W H s t d i n l f e =
    let k = slot_of t n in
    let placed : id_placed t n ≡ true = any_yes (slots t) (has_id t n) i l (and_both (ap not f) (eq-eqb (id_of t i) n e)) in
    let low = ltb-true k (slots t) (slot_placed t n ∙ placed) in
    let h = slot_has t n low in
    by_same k i (λ z. z) (λ ne.
    not_both (same_id t k i) (and_both (and_both (ap not h.0) (ap not f)) (eq-eqb (id_of t k) (id_of t i) (h.1 ∙ sym e)))
    (ids_told t (standing_table W H s t d).ids_are k i low l ne))

module _ (W H : ℕ) (s : List ℤ) (t q : List ℕ) (d : Standing W H s t) where
  abbrev old : ℕ
  old = slot_of t (id_asked q)

  hard_id : is_hard t old ≡ true → HardId t (id_asked q)
  hard_id h =
      let k = eqb-true (kind_of t old) 1 h in
      let l = used_low d old (hard_used t old k) in
      record { slot = old; low = l; named = (slot_has t (id_asked q) l).1; hard = k }

  id_hard : HardId t (id_asked q) → is_hard t old ≡ true
  id_hard k = eq-eqb (kind_of t old) 1 (ap (kind_of t) (slot_one W H s t d k.slot (id_asked q) k.low (hard_used t k.slot k.hard) k.named) ∙ k.hard)

  -- the lines of 11 to 16; those of 23 and 17 stand behind them
  abbrev six : List Line
  six = take 6 (sound_lines t q)

  behind_16 : (l : Line) → Memᴰ l (drop 6 (sound_lines t q)) → 16 < l.code
  unfolding sound_lines
  behind_16 l m =
      by_cons m (λ e. omega (arith, ap (λ (l : Line). l.code) e)) (λ m. by_cons m (λ e. omega (arith, ap (λ (l : Line). l.code) e)) (λ m. absurd (Memᴰ.not-nil m)))

  pub hard_exactly : (code_of (step_of W H t q) ≡ 23) ↔ ((needs_old q ≡ true) × SoundTo16 t q × HardId t (id_asked q))
  unfolding sound_lines
  hard_exactly =
      let x = exactly (judging W H t q) _ (unfold sound_lines place_lines above in refl) (unfold sound_lines place_lines has_code differ in refl) (code_first W H t q) six
      (23 when (needs_old q && is_hard t old)) (drop 7 (judging W H t q)) refl in (
        (λ e. let n = x.0 e in (and_left (needs_old q) (is_hard t old) n.1, to_none 16 six (drop 6 (sound_lines t q)) n.0 behind_16, hard_id (and_right (needs_old q) (is_hard t old) n.1))),
        (λ k. x.1 (none_to 16 six (drop 6 (sound_lines t q)) (unfold sound_lines below in refl) k.1, and_both k.0 (id_hard k.2))),
      )

-- ---- a pin and a set by the weights (order 4)

neither : (n : ℕ) (d : Bool) → (n ≡ 0 → ⊥) → (n ≡ 21 → ⊥) → n ≡ cond d 0 21 → ⊥
neither n true a b = a
neither n false a b = b

-- the three tests in their order: which of them give 0, and which 21
pin_codes : (i : ℕ) (r : Rect) (p f b d : Bool) →
    (code_of (cond p (Refused 18) (cond f (cond b (Done i r) (Refused 21)) (Refused 19))) ≡ cond d 0 21) ↔ ((p ≡ false) × (f ≡ true) × (b ≡ d))
pin_codes i r true f b d = (λ e. absurd (neither 18 d (λ z. omega arith) (λ z. omega arith) e), λ k. absurd (true≢false k.0))
pin_codes i r false false b d = (λ e. absurd (neither 19 d (λ z. omega arith) (λ z. omega arith) e), λ k. absurd (false≢true k.1))
pin_codes i r false true true true = (λ e. (refl, refl, refl), λ k. refl)
pin_codes i r false true true false = (λ e. absurd (omega arith), λ k. absurd (true≢false k.2))
pin_codes i r false true false true = (λ e. absurd (omega arith), λ k. absurd (false≢true k.2))
pin_codes i r false true false false = (λ e. (refl, refl, refl), λ k. refl)

-- b is what the test of the bottom row's weights comes to
module _ (W H : ℕ) (s : List ℤ) (t q : List ℕ) (d : Standing W H s t) (a : at_place q ≡ true) (b : Bool) where
  abbrev past_edge : Bool
  past_edge = ltb W (byte6 q + wide q) || ltb H (byte7 q + high q)

  abbrev clear : Bool
  clear = cells_empty (occupied t) (pinned q)

  three : first (sound_lines t q) ≡ 0 → (code_of (step_of W H t q) ≡ cond b 0 21) ↔ ((past_edge ≡ false) × (some_free t ≡ true) × (clear ≡ b))
  three e = rw (← pin_tested W H t q e (at_place_lem q a) past_edge (some_free t) clear refl refl refl) (pin_codes (lowest_free t) (pinned q) past_edge (some_free t) clear b)

  abbrev Told : Type 0
  Told = Sound t q × (on_surface W H (pinned q) ≡ true) × (some_free t ≡ true) × (bottom_reaches W s (pinned q) ≡ b)

  to : code_of (step_of W H t q) ≡ cond b 0 21 → Told
  to z =
      by_same (first (sound_lines t q)) 0
      (λ e.
      let k = (three e).0 z in
      let n = sizes t q (asking t q e) (or_right (by_rule q) (at_place q) a) in
      let o = past_on W H (pinned q) k.0 n.0 n.1 in
      ((none_is (sound_lines t q)).0 (none_applies (sound_lines t q) (unfold sound_lines above in refl) e), on_on_surface W H (pinned q) o, k.1, reaches_empty W H s t d.sound (pinned q) o ∙ k.2))
      (λ ne. absurd (neither (first (sound_lines t q)) b ne (first_not 21 (sound_lines t q) (λ z. omega arith) (unfold sound_lines has_code in refl)) (ap code_of (step_unsound W H t q _ refl ne) ∙ z)))

  from : Told → code_of (step_of W H t q) ≡ cond b 0 21
  from k =
      let o = on_surface_on W H (pinned q) k.1 in
      (three (sound_first t q k.0)).1 (ap₂ ◌||◌ (le-ltb W _ o.columns) (le-ltb H _ o.lines), k.2, sym (reaches_empty W H s t d.sound (pinned q) o) ∙ k.3)

  -- 0 AND 21 EXACTLY WHEN THE BOTTOM ROW SAYS SO
  pub pin_exactly : (code_of (step_of W H t q) ≡ cond b 0 21) ↔ Told
  pin_exactly = (to, from)

-- ---- where an accepted module stands

-- an operation that needs an old module makes no new one
pub old_not_new : (q : List ℕ) → needs_old q ≡ true → makes_new q ≡ false
old_not_new q e =
    by_or (is_remove q) (is_exchange q) e
    (λ p. ap (λ n. eqb n 1 || (eqb n 3 || eqb n 6)) (eqb-true (operation q) 2 p))
    (λ p. ap (λ n. eqb n 1 || (eqb n 3 || eqb n 6)) (eqb-true (operation q) 4 p))

-- by its rule, or where its pin says
pub record StandsAs (W H : ℕ) (t q : List ℕ) (r : Rect) : Type 0 where
  pub rule : by_rule q ≡ true → rule_place (occupied t) W H (rule_of q) (wide q) (high q) ≡ some r
  pub there : at_place q ≡ true → r ≡ pinned q

pub stands_as : (W H : ℕ) (s : List ℤ) (t q : List ℕ) → Standing W H s t → (i : ℕ) (r : Rect) → step_of W H t q ≡ Done i r → StandsAs W H t q r
stands_as W H s t q d i r e = elim (came W H s t q d) [
  | refused ne z ↦ done_refused i r _ (sym z ∙ e)
  | placed m o z c p ↦ record { rule = λ b. c ∙ ap some (done_rect _ _ r m (sym e ∙ z)); there = λ b. not_both (is_place q) (ap (λ n. eqb n 1) o) (at_place_lem q b).no_place }
  | removed o z p ↦ record { rule = λ b. not_both (by_rule q) b (ap (λ n. eqb n 1 || eqb n 4) o); there = λ b. not_both (is_remove q) (ap (λ n. eqb n 2) o) (at_place_lem q b).no_remove }
  | put a z p ↦ record { rule = λ b. not_both (by_rule q) b (ap₂ ◌||◌ a.no_place a.no_exchange); there = λ b. sym (done_rect _ _ r (pinned q) (sym e ∙ z)) }
  | exchanged m o z c p on free ↦ record { rule = λ b. c ∙ ap some (done_rect _ _ r m (sym e ∙ z)); there = λ b. not_both (is_exchange q) (ap (λ n. eqb n 4) o) (at_place_lem q b).no_exchange }
]
