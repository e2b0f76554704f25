-- Tests and sums of bytes: the bytes that must be zero. And the lines of 11 to 17 and 23 in two parts. Assumes nothing.
use mathlib.Core.Path.{◌≡◌, refl, sym, ap, ap₂, ◌∙◌}
use mathlib.Core.Bool.{Bool, true, false, not, cond, ◌&&◌, ◌||◌, and-true, and-false}
use mathlib.Core.Logic.{◌⊎◌, ⊎_elim}
use mathlib.Core.List.{List, [], ◌∷◌, ◌++◌}
use Prim.Native.Nat.{ℕ, zero, suc, ◌+◌}
use native.Mathlib.Omega.{arith}
use borrow.Author.Tests.{ne_eqb, ltb-true, ltb-false, lt-leb, le-leb, lt-ltb, le-ltb}
use Rattle.std.proofs.Common.{Option, Some, None, IfSome, ◌<◌, ◌≤◌, true≢false, rules}
use Rattle.std.specs.Option.{is_some, IsSome}
use Rattle.table.specs.Slot.{found_below, slot_or}
use Rattle.requests.specs.Operation.{operation_number, Asks}
use Rattle.requests.specs.declared.operation.Operation.{Operation}
use Rattle.requests.specs.declared.operation.Operation.TheVariants.{Place, Remove, Pin, Exchange, Set}
use lib.Dec.{leb, ltb, eqb}
use Rattle.rules.specs.Tests.{all, between}
use Rattle.rules.specs.Surface.{slots, is_hard}
use Rattle.rules.specs.Requests.{operation, known, makes_new, needs_old, has_size, is_remove, at_place, by_rule, rule_of, id_asked, wide, high, byte6, byte7, zeros, has_id, slot_of, sound_lines}
use Rattle.rules.proofs.Tests.{decide, least_is}
use Rattle.rules.specs.Judging.{first}
use Rattle.meaning.specs.Numbers.{above}
use Rattle.meaning.proofs.First.{first_stop, first_over, first_past, first_end}
use Rattle.meaning.proofs.Tables.{slot_placed}
use Rattle.requests.specs.Steps.{stray, form_lines, id_lines}

-- ---- Bools

pub over : (a n : ℕ) → ltb a n ≡ not (leb n a)
over a n = ⊎_elim (λ (e : ltb a n ≡ true). e ∙ sym (ap not (lt-leb n a (ltb-true a n e)))) (λ (e : ltb a n ≡ false). e ∙ sym (ap not (le-leb n a (ltb-false a n e)))) (decide (ltb a n))

-- ---- bytes that must be zero

-- one byte more is zero too exactly when the sum still is
sum_more : (a n : ℕ) → (eqb n 0 && eqb 0 a) ≡ eqb (a + n) 0
sum_more zero n = and-true (eqb n 0) ∙ ap (λ m. eqb m 0) (let e : n ≡ 0 + n = omega arith in e)
sum_more (suc a) n = ap (λ b. eqb n 0 && b) (ne_eqb 0 (suc a) (λ z. omega arith)) ∙ and-false (eqb n 0) ∙ sym (ne_eqb (suc a + n) 0 (λ z. omega arith))

abbrev sum : List ℕ → ℕ
sum [] = 0
sum (a ∷ l) = a + sum l

all_sum : (l : List ℕ) → all (eqb 0) l ≡ eqb (sum l) 0
unfolding all
all_sum [] = refl
all_sum (a ∷ l) = ap (λ b. b && eqb 0 a) (all_sum l) ∙ sum_more a (sum l)

sum_is : (n : ℕ) (l : List ℕ) → n ≡ sum l → not (eqb n 0) ≡ not (all (eqb 0) l)
sum_is n l e = ap (λ k. not (eqb k 0)) e ∙ sym (ap not (all_sum l))

-- five of them, as they are read
pub five_zero : {a b c d e a' b' c' d' e' : ℕ} → a ≡ a' → b ≡ b' → c ≡ c' → d ≡ d' → e ≡ e' → not (eqb (a + b + c + d + e) 0) ≡ not (all (eqb 0) (a' ∷ b' ∷ c' ∷ d' ∷ e' ∷ []))
five_zero {a} {b} {c} {d} {e} {a'} {b'} {c'} {d'} {e'} ea eb ec ed ee = sum_is (a + b + c + d + e) (a' ∷ b' ∷ c' ∷ d' ∷ e' ∷ []) (omega arith)

module _ (q : List ℕ) where
  pub stray_remove : is_remove q ≡ true → not (all (eqb 0) (rule_of q ∷ wide q ∷ high q ∷ byte6 q ∷ byte7 q ∷ [])) ≡ stray q
  unfolding stray zeros
  stray_remove p = rw p

  pub stray_there : (n : ℕ) → is_remove q ≡ false → at_place q ≡ true → n ≡ rule_of q → not (eqb n 0) ≡ stray q
  unfolding stray zeros
  stray_there n e f s = sum_is n (rule_of q ∷ []) (omega arith) ∙ rw (e, f)

  pub stray_rule : (a b : ℕ) → is_remove q ≡ false → at_place q ≡ false → by_rule q ≡ true → a ≡ byte6 q → b ≡ byte7 q → not (eqb (a + b) 0) ≡ stray q
  unfolding stray zeros
  stray_rule a b e f g ea eb = sum_is (a + b) (byte6 q ∷ byte7 q ∷ []) (omega arith) ∙ rw (e, f, g)

-- ---- the lines of 11 to 17 and 23, in two parts

module _ (t q : List ℕ) where
  sound_lines_lem : (i : ℕ) → i ≡ slot_of t (id_asked q) → sound_lines t q ≡ form_lines q ++ id_lines t q i
  unfolding sound_lines stray
  sound_lines_lem i e = rw (e, slot_placed t (id_asked q))

  -- the request's own bytes refuse it
  pub form_refuses : (c : ℕ) → c ≡ first (form_lines q) → (c ≡ 0 → ⊥) → c ≡ first (sound_lines t q)
  form_refuses c e ne = e ∙ sym (ap first (sound_lines_lem (slot_of t (id_asked q)) refl) ∙ first_stop (form_lines q) (id_lines t q (slot_of t (id_asked q))) (λ z. ne (e ∙ z)))

  -- or the slot of its id decides
  pub id_decides : (c d i : ℕ) → c ≡ first (form_lines q) → c ≡ 0 → i ≡ slot_of t (id_asked q) → d ≡ first (id_lines t q i) → d ≡ first (sound_lines t q)
  id_decides c d i e z f g = g ∙ sym (ap first (sound_lines_lem i f) ∙ first_over (form_lines q) (id_lines t q i) (unfold above in refl) (sym e ∙ z))

-- ---- a test of a request's operation, by the operation that it asks for

abbrev known_number : ℕ → Bool
known_number n = between 1 4 n || eqb n 6

module _ (q : List ℕ) (o : Operation) (asks : Asks q o) where
  pub told : {A : Type 0} (test : ℕ → A) (p : Operation) → o ≡ p → test (operation q) ≡ test (operation_number p)
  told test p e = sym (ap test (sym (ap operation_number e) ∙ asks))

  pub there_told : (o ≡ Pin) ⊎ (o ≡ Set) → (is_remove q ≡ false) × (at_place q ≡ true)
  there_told = ⊎_elim (λ e. (told (λ n. eqb n 2) Pin e, told (λ n. eqb n 3 || eqb n 6) Pin e)) (λ e. (told (λ n. eqb n 2) Set e, told (λ n. eqb n 3 || eqb n 6) Set e))

  pub rule_told : (o ≡ Place) ⊎ (o ≡ Exchange) → (is_remove q ≡ false) × ((at_place q ≡ false) × (by_rule q ≡ true))
  rule_told = ⊎_elim
      (λ e. (told (λ n. eqb n 2) Place e, (told (λ n. eqb n 3 || eqb n 6) Place e, told (λ n. eqb n 1 || eqb n 4) Place e)))
      (λ e. (told (λ n. eqb n 2) Exchange e, (told (λ n. eqb n 3 || eqb n 6) Exchange e, told (λ n. eqb n 1 || eqb n 4) Exchange e)))

  -- an operation that there is
  pub known_told : known q ≡ true
  known_told = go o refl
    where
      go : (p : Operation) → o ≡ p → known q ≡ true
      go Place e = told known_number Place e
      go Remove e = told known_number Remove e
      go Pin e = told known_number Pin e
      go Exchange e = told known_number Exchange e
      go Set e = told known_number Set e

-- ---- the slot of its id

-- a slot was found exactly when its number is one of the n that there are
pub found : (n : ℕ) (slot : Option ℕ) → IfSome slot (λ i. i < n) → is_some slot ≡ ltb (slot_or n slot) n
found n None h = sym (le-ltb n n (omega arith))
found n (Some i) h = sym (lt-ltb i n h)

-- the slot of an id is one of the table's, or their number
pub slot_most : (t : List ℕ) (id : ℕ) → slot_of t id ≤ slots t
unfolding slot_of
slot_most t id = omega (arith, (least_is (slots t) (has_id t id)).upto)

-- a slot that is looked for, by its number
pub slot_told : (n i : ℕ) (slot : Option ℕ) → i ≤ n → slot ≡ found_below n i → slot_or n slot ≡ i
slot_told n i slot h e = ap (slot_or n) e ∙ go (ltb i n) refl
  where
    go : (b : Bool) → ltb i n ≡ b → slot_or n (cond b (Some i) None) ≡ i
    go true f = refl
    go false f = omega (arith, h, ltb-false i n f)

-- where no code of the slot's lines applies, an operation that needs the old module has its slot
pub slot_there : (t q : List ℕ) (slot : Option ℕ) → needs_old q ≡ true → 0 ≡ first (id_lines t q (slot_or (slots t) slot)) → IsSome slot
unfolding first
slot_there t q (Some i) f e = search rules
slot_there t q None f e = absurd (go (makes_new q && ltb (slots t) (slots t)) (needs_old q) (ltb (slots t) (slots t)) _ f (le-ltb (slots t) (slots t) (omega arith)) e)
  where
    go : (a b d : Bool) (rest : ℕ) → b ≡ true → d ≡ false → ◌≡◌ {A = ℕ} 0 (cond a 15 (cond (b && not d) 16 rest)) → ⊥
    go true b d rest p r z = omega (arith, z)
    go false true false rest p r z = omega (arith, z)
    go false true true rest p r z = true≢false r
    go false false d rest p r z = true≢false (sym p)

-- an operation that there is not has none of them
pub none_asked : (t q : List ℕ) (i : ℕ) → known q ≡ false → ◌≡◌ {A = ℕ} 0 (first (id_lines t q i))
none_asked t q i e =
    let new : makes_new q ≡ false = ap₂ ◌||◌ (other 1 refl) (ap₂ ◌||◌ (other 3 refl) (other 6 refl)) in
    let old : needs_old q ≡ false = ap₂ ◌||◌ (other 2 refl) (other 4 refl) in
    let size : has_size q ≡ false = ap₂ ◌||◌ (ap₂ ◌||◌ (other 1 refl) (other 4 refl)) (ap₂ ◌||◌ (other 3 refl) (other 6 refl)) in
    first_past _ _ _ _ (ap (λ b. b && ltb i (slots t)) new)
    (first_past _ _ _ _ (ap (λ b. b && not (ltb i (slots t))) old)
    (first_past _ _ _ _ (ap (λ b. b && is_hard t i) old)
    (first_past _ _ _ _ (ap (λ b. b && (eqb (wide q) 0 || eqb (high q) 0)) size) first_end)))
  where
    other : (n : ℕ) → known_number n ≡ true → eqb (operation q) n ≡ false
    other n k = ne_eqb (operation q) n (λ z. true≢false (sym k ∙ sym (ap known_number z) ∙ e))
