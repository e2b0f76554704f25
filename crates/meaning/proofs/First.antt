-- "IN A FIXED ORDER": the code given is that of the first line that applies. For every list of lines; where more is asked of its numbers, it is a computed
-- test: that none is 0 (`above 0`), that no two are the same (`differ`), that they rise (`rising`). Assumes nothing.
use mathlib.Core.Path.{◌≡◌, refl, sym, ap, ◌∙◌, subst}
use mathlib.Core.Bool.{Bool, true, false, not, cond, ◌&&◌}
use mathlib.Core.Logic.{◌↔◌}
use mathlib.Core.List.Memᴰ
use mathlib.Core.List.{List, [], ◌∷◌, ◌++◌, Memᴰ}
use Prim.Native.Nat.{ℕ, ◌≤◌, ◌<◌}
use native.Mathlib.Omega.{arith}
use lib.Dec.{ltb, eqb}
use borrow.Author.Tests.{ltb-true, eq-eqb, not-true}
use Rattle.rules.specs.Judging.{Line, ◌when◌, first, NoneApplies, FirstThat}
use Rattle.meaning.specs.Numbers.{above, has_code, differ, rising}
use Rattle.rules.specs.Judging.FirstThat.{none, line}
use Rattle.meaning.proofs.Splits.{split, by_test, by_same, by_cons}
use Rattle.rules.proofs.Tests.{and_left, and_right, or_left, or_right, not_both}

-- ---- no line applies

pub none_is : (ls : List Line) → NoneApplies ls ↔ ((l : Line) → Memᴰ l ls → l.applies ≡ false)
unfolding NoneApplies
none_is [] = (λ n l m. absurd (Memᴰ.not-nil m), λ f. tt)
none_is (k ∷ ls) = (
  λ n l m. by_cons m (λ e. ap (λ (j : Line). j.applies) e ∙ n.0) ((none_is ls).0 n.1 l),
  λ f. (f k (Memᴰ.head refl), (none_is ls).1 (λ l m. f l (Memᴰ.tail m))),
)

pub none_first : (ls : List Line) → NoneApplies ls → first ls ≡ 0
unfolding first NoneApplies
none_first [] n = refl
none_first (k ∷ ls) n = ap (λ b. cond b k.code (first ls)) n.0 ∙ none_first ls n.1

-- THE CODE IS 0, SO NONE OF THESE LINES APPLIES
pub none_applies : (ls : List Line) → above 0 ls ≡ true → first ls ≡ 0 → NoneApplies ls
unfolding first above NoneApplies
none_applies [] u e = tt
none_applies (k ∷ ls) u e =
    split (λ c. c ≡ 0 → (k.applies ≡ false) × NoneApplies ls) k.applies
    (λ a z. absurd (let c = ltb-true 0 k.code (and_left (ltb 0 k.code) (above 0 ls) u) in omega arith))
    (λ a z. (a, none_applies ls (and_right (ltb 0 k.code) (above 0 ls) u) z)) e

-- ---- the first that applies

-- THE CODE GIVEN IS THAT OF THE FIRST LINE THAT APPLIES
pub first_is : (ls : List Line) → FirstThat ls (first ls)
unfolding first NoneApplies
first_is [] = none tt refl
first_is (k ∷ ls) =
    split (FirstThat (k ∷ ls)) k.applies (λ e. line [] k ls refl tt e refl)
    (λ e. elim (first_is ls) [ none n z ↦ none (e, n) z | line before l behind s n a c ↦ line (k ∷ before) l behind (ap (λ ms. k ∷ ms) s) (e, n) a c ])

first_at : (before : List Line) (l : Line) (behind : List Line) → NoneApplies before → l.applies ≡ true → first (before ++ (l ∷ behind)) ≡ l.code
unfolding first NoneApplies
first_at [] l behind n a = ap (λ b. cond b l.code (first behind)) a
first_at (k ∷ before) l behind n a = ap (λ b. cond b k.code (first (before ++ (l ∷ behind)))) n.0 ∙ first_at before l behind n.1 a

pub first_as : (ls : List Line) (c : ℕ) → FirstThat ls c → c ≡ first ls
first_as ls c (none n z) = z ∙ sym (none_first ls n)
first_as ls c (line before l behind s n a e) = e ∙ sym (ap first s ∙ first_at before l behind n a)

-- IT IS ONE
pub first_one : (ls : List Line) (c d : ℕ) → FirstThat ls c → FirstThat ls d → c ≡ d
first_one ls c d p q = first_as ls c p ∙ sym (first_as ls d q)

-- WHERE NO CODE IS 0, 0 IS GIVEN EXACTLY WHEN NO LINE APPLIES
pub done_exactly : (ls : List Line) (c : ℕ) → above 0 ls ≡ true → FirstThat ls c → (c ≡ 0) ↔ NoneApplies ls
done_exactly ls c u f = let z = first_as ls c f in (λ e. none_applies ls u (sym z ∙ e), λ n. z ∙ none_first ls n)

-- ---- line by line

-- a line that applies gives its code; one that does not leaves it to the next
pub first_here : (c : ℕ) (b : Bool) (ls : List Line) → b ≡ true → c ≡ first (c when b ∷ ls)
unfolding first
first_here c b ls e = sym (ap (λ d. cond d c (first ls)) e)

pub first_past : (c : ℕ) (b : Bool) (ls : List Line) (n : ℕ) → b ≡ false → n ≡ first ls → n ≡ first (c when b ∷ ls)
unfolding first
first_past c b ls n e r = r ∙ sym (ap (λ d. cond d c (first ls)) e)

pub first_end : 0 ≡ first []
unfolding first
first_end = refl

-- ---- a list in two parts

-- where the first part gives a code, that is it
pub first_stop : (ls ms : List Line) → (first ls ≡ 0 → ⊥) → first (ls ++ ms) ≡ first ls
unfolding first
first_stop [] ms ne = absurd (ne refl)
first_stop (k ∷ ls) ms ne = by_test k.applies (λ e. rw e) (λ e. rw e (first_stop ls ms (rw e at ne)))

-- where none of the first part applies, the second part decides
none_over : (ls ms : List Line) → NoneApplies ls → first (ls ++ ms) ≡ first ms
unfolding first NoneApplies
none_over [] ms n = refl
none_over (k ∷ ls) ms n = ap (λ b. cond b k.code (first (ls ++ ms))) n.0 ∙ none_over ls ms n.1

pub first_over : (ls ms : List Line) → above 0 ls ≡ true → first ls ≡ 0 → first (ls ++ ms) ≡ first ms
first_over ls ms u e = none_over ls ms (none_applies ls u e)

pub first_parts : (ls ms : List Line) → above 0 ls ≡ true → first (ls ++ ms) ≡ 0 → (first ls ≡ 0) × (first ms ≡ 0)
first_parts ls ms u e = by_same (first ls) 0 (λ q. (q, sym (first_over ls ms u q) ∙ e)) (λ ne. absurd (ne (sym (first_stop ls ms ne) ∙ e)))

-- ---- what the numbers tell

above_at : (n : ℕ) (ls : List Line) → above n ls ≡ true → (l : Line) → Memᴰ l ls → n < l.code
unfolding above
above_at n [] e l m = absurd (Memᴰ.not-nil m)
above_at n (k ∷ ls) e l m =
    by_cons m
    (λ q. omega (arith, ltb-true n k.code (and_left (ltb n k.code) (above n ls) e), ap (λ (j : Line). j.code) q))
    (above_at n ls (and_right (ltb n k.code) (above n ls) e) l)

-- the line that gave the code is one of the list
pub given_by : (ls : List Line) (c : ℕ) → FirstThat ls c → (c ≡ 0 → ⊥) → (l : Line) × Memᴰ l ls × (l.applies ≡ true) × (c ≡ l.code)
given_by ls c (none n z) ne = absurd (ne z)
given_by ls c (line before l behind s n a e) ne = (l, subst (Memᴰ l) (sym s) (Memᴰ.append_right before (Memᴰ.head refl)), a, e)

-- every code is above n, so what is given is 0 or above n
pub first_above : (n : ℕ) (ls : List Line) → above n ls ≡ true → (first ls ≡ 0 → ⊥) → n < first ls
first_above n ls u ne = let g = given_by ls (first ls) (first_is ls) ne in omega (arith, above_at n ls u g.0 g.1, g.3)

has_code_lem : (ls : List Line) (l : Line) → Memᴰ l ls → (c : ℕ) → l.code ≡ c → has_code c ls ≡ true
unfolding has_code
has_code_lem [] l m c e = absurd (Memᴰ.not-nil m)
has_code_lem (k ∷ ls) l m c e =
    by_cons m
    (λ q. or_left (eqb k.code c) (has_code c ls) (eq-eqb k.code c (ap (λ (j : Line). j.code) (sym q) ∙ e)))
    (λ p. or_right (eqb k.code c) (has_code c ls) (has_code_lem ls l p c e))

-- no line behind one has its code
named : {A : Type 0} (c : ℕ) (ls : List Line) → (not (has_code c ls) && differ ls) ≡ true → has_code c ls ≡ true → A
named c ls d h = not_both (has_code c ls) h (not-true (has_code c ls) (and_left (not (has_code c ls)) (differ ls) d))

exactly_at : (before : List Line) (l : Line) (behind : List Line) → above 0 (before ++ (l ∷ behind)) ≡ true → differ (before ++ (l ∷ behind)) ≡ true →
    first (before ++ (l ∷ behind)) ≡ l.code → NoneApplies before × (l.applies ≡ true)
unfolding first above differ NoneApplies
exactly_at [] l behind u d e =
    split (λ c. c ≡ l.code → Unit {0} × (l.applies ≡ true)) l.applies (λ a z. (tt, a))
    (λ a z.
    let p = ltb-true 0 l.code (and_left (ltb 0 l.code) (above 0 behind) u) in
    let g = given_by behind (first behind) (first_is behind) (λ q. omega (arith, p, z, q)) in
    named l.code behind d (has_code_lem behind g.0 g.1 l.code (sym g.3 ∙ z))) e
exactly_at (k ∷ before) l behind u d e =
    let rest = before ++ (l ∷ behind) in
    split (λ c. c ≡ l.code → ((k.applies ≡ false) × NoneApplies before) × (l.applies ≡ true)) k.applies
    (λ a z. named k.code rest d (has_code_lem rest l (Memᴰ.append_right before (Memᴰ.head refl)) k.code (sym z)))
    (λ a z. let x = exactly_at before l behind (and_right (ltb 0 k.code) (above 0 rest) u) (and_right (not (has_code k.code rest)) (differ rest) d) z in ((a, x.0), x.1)) e

-- WHERE NO TWO CODES ARE THE SAME, AND NONE IS 0, A LINE'S CODE IS GIVEN EXACTLY WHEN THE LINE APPLIES AND NONE BEFORE IT DOES
pub exactly : (ls : List Line) (c : ℕ) → above 0 ls ≡ true → differ ls ≡ true → FirstThat ls c →
    (before : List Line) (l : Line) (behind : List Line) → ls ≡ before ++ (l ∷ behind) → (c ≡ l.code) ↔ (NoneApplies before × (l.applies ≡ true))
exactly ls c u d f before l behind s =
    let z : c ≡ first (before ++ (l ∷ behind)) = first_as ls c f ∙ ap first s in
    (λ e. exactly_at before l behind (ap (above 0) (sym s) ∙ u) (ap differ (sym s) ∙ d) (sym z ∙ e), λ p. z ∙ first_at before l behind p.0 p.1)

-- ---- where the numbers rise it is the lowest

first_low : (ls : List Line) → rising ls ≡ true → (l : Line) → Memᴰ l ls → l.applies ≡ true → first ls ≤ l.code
unfolding rising first
first_low [] e l m a = absurd (Memᴰ.not-nil m)
first_low (k ∷ ls) e l m a =
    by_cons m
    (λ q. omega (arith, ap (λ b. cond b k.code (first ls)) (ap (λ (j : Line). j.applies) (sym q) ∙ a), ap (λ (j : Line). j.code) q))
    (λ p.
    split (λ c. c ≤ l.code) k.applies
    (λ b. omega (arith, above_at k.code ls (and_left (above k.code ls) (rising ls) e) l p))
    (λ b. first_low ls (and_right (above k.code ls) (rising ls) e) l p a))

-- NO LINE THAT APPLIES HAS A LOWER CODE
pub lowest : (ls : List Line) (c : ℕ) → rising ls ≡ true → FirstThat ls c → (l : Line) → Memᴰ l ls → l.applies ≡ true → c ≤ l.code
lowest ls c u f l m a = omega (arith, first_as ls c f, first_low ls u l m a)
