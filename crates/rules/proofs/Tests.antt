-- What a test tells and what tells a test, once for each: every, any, least, total, keep, all, chain, tab. Assumes nothing.
use mathlib.Core.Path.{◌≡◌, refl, sym, ap, ap₂, ◌∙◌, subst}
use mathlib.Core.Bool.{Bool, true, false, not, cond, ◌&&◌, ◌||◌, true≢false, false≢true}
use mathlib.Core.Logic.{◌⊎◌, inl, inr, ⊎_elim}
use mathlib.Core.List.Memᴰ
use mathlib.Core.List.{List, [], ◌∷◌, Memᴰ}
use Prim.Native.Nat.{ℕ, zero, suc, ◌+◌, ◌*◌, ◌≤◌, ◌<◌}
use native.Mathlib.Nat.{le_refl, eq-or-lt_of_le, le_of_suc-le-suc, mul-add}
use native.Mathlib.Decide.{dec_lt}
use native.Mathlib.Omega.{arith}
use lib.ListN.{length, get_or}
use lib.Dec.{leb, ltb}
use lib.IntN.{ℤ, pos, negsuc}
use lib.Signed.{le_z, lt_z}
use borrow.Author.Tests.{leb-true, ltb-false, eqb-true, le-leb, le-ltb, eq-eqb, not-true, not-false}
use Rattle.rules.specs.Tests.{every, any, total, count, least_from, least, eq_z, tab_from, tab, put, keep, all, chain}

-- ---- numbers

pub lt_or_le : (a b : ℕ) → (a < b) ⊎ (b ≤ a)
lt_or_le a b = elim (dec_lt a b) [ yes h ↦ inl h | no h ↦ inr (omega arith) ]

-- ---- Bools

pub and_left : (a b : Bool) → (a && b) ≡ true → a ≡ true
and_left true b e = refl
and_left false b e = e

pub and_right : (a b : Bool) → (a && b) ≡ true → b ≡ true
and_right true b e = e
and_right false b e = absurd (false≢true e)

pub and_both : {a b : Bool} → a ≡ true → b ≡ true → (a && b) ≡ true
and_both p q = ap₂ ◌&&◌ p q

-- a second test counts only where the first holds
pub and_same : (a b c : Bool) → (a ≡ true → b ≡ c) → (a && b) ≡ (a && c)
and_same true b c f = f refl
and_same false b c f = refl

-- four tests in a row
pub and_four : (a b c d : Bool) → (a && b && c && d) ≡ true → (a ≡ true) × (b ≡ true) × (c ≡ true) × (d ≡ true)
and_four a b c d e =
    let f = and_left (a && b && c) d e in
    let g = and_left (a && b) c f in
    (and_left a b g, and_right a b g, and_right (a && b) c f, and_right (a && b && c) d e)

pub four_and : {a b c d : Bool} → a ≡ true → b ≡ true → c ≡ true → d ≡ true → (a && b && c && d) ≡ true
four_and p q r s = and_both (and_both (and_both p q) r) s

-- which of the two fails
pub and_fails : (a b : Bool) → (a && b) ≡ false → (a ≡ false) ⊎ (b ≡ false)
and_fails true b e = inr e
and_fails false b e = inl refl

pub or_which : (a b : Bool) → (a || b) ≡ true → (a ≡ true) ⊎ (b ≡ true)
or_which true b e = inl refl
or_which false b e = inr e

pub or_left : (a b : Bool) → a ≡ true → (a || b) ≡ true
or_left a b p = ap (λ c. c || b) p

pub or_right : (a b : Bool) → b ≡ true → (a || b) ≡ true
or_right true b p = refl
or_right false b p = p

pub or_neither : (a b : Bool) → (a || b) ≡ false → (a ≡ false) × (b ≡ false)
or_neither true b e = absurd (true≢false e)
or_neither false b e = (refl, e)

-- a test comes out one way or the other
pub decide : (b : Bool) → (b ≡ true) ⊎ (b ≡ false)
decide true = inl refl
decide false = inr refl

pub not_both : {A : Type 0} (b : Bool) → b ≡ true → b ≡ false → A
not_both b p q = absurd (true≢false (sym p ∙ q))

-- it is false if it can't be true
pub fails : (b : Bool) → (b ≡ true → ⊥) → b ≡ false
fails true n = absurd (n refl)
fails false n = refl

-- two tests that follow from one another are the same
pub both_ways : (a b : Bool) → (a ≡ true → b ≡ true) → (b ≡ true → a ≡ true) → a ≡ b
both_ways true b f g = sym (f refl)
both_ways false b f g = sym (fails b (λ e. false≢true (g e)))

-- ---- every

pub every_at : (n : ℕ) (p : ℕ → Bool) → every n p ≡ true → (k : ℕ) → k < n → p k ≡ true
unfolding every
every_at zero p e k h = absurd (omega arith)
every_at (suc n) p e k h =
    ⊎_elim
    (λ (q : k ≡ n). ap p q ∙ and_right (every n p) (p n) e)
    (λ (q : k < n). every_at n p (and_left (every n p) (p n) e) k q)
    (eq-or-lt_of_le (le_of_suc-le-suc h))

pub every_yes : (n : ℕ) (p : ℕ → Bool) → ((k : ℕ) → k < n → p k ≡ true) → every n p ≡ true
unfolding every
every_yes zero p h = refl
every_yes (suc n) p h = and_both (every_yes n p (λ k l. h k (omega arith))) (h n (omega arith))

pub every_no : (n : ℕ) (p : ℕ → Bool) (k : ℕ) → k < n → p k ≡ false → every n p ≡ false
every_no n p k h e = fails (every n p) (λ q. true≢false (sym (every_at n p q k h) ∙ e))

-- ---- any

pub any_yes : (n : ℕ) (p : ℕ → Bool) (k : ℕ) → k < n → p k ≡ true → any n p ≡ true
unfolding any
any_yes zero p k h e = absurd (omega arith)
any_yes (suc n) p k h e =
    ⊎_elim
    (λ (q : k ≡ n). or_right (any n p) (p n) (ap p (sym q) ∙ e))
    (λ (q : k < n). or_left (any n p) (p n) (any_yes n p k q e))
    (eq-or-lt_of_le (le_of_suc-le-suc h))

pub any_at : (n : ℕ) (p : ℕ → Bool) → any n p ≡ true → (k : ℕ) × (k < n) × (p k ≡ true)
unfolding any
any_at zero p e = absurd (false≢true e)
any_at (suc n) p e =
    ⊎_elim
    (λ (q : any n p ≡ true). let w = any_at n p q in (w.0, omega (arith, w.1), w.2))
    (λ (q : p n ≡ true). (n, omega arith, q))
    (or_which (any n p) (p n) e)

pub any_none : (n : ℕ) (p : ℕ → Bool) → any n p ≡ false → (k : ℕ) → k < n → p k ≡ false
any_none n p e k h = fails (p k) (λ q. true≢false (sym (any_yes n p k h q) ∙ e))

pub none_any : (n : ℕ) (p : ℕ → Bool) → ((k : ℕ) → k < n → p k ≡ false) → any n p ≡ false
none_any n p h = fails (any n p) (λ q. let w = any_at n p q in true≢false (sym w.2 ∙ h w.0 w.1))

-- where not every one holds, some one fails
pub every_fails : (n : ℕ) (p : ℕ → Bool) → every n p ≡ false → (k : ℕ) × (k < n) × (p k ≡ false)
every_fails n p e =
    let q : ℕ → Bool = λ k. not (p k) in
    ⊎_elim
    (λ (t : any n q ≡ true). let w = any_at n q t in (w.0, w.1, not-true (p w.0) w.2))
    (λ (f : any n q ≡ false). not_both (every n p) (every_yes n p (λ k h. not-false (p k) (any_none n q f k h))) e)
    (decide (any n q))

-- the same tests give the same
pub every_same : (n : ℕ) (p q : ℕ → Bool) → ((k : ℕ) → k < n → p k ≡ q k) → every n p ≡ every n q
unfolding every
every_same zero p q h = refl
every_same (suc n) p q h = ap₂ ◌&&◌ (every_same n p q (λ k l. h k (omega arith))) (h n (omega arith))

pub any_same : (n : ℕ) (p q : ℕ → Bool) → ((k : ℕ) → k < n → p k ≡ q k) → any n p ≡ any n q
unfolding any
any_same zero p q h = refl
any_same (suc n) p q h = ap₂ ◌||◌ (any_same n p q (λ k l. h k (omega arith))) (h n (omega arith))

-- ---- least

-- what least_from a n p comes to: none of the n numbers, or the first of them for which p holds
pub record Least (a n : ℕ) (p : ℕ → Bool) (k : ℕ) : Type 0 where
  pub from : a ≤ k
  pub upto : k ≤ a + n
  pub before : (j : ℕ) → a ≤ j → j < k → p j ≡ false
  pub here : k < a + n → p k ≡ true

pub least_from_is : (a n : ℕ) (p : ℕ → Bool) → Least a n p (least_from a n p)
unfolding least_from
least_from_is a zero p = record { from = le_refl a; upto = omega arith; before = λ j f l. absurd (omega arith); here = λ l. absurd (omega arith) }
least_from_is a (suc n) p = go (p a) refl (least_from_is (suc a) n p)
  where
    go : (b : Bool) → p a ≡ b → Least (suc a) n p (least_from (suc a) n p) → Least a (suc n) p (cond b a (least_from (suc a) n p))
    go true e r = record { from = le_refl a; upto = omega arith; before = λ j f l. absurd (omega arith); here = λ l. e }
    go false e r = record {
      from = omega (arith, r.from);
      upto = omega (arith, r.upto);
      before = λ j f l. ⊎_elim (λ (q : a ≡ j). ap p (sym q) ∙ e) (λ (q : a < j). r.before j q l) (eq-or-lt_of_le f);
      here = λ l. r.here (omega arith);
    }

pub least_is : (n : ℕ) (p : ℕ → Bool) → Least 0 n p (least n p)
least_is n p = least_from_is 0 n p

-- ---- total

pub total_same : (n : ℕ) (f g : ℕ → ℕ) → ((k : ℕ) → k < n → f k ≡ g k) → total n f ≡ total n g
unfolding total
total_same zero f g h = refl
total_same (suc n) f g h = ap₂ ◌+◌ (total_same n f g (λ k l. h k (omega arith))) (h n (omega arith))

total_first : (n : ℕ) (f : ℕ → ℕ) → total (suc n) f ≡ f 0 + total n (λ k. f (suc k))
unfolding total
total_first zero f = omega arith
total_first (suc n) f = omega (arith, total_first n f)

-- at most as many as there are
pub count_le : (n : ℕ) (p : ℕ → Bool) → count n p ≤ n
unfolding total
count_le zero p = omega arith
count_le (suc n) p = go (p n) (count_le n p)
  where
    go : (b : Bool) → count n p ≤ n → count n p + cond b 1 0 ≤ suc n
    go true h = omega arith
    go false h = omega arith

-- as many as there are, where it holds for each
pub count_all : (n : ℕ) (p : ℕ → Bool) → ((k : ℕ) → k < n → p k ≡ true) → count n p ≡ n
unfolding total
count_all zero p h = refl
count_all (suc n) p h = rw (h n (omega arith)) (omega (arith, count_all n p (λ k l. h k (omega arith))))

-- none, where it fails for each
pub count_none : (n : ℕ) (p : ℕ → Bool) → ((k : ℕ) → k < n → p k ≡ false) → count n p ≡ 0
unfolding total
count_none zero p h = refl
count_none (suc n) p h = rw (h n (omega arith)) (omega (arith, count_none n p (λ k l. h k (omega arith))))

-- at most one, where it holds for one alone
pub count_one : (n : ℕ) (p : ℕ → Bool) → ((j k : ℕ) → p j ≡ true → p k ≡ true → j ≡ k) → count n p ≤ 1
unfolding total
count_one zero p h = omega arith
count_one (suc n) p h = go (p n) refl (count_one n p h)
  where
    go : (b : Bool) → p n ≡ b → count n p ≤ 1 → count n p + cond b 1 0 ≤ 1
    go true e l = let z = count_none n p (λ k g. fails (p k) (λ q. let a = h k n q e in omega arith)) in omega arith
    go false e l = omega arith

-- of two tests together, at most as many as of both by themselves
pub count_or : (n : ℕ) (p q : ℕ → Bool) → count n (λ k. p k || q k) ≤ count n p + count n q
unfolding total
count_or zero p q = omega arith
count_or (suc n) p q = go (p n) (q n) (count_or n p q)
  where
    go : (a b : Bool) → count n (λ k. p k || q k) ≤ count n p + count n q → count n (λ k. p k || q k) + cond (a || b) 1 0 ≤ (count n p + cond a 1 0) + (count n q + cond b 1 0)
    go true true l = omega arith
    go true false l = omega arith
    go false true l = omega arith
    go false false l = omega arith

-- a sum of numbers, each at most b, and 0 where p fails
pub total_le : (n b : ℕ) (p : ℕ → Bool) (f : ℕ → ℕ) → ((k : ℕ) → k < n → f k ≤ cond (p k) b 0) → total n f ≤ b * count n p
unfolding total
total_le zero b p f h = omega arith
total_le (suc n) b p f h = go (p n) (h n (omega arith)) (total_le n b p f (λ k l. h k (omega arith)))
  where
    go : (c : Bool) → f n ≤ cond c b 0 → total n f ≤ b * count n p → total n f + f n ≤ b * (count n p + cond c 1 0)
    go true k l = omega (arith, mul-add b (count n p) 1)
    go false k l = omega arith

-- ---- signed numbers

pub eq_z_true : (a b : ℤ) → eq_z a b ≡ true → a ≡ b
eq_z_true (pos a) (pos b) e = ap pos (eqb-true a b e)
eq_z_true (pos a) (negsuc b) e = absurd (false≢true e)
eq_z_true (negsuc a) (pos b) e = absurd (false≢true e)
eq_z_true (negsuc a) (negsuc b) e = ap negsuc (eqb-true a b e)

pub eq_z_same : (a : ℤ) → eq_z a a ≡ true
eq_z_same (pos a) = eq-eqb a a refl
eq_z_same (negsuc a) = eq-eqb a a refl

-- at least h: not less than h
pub at_least : (h : ℕ) (z : ℤ) → le_z (pos h) z ≡ not (lt_z z (pos h))
at_least h (pos n) = both_ways (leb h n) (not (ltb n h)) (λ e. ap not (le-ltb n h (leb-true h n e))) (λ e. le-leb h n (ltb-false n h (not-true (ltb n h) e)))
at_least h (negsuc n) = refl

-- ---- tab

pub length-tab_from : {A : Type 0} (a n : ℕ) (f : ℕ → A) → length (tab_from a n f) ≡ n
unfolding tab_from
length-tab_from a zero f = refl
length-tab_from a (suc n) f = ap suc (length-tab_from (suc a) n f)

pub get_or-tab_from : {A : Type 0} (a n k : ℕ) (f : ℕ → A) (d : A) → k < n → get_or (tab_from a n f) k d ≡ f (a + k)
unfolding tab_from
get_or-tab_from a zero k f d h = absurd (omega arith)
get_or-tab_from a (suc n) zero f d h = ap f (let q : a ≡ a + 0 = omega arith in q)
get_or-tab_from a (suc n) (suc k) f d h = get_or-tab_from (suc a) n k f d (omega arith) ∙ ap f (let q : suc a + k ≡ a + suc k = omega arith in q)

pub length-tab : {A : Type 0} (n : ℕ) (f : ℕ → A) → length (tab n f) ≡ n
length-tab n f = length-tab_from 0 n f

pub get_or-tab : {A : Type 0} (n k : ℕ) (f : ℕ → A) (d : A) → k < n → get_or (tab n f) k d ≡ f k
get_or-tab n k f d h = get_or-tab_from 0 n k f d h ∙ ap f (let q : 0 + k ≡ k = omega arith in q)

-- ---- keep

module _ {A : Type 0} (p : A → Bool) where
  pub keep_mem : {a : A} (l : List A) → Memᴰ a l → p a ≡ true → Memᴰ a (keep p l)
  unfolding keep
  keep_mem [] m e = absurd (Memᴰ.not-nil m)
  keep_mem {a} (x ∷ l) m e = go (p x) refl (keep_mem l) (Memᴰ.cases_cons m)
    where
      go : (b : Bool) → p x ≡ b → (Memᴰ a l → p a ≡ true → Memᴰ a (keep p l)) → (a ≡ x) ⊎ Memᴰ a l → Memᴰ a (put b x (keep p l))
      go true q r c = ⊎_elim (λ z. Memᴰ.head z) (λ k. Memᴰ.tail (r k e)) c
      go false q r c = ⊎_elim (λ (z : a ≡ x). not_both (p a) e (ap p z ∙ q)) (λ k. r k e) c

  pub mem_keep : {a : A} (l : List A) → Memᴰ a (keep p l) → Memᴰ a l × (p a ≡ true)
  unfolding keep
  mem_keep [] m = absurd (Memᴰ.not-nil m)
  mem_keep {a} (x ∷ l) m = go (p x) refl m (mem_keep l)
    where
      go : (b : Bool) → p x ≡ b → Memᴰ a (put b x (keep p l)) → (Memᴰ a (keep p l) → Memᴰ a l × (p a ≡ true)) → Memᴰ a (x ∷ l) × (p a ≡ true)
      go true q m r = ⊎_elim (λ (z : a ≡ x). (Memᴰ.head z, ap p z ∙ q)) (λ k. (Memᴰ.tail (r k).0, (r k).1)) (Memᴰ.cases_cons m)
      go false q m r = (Memᴰ.tail (r m).0, (r m).1)

  -- the items for which p holds, counted by their places
  pub keep_count : (l : List A) (d : A) → count (length l) (λ k. p (get_or l k d)) ≡ length (keep p l)
  unfolding keep total
  keep_count [] d = refl
  keep_count (x ∷ l) d = total_first (length l) (λ k. cond (p (get_or (x ∷ l) k d)) 1 0) ∙ go (p x) (keep_count l d)
    where
      go : (b : Bool) → count (length l) (λ k. p (get_or l k d)) ≡ length (keep p l) → cond b 1 0 + count (length l) (λ k. p (get_or l k d)) ≡ length (put b x (keep p l))
      go true e = omega arith
      go false e = omega arith

pub mem_get_or : {A : Type 0} (l : List A) (k : ℕ) (d : A) → k < length l → Memᴰ (get_or l k d) l
mem_get_or [] k d h = absurd (omega arith)
mem_get_or (x ∷ l) zero d h = Memᴰ.head refl
mem_get_or (x ∷ l) (suc k) d h = Memᴰ.tail (mem_get_or l k d (omega arith))

-- ---- all

module _ {A : Type 0} (p : A → Bool) where
  pub all_at : {a : A} (l : List A) → all p l ≡ true → Memᴰ a l → p a ≡ true
  unfolding all
  all_at [] e m = absurd (Memᴰ.not-nil m)
  all_at {a} (x ∷ l) e m =
      ⊎_elim
      (λ (z : a ≡ x). ap p z ∙ and_right (all p l) (p x) e)
      (λ k. all_at l (and_left (all p l) (p x) e) k)
      (Memᴰ.cases_cons m)

  pub all_yes : (l : List A) → ((a : A) → Memᴰ a l → p a ≡ true) → all p l ≡ true
  unfolding all
  all_yes [] h = refl
  all_yes (x ∷ l) h = and_both (all_yes l (λ a m. h a (Memᴰ.tail m))) (h x (Memᴰ.head refl))

  pub all_fails : (l : List A) → all p l ≡ false → (a : A) × Memᴰ a l × (p a ≡ false)
  unfolding all
  all_fails [] e = absurd (true≢false e)
  all_fails (x ∷ l) e =
      ⊎_elim
      (λ (q : all p l ≡ false). let w = all_fails l q in (w.0, Memᴰ.tail w.1, w.2))
      (λ (q : p x ≡ false). (x, Memᴰ.head refl, q))
      (and_fails (all p l) (p x) e)

-- ---- chain

module _ {A : Type 0} (f : ℕ → List A) where
  pub chain_mem : {a : A} (n k : ℕ) → k < n → Memᴰ a (f k) → Memᴰ a (chain n f)
  unfolding chain
  chain_mem zero k h m = absurd (omega arith)
  chain_mem {a} (suc n) k h m =
      ⊎_elim
      (λ (q : k ≡ n). Memᴰ.append_right (chain n f) (subst (λ j. Memᴰ a (f j)) q m))
      (λ (q : k < n). Memᴰ.append_left (f n) (chain_mem n k q m))
      (eq-or-lt_of_le (le_of_suc-le-suc h))

  pub mem_chain : {a : A} (n : ℕ) → Memᴰ a (chain n f) → (k : ℕ) × (k < n) × Memᴰ a (f k)
  unfolding chain
  mem_chain zero m = absurd (Memᴰ.not-nil m)
  mem_chain {a} (suc n) m =
      ⊎_elim
      (λ (l : Memᴰ a (chain n f)). let w = mem_chain n l in let h : w.0 < suc n = omega (arith, w.1) in (w.0, h, w.2))
      (λ r. (n, omega arith, r))
      (Memᴰ.append_cases (chain n f) m)
