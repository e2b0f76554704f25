-- Tests over numbers and lists, all of them computed. What a reader of mathematics writes as "for every", "some", "how many".
use Rattle.std.specs.Prelude.{Bool, true, false, cond, ◌&&◌, ◌||◌, List, [], ◌∷◌, ◌++◌, ℕ, zero, suc, ◌+◌, leb, eqb, ℤ, pos, negsuc}

-- p holds for every number below n
unfoldable pub every : ℕ → (ℕ → Bool) → Bool
every zero p = true
every (suc n) p = every n p && p n

-- p holds for some number below n
unfoldable pub any : ℕ → (ℕ → Bool) → Bool
any zero p = false
any (suc n) p = any n p || p n

-- the sum f 0 + f 1 + .. of n numbers
unfoldable pub total : ℕ → (ℕ → ℕ) → ℕ
total zero f = 0
total (suc n) f = total n f + f n

-- for how many numbers below n does p hold
abbrev pub count : ℕ → (ℕ → Bool) → ℕ
count n p = total n (λ k. cond (p k) 1 0)

-- the least of the n numbers from a for which p holds, and a + n where there is none
unfoldable pub least_from : ℕ → ℕ → (ℕ → Bool) → ℕ
least_from a zero p = a
least_from a (suc n) p = cond (p a) a (least_from (suc a) n p)

-- the least number below n for which p holds, and n where there is none
abbrev pub least : ℕ → (ℕ → Bool) → ℕ
least n p = least_from 0 n p

-- n is one of a .. b
abbrev pub between : ℕ → ℕ → ℕ → Bool
between a b n = leb a n && leb n b

-- two signed numbers are the same
abbrev pub eq_z : ℤ → ℤ → Bool
eq_z (pos a) (pos b) = eqb a b
eq_z (pos a) (negsuc b) = false
eq_z (negsuc a) (pos b) = false
eq_z (negsuc a) (negsuc b) = eqb a b

-- the list f a, f (a + 1), .. of n items
unfoldable pub tab_from : {A : Type 0} → ℕ → ℕ → (ℕ → A) → List A
tab_from a zero f = []
tab_from a (suc n) f = f a ∷ tab_from (suc a) n f

-- the list f 0, f 1, .. of n items
abbrev pub tab : {A : Type 0} → ℕ → (ℕ → A) → List A
tab n f = tab_from 0 n f

abbrev pub put : {A : Type 0} → Bool → A → List A → List A
put true a l = a ∷ l
put false a l = l

-- the items of a list for which p holds, in their order
unfoldable pub keep : {A : Type 0} → (A → Bool) → List A → List A
keep p [] = []
keep p (a ∷ l) = put (p a) a (keep p l)

-- p holds for every item of a list
unfoldable pub all : {A : Type 0} → (A → Bool) → List A → Bool
all p [] = true
all p (a ∷ l) = all p l && p a

-- the lists f 0, f 1, .. f (n - 1), one behind the other
unfoldable pub chain : {A : Type 0} → ℕ → (ℕ → List A) → List A
chain zero f = []
chain (suc n) f = chain n f ++ f n
