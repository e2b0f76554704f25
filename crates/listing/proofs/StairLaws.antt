-- The staircase: how the stairs over one cell more come from those over the cells before, and which of them leave as entries.
-- Assumes nothing.
use mathlib.Core.Path.{◌≡◌, refl, sym, ap, ◌∙◌}
use mathlib.Core.Logic.{⊎_elim}
use mathlib.Core.Bool.{Bool, true, false, cond, ◌&&◌, ◌||◌, or-true, or-false}
use mathlib.Core.List.{List, [], ◌∷◌, ◌++◌}
use Prim.Native.Nat.{ℕ, zero, suc, ◌+◌, ◌-◌, ◌≤◌, ◌<◌, min}
use native.Mathlib.Nat.{le_refl, le_trans, add-zero, add-suc}
use native.Mathlib.Numerals.{sub-one}
use native.Mathlib.Omega.{arith}
use lib.ListN.{length, length-append}
use lib.Dec.{ltb}
use borrow.Author.Tests.{ltb-true, lt-ltb, le-ltb}
use Rattle.rules.specs.Tests.{put}
use Rattle.rules.proofs.Tests.{lt_or_le, decide}
use Rattle.listing.specs.declared.entry.Entry.{Entry}
use Rattle.listing.specs.declared.stairs.Stair.{Stair}
use Rattle.listing.specs.Row.{least, before, some, from_left, row_entries, entries_at, stairs_from, stairs, pushed, leaving, reach}

-- ---- the least of a stretch

least_more : (f : ℕ → ℕ) (l k : ℕ) → least f l (suc k) ≡ min (least f l k) (f (l + suc k))
unfolding least
least_more f l zero = ap (λ (n : ℕ). min (f l) (f n)) (omega arith)
least_more f l (suc k) =
    let ih : least f (suc l) (suc k) ≡ min (least f (suc l) k) (f (suc l + suc k)) = least_more f (suc l) k in
    let e : f (suc l + suc k) ≡ f (l + suc (suc k)) = ap f (omega arith) in
    omega arith

-- the least of the height left of l and the n heights from l on
unfoldable pub low : (ℕ → ℕ) → ℕ → ℕ → ℕ
low f l zero = before f l
low f l (suc k) = min (before f l) (least f l k)

low_next : (f : ℕ → ℕ) (l k : ℕ) → low f (suc l) k ≡ least f l k
unfolding low before least
low_next f l zero = refl
low_next f l (suc k) = refl

low_zero : (f : ℕ → ℕ) (k : ℕ) → low f 0 k ≡ 0
unfolding low before
low_zero f zero = refl
low_zero f (suc k) = omega arith

-- ---- heights rise

unfoldable pub Above : ℕ → List Stair → Type 0
Above v [] = Unit {0}
Above v (s ∷ t) = (v < s.height) × Above v t

unfoldable pub Rising : List Stair → Type 0
Rising [] = Unit {0}
Rising (s ∷ t) = Above s.height t × Rising t

above_weak : (v w : ℕ) (t : List Stair) → v ≤ w → Above w t → Above v t
unfolding Above
above_weak v w [] h a = tt
above_weak v w (s ∷ t) h a = (le_trans (omega arith) a.0, above_weak v w t h a.1)

above_keep : (v : ℕ) (c : Bool) (s : Stair) (t : List Stair) → (c ≡ true → v < s.height) → Above v t → Above v (put c s t)
unfolding Above
above_keep v true s t h a = (h refl, a)
above_keep v false s t h a = a

stairs_above : (f : ℕ → ℕ) (l n : ℕ) → Above (low f l n) (stairs_from f l n)
unfolding stairs_from Above
stairs_above f l zero = tt
stairs_above f l (suc k) =
    above_keep (low f l (suc k)) (ltb (before f l) (least f l k)) (record { left = l; height = least f l k }) (stairs_from f (suc l) k) (λ e. unfold low in (omega (arith, ltb-true (before f l) (least f l k) e)))
    (above_weak (low f l (suc k)) (low f (suc l) k) (stairs_from f (suc l) k) (unfold low in (omega (arith, low_next f l k))) (stairs_above f (suc l) k))

rising_keep : (c : Bool) (s : Stair) (t : List Stair) → Above s.height t → Rising t → Rising (put c s t)
unfolding Rising
rising_keep true s t a r = (a, r)
rising_keep false s t a r = r

pub stairs_rising : (f : ℕ → ℕ) (l n : ℕ) → Rising (stairs_from f l n)
unfolding stairs_from Rising
stairs_rising f l zero = tt
stairs_rising f l (suc k) =
    rising_keep (ltb (before f l) (least f l k)) (record { left = l; height = least f l k }) (stairs_from f (suc l) k) (rw low_next at (stairs_above f (suc l) k)) (stairs_rising f (suc l) k)

-- ---- one cell more

pub pushed_low : (c : Bool) (v x : ℕ) (s : Stair) (t : List Stair) → s.height < v → pushed c v x (s ∷ t) ≡ s ∷ pushed c v x t
unfolding pushed
pushed_low c v x s t h = rw (lt-ltb s.height v h)

pub pushed_high : (c : Bool) (v x : ℕ) (s : Stair) (t : List Stair) → v ≤ s.height → pushed c v x (s ∷ t) ≡ put c (record { left = s.left; height = v }) []
unfolding pushed
pushed_high c v x s t h = rw (le-ltb s.height v h)

none_pushed : (v w x : ℕ) (t : List Stair) → v ≤ w → Above w t → pushed false v x t ≡ []
unfolding pushed Above
none_pushed v w x [] h a = refl
none_pushed v w x (s ∷ t) h a = pushed_high false v x s t (omega (arith, a.0))

-- a stair lower than v in front
push_low : (v x : ℕ) (c : Bool) (s : Stair) (t : List Stair) → s.height < v → put c s (pushed true v x t) ≡ pushed true v x (put c s t)
push_low v x true s t h = sym (pushed_low true v x s t h)
push_low v x false s t h = refl

-- a stair that is not lower, where no stair of height v is wanted
push_high : (v x : ℕ) (c : Bool) (s : Stair) (t : List Stair) → v ≤ s.height → Above s.height t → pushed false v x (put c s t) ≡ []
push_high v x true s t h a = pushed_high false v x s t h
push_high v x false s t h a = none_pushed v s.height x t h a

-- p is the height left of l, h the least from l on and h' the same with v, t the stairs from l + 1 on and u the same with v
module _ (p h h' v x l : ℕ) (t u : List Stair) (e : h' ≡ min h v) (a : Above h t) (q : u ≡ pushed (ltb h v) v x t) where
  abbrev Stepped : Type 0
  Stepped = put (ltb p h') (record { left = l; height = h' }) u ≡ pushed (ltb (min p h) v) v x (put (ltb p h) (record { left = l; height = h }) t)

  lower : h < v → Stepped
  lower k =
      let e' : h' ≡ h = omega arith in
      rw (q, e', lt-ltb h v k, lt-ltb (min p h) v (omega arith)) (push_low v x (ltb p h) _ t k)

  higher : v ≤ h → Stepped
  higher k =
      let e' : h' ≡ v = omega arith in
      let n : u ≡ [] = q ∙ rw (le-ltb h v k) (none_pushed v h x t k a) in
      ⊎_elim
      (λ (m : p < v). rw (n, e', lt-ltb p v m, lt-ltb p h (omega arith), lt-ltb (min p h) v (omega arith)) (sym (pushed_high true v x (record { left = l; height = h }) t k)))
      (λ (m : v ≤ p). rw (n, e', le-ltb p v m, le-ltb (min p h) v (omega arith)) (sym (push_high v x (ltb p h) (record { left = l; height = h }) t k a)))
      (lt_or_le p v)

  step : Stepped
  step = ⊎_elim lower higher (lt_or_le h v)

-- THE LAW OF THE STEP, from l on
push_from : (f : ℕ → ℕ) (l n x : ℕ) → l + n ≡ x
    → stairs_from f l (suc n) ≡ pushed (ltb (low f l n) (f x)) (f x) x (stairs_from f l n)
unfolding stairs_from low least pushed
push_from f l zero x e =
    ap (λ (y : ℕ). put (ltb (before f l) (f y)) (record { left = y; height = f y }) []) (omega arith)
push_from f l (suc k) x e =
    step (before f l) (least f l k) (least f l (suc k)) (f x) x l (stairs_from f (suc l) k) (stairs_from f (suc l) (suc k))
    (rw (← e) (least_more f l k))
    (rw low_next at (stairs_above f (suc l) k))
    (rw (← low_next f l k) (push_from f (suc l) k x (omega arith)))

-- THE LAW OF THE STEP
pub push_law : (f : ℕ → ℕ) (x : ℕ) → stairs f (suc x) ≡ pushed (ltb 0 (f x)) (f x) x (stairs f x)
push_law f x = rw low_zero at (push_from f 0 x x (omega arith))

-- ---- which stairs leave as entries

pub reach_le : (b : ℕ → Bool) (x : ℕ) → reach b x ≤ x
unfolding reach
reach_le b zero = le_refl 0
reach_le b (suc x) = ⊎_elim (λ e. rw e (le_refl (suc x))) (λ e. rw e (omega (arith, reach_le b x))) (decide (b x))

some_reach : (b : ℕ → Bool) (l k : ℕ) → some b l k ≡ ltb l (reach b (suc (l + k)))
unfolding some reach
some_reach b l zero =
    rw add-zero (⊎_elim (λ e. rw e (sym (lt-ltb l (suc l) (omega arith)))) (λ e. rw e (sym (le-ltb l (reach b l) (reach_le b l)))) (decide (b l)))
some_reach b l (suc k) = rw (some_reach b l k, add-suc) (go (b (suc (l + k))))
  where
    go : (t : Bool) → (ltb l (reach b (suc (l + k))) || t) ≡ ltb l (cond t (suc (suc (l + k))) (reach b (suc (l + k))))
    go true = or-true (ltb l (reach b (suc (l + k)))) ∙ sym (lt-ltb l (suc (suc (l + k))) (omega arith))
    go false = or-false (ltb l (reach b (suc (l + k))))

leave_one : (c d : Bool) (s : Stair) (v e r : ℕ) (t : List Stair) (u : List Entry) → d ≡ ltb s.left e → u ≡ leaving v e r t
    → put (c && (ltb v s.height && d)) (record { left = s.left; right = r; height = s.height }) u ≡ leaving v e r (put c s t)
unfolding leaving
leave_one true d s v e r t u p h = rw (p, h)
leave_one false d s v e r t u p h = h

-- THE LAW OF THE ENTRIES, from l on
leave_from : (f : ℕ → ℕ) (b : ℕ → Bool) (r l n : ℕ) → l + n ≡ suc r
    → from_left f b r l n ≡ leaving (f (suc r)) (reach b (suc r)) r (stairs_from f l n)
unfolding from_left stairs_from leaving
leave_from f b r l zero e = refl
leave_from f b r l (suc k) e =
    leave_one (ltb (before f l) (least f l k)) (some b l k) (record { left = l; height = least f l k }) (f (suc r)) (reach b (suc r)) r
    (stairs_from f (suc l) k) (from_left f b r (suc l) k)
    (rw (← e, add-suc) (some_reach b l k))
    (leave_from f b r (suc l) k (omega arith))

-- THE LAW OF THE ENTRIES
pub leave_law : (f : ℕ → ℕ) (b : ℕ → Bool) (r : ℕ) → entries_at f b r ≡ leaving (f (suc r)) (reach b (suc r)) r (stairs f (suc r))
leave_law f b r = leave_from f b r 0 (suc r) (omega arith)

-- ---- how many

keep_le : {A : Type 0} (c : Bool) (a : A) (l : List A) → length (put c a l) ≤ suc (length l)
keep_le true a l = le_refl _
keep_le false a l = omega arith

leaving_le : (v e r : ℕ) (t : List Stair) → length (leaving v e r t) ≤ length t
unfolding leaving
leaving_le v e r [] = le_refl 0
leaving_le v e r (s ∷ t) = omega (arith, keep_le {A = Entry} (ltb v s.height && ltb s.left e) (record { left = s.left; right = r; height = s.height }) (leaving v e r t), leaving_le v e r t)

pub none_leaves : (v e r : ℕ) (s : Stair) (t : List Stair) → s.height ≤ v → leaving v e r (s ∷ t) ≡ leaving v e r t
unfolding leaving
none_leaves v e r s t h = rw (le-ltb v s.height h)

-- what leaves and what stays are at most one more than there were
step_le : (c : Bool) (v e r x : ℕ) (t : List Stair) → length (leaving v e r t) + length (pushed c v x t) ≤ suc (length t)
step_le c v e r x [] = unfold leaving pushed in (omega (arith, keep_le {A = Stair} c (record { left = x; height = v }) []))
step_le c v e r x (s ∷ t) =
    let ih = step_le c v e r x t in
    ⊎_elim
    (λ (h : s.height < v). rw (none_leaves v e r s t (omega arith), pushed_low c v x s t h) (omega (arith, ih)))
    (λ (h : v ≤ s.height). rw (pushed_high c v x s t h) (omega (arith, leaving_le v e r (s ∷ t), keep_le {A = Stair} c (record { left = s.left; height = v }) [])))
    (lt_or_le s.height v)

-- the entries that ended before cell x, and so left at x or earlier
unfoldable pub ended : (ℕ → ℕ) → (ℕ → Bool) → ℕ → List Entry
ended f b zero = []
ended f b (suc r) = row_entries f b r

-- one step: what leaves at x has its right cell at x - 1
pub ended_law : (f : ℕ → ℕ) (b : ℕ → Bool) (x : ℕ) → ended f b (suc x) ≡ ended f b x ++ leaving (f x) (reach b x) (x - 1) (stairs f x)
unfolding ended row_entries leaving stairs_from
ended_law f b zero = refl
ended_law f b (suc r) = rw (sub-one, leave_law f b r)

pub count_le : (f : ℕ → ℕ) (b : ℕ → Bool) (x : ℕ) → length (ended f b x) + length (stairs f x) ≤ x
unfolding ended stairs_from
count_le f b zero = le_refl 0
count_le f b (suc x) =
    rw (ended_law f b x, push_law f x, length-append)
    (omega (arith, count_le f b x, step_le (ltb 0 (f x)) (f x) (reach b x) (x - 1) x (stairs f x)))
