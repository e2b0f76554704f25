-- The staircase's step on the stairs that the code holds: where they are cut, which one is put in, which of them leave. Assumes nothing.
use mathlib.Core.Path.{◌≡◌, refl, sym, ap, ◌∙◌}
use mathlib.Core.Bool.{Bool, true, false, ◌&&◌, and-false}
use mathlib.Core.Logic.{⊎_elim}
use mathlib.Core.List.{List, [], ◌∷◌, ◌++◌, append_assoc, append-nil}
use Prim.Native.Nat.{ℕ, zero, suc, ◌+◌, ◌-◌, ◌≤◌, ◌<◌}
use native.Mathlib.Nat.{eq-or-lt_of_le}
use native.Mathlib.Omega.{arith}
use lib.ListN.{length, get_or, set, take, drop}
use lib.Dec.{ltb}
use borrow.Author.Tests.{lt-ltb, le-ltb}
use Rattle.std.proofs.lemmas.List.{length-take-le, take-take, get_or-take, take_more, take_more_set}
use Rattle.rules.specs.Tests.{put}
use Rattle.rules.proofs.Tests.{lt_or_le}
use Rattle.listing.specs.declared.entry.Entry.{Entry}
use Rattle.listing.specs.declared.stairs.Stair.{Stair}
use Rattle.listing.specs.Row.{no_stair, pushed, leaving, Rises, CutAt}
use Rattle.listing.proofs.StairLaws.{Above, Rising, pushed_low, pushed_high, none_leaves}

-- ---- heights that rise, by index

above_at : (v : ℕ) (l : List Stair) → Above v l → (j : ℕ) → j < length l → v < (get_or l j no_stair).height
unfolding Above
above_at v [] a j p = absurd (omega arith)
above_at v (s ∷ t) a zero p = a.0
above_at v (s ∷ t) a (suc j) p = above_at v t a.1 j (omega arith)

pub rises : (l : List Stair) → Rising l → Rises l
unfolding Rising
rises [] r i j p q = absurd (omega arith)
rises (s ∷ t) r i zero p q = absurd (omega arith)
rises (s ∷ t) r zero (suc j) p q = above_at s.height t r.0 j (omega arith)
rises (s ∷ t) r (suc i) (suc j) p q = rises t r.1 i j (omega arith) (omega arith)

-- ---- cut

-- the stair below the cut is lower, and so are those below it
pub cut_at : (s : List Stair) (v k : ℕ) → Rises s → k ≤ length s → (0 < k → (get_or s (k - 1) no_stair).height < v) → (k < length s → v ≤ (get_or s k no_stair).height) → CutAt s v k
cut_at s v k r w l h = record {
  within = w;
  low = λ j p. ⊎_elim
      (λ (e : suc j ≡ k). let q : k - 1 ≡ j = omega arith in rw q at (l (omega arith)))
      (λ (q : suc j < k). omega (arith, r j (k - 1) (omega arith) (omega arith), l (omega arith)))
      (eq-or-lt_of_le p);
  high = h;
}

-- ---- push

cut_tail : {s : Stair} {t : List Stair} {v k : ℕ} → CutAt (s ∷ t) v (suc k) → CutAt t v k
cut_tail c = record { within = omega (arith, c.within); low = λ j p. c.low (suc j) (omega arith); high = λ p. c.high (omega arith) }

-- where v is 0 no stair is left
pushed_zero : (x : ℕ) (t : List Stair) → pushed false 0 x t ≡ []
unfolding pushed
pushed_zero x [] = refl
pushed_zero x (s ∷ t) = pushed_high false 0 x s t (omega arith)

pushed_cut : (l : List Stair) (v k x a : ℕ) → CutAt l v k → (k < length l → a ≡ (get_or l k no_stair).left) → (length l ≤ k → a ≡ x)
    → pushed true v x l ≡ take k l ++ (record { left = a; height = v } ∷ [])
unfolding pushed
pushed_cut [] v zero x a c p q = rw (q (omega arith))
pushed_cut (s ∷ t) v zero x a c p q = pushed_high true v x s t (c.high (omega arith)) ∙ rw (p (omega arith))
pushed_cut [] v (suc k) x a c p q = absurd (omega (arith, c.within))
pushed_cut (s ∷ t) v (suc k) x a c p q =
    pushed_low true v x s t (c.low 0 (omega arith))
    ∙ ap (λ (m : List Stair). s ∷ m) (pushed_cut t v k x a (cut_tail c) (λ l. p (omega arith)) (λ l. q (omega arith)))

module _ (s : List Stair) (n v k x : ℕ) (c : CutAt (take n s) v k) where
  pub push_none : v ≡ 0 → take k s ≡ pushed (ltb 0 v) v x (take n s)
  push_none z =
      let e : k ≡ 0 = ⊎_elim (λ (p : 0 < k). absurd (omega (arith, c.low 0 p))) (λ (p : k ≤ 0). omega arith) (lt_or_le 0 k) in
      rw (e, z) (sym (pushed_zero x (take n s)))

  pub push_some : (a : ℕ) → n ≤ length s → 0 < v → k < length s → (k < n → a ≡ (get_or s k no_stair).left) → (n ≤ k → a ≡ x)
      → take (k + 1) (set s k (record { left = a; height = v })) ≡ pushed (ltb 0 v) v x (take n s)
  push_some a h p i q r =
      let long = length-take-le n s h in
      take_more_set s k _ i
      ∙ ap (λ (l : List Stair). l ++ (record { left = a; height = v } ∷ [])) (sym (take-take k n s (omega (arith, c.within))))
      ∙ rw (lt-ltb 0 v p)
      (sym (pushed_cut (take n s) v k x a c (λ l. q (omega arith) ∙ ap (λ (t : Stair). t.left) (sym (get_or-take n s k no_stair (omega arith)))) (λ l. r (omega arith))))

-- ---- emit

-- those that leave stand above the cut
pub leaving_cut : (l : List Stair) (v k e r : ℕ) → CutAt l v k → leaving v e r l ≡ leaving v e r (drop k l)
leaving_cut l v zero e r c = refl
leaving_cut [] v (suc k) e r c = refl
leaving_cut (s ∷ t) v (suc k) e r c = none_leaves v e r s t (omega (arith, c.low 0 (omega arith))) ∙ leaving_cut t v k e r (cut_tail c)

put_append : {A : Type 0} (c : Bool) (a : A) (l m : List A) → put c a (l ++ m) ≡ put c a l ++ m
put_append true a l m = refl
put_append false a l m = refl

leaving-append : (v e r : ℕ) (l m : List Stair) → leaving v e r (l ++ m) ≡ leaving v e r l ++ leaving v e r m
unfolding leaving
leaving-append v e r [] m = refl
leaving-append v e r (s ∷ t) m = rw (leaving-append v e r t m) (put_append (ltb v s.height && ltb s.left e) _ (leaving v e r t) (leaving v e r m))

-- of the stairs l the first i have been looked at, and those of them that leave stand behind the first n entries
pub record Emitted (l : List Stair) (v e r n : ℕ) (entries₀ entries : List Entry) (m i : ℕ) : Type 0 where
  pub few : m ≤ n + i
  pub out : take m entries ≡ take n entries₀ ++ leaving v e r (take i l)

pub emit_start : (l : List Stair) (v e r n : ℕ) (entries : List Entry) → Emitted l v e r n entries entries n 0
unfolding leaving
emit_start l v e r n entries = record { few = omega arith; out = sym (append-nil (take n entries)) }

module _ {l : List Stair} {v e r n : ℕ} {entries₀ entries : List Entry} {m i : ℕ} (h : Emitted l v e r n entries₀ entries m i) (p : i < length l) where
  abbrev stair : Stair
  stair = get_or l i no_stair

  more : (t : List Entry) → leaving v e r (stair ∷ []) ≡ t → (take n entries₀ ++ leaving v e r (take i l)) ++ t ≡ take n entries₀ ++ leaving v e r (take (i + 1) l)
  more t q =
      append_assoc (take n entries₀) (leaving v e r (take i l)) t
      ∙ ap (λ u. take n entries₀ ++ u) (ap (λ u. leaving v e r (take i l) ++ u) (sym q) ∙ sym (leaving-append v e r (take i l) (stair ∷ [])) ∙ ap (leaving v e r) (sym (take_more l i no_stair p)))

  skip : leaving v e r (stair ∷ []) ≡ [] → Emitted l v e r n entries₀ entries m (i + 1)
  skip q = record { few = omega (arith, h.few); out = h.out ∙ sym (append-nil _) ∙ more [] q }

  pub emit_low : stair.height ≤ v → Emitted l v e r n entries₀ entries m (i + 1)
  unfolding leaving
  emit_low q = skip (none_leaves v e r stair [] q)

  pub emit_unheld : e ≤ stair.left → Emitted l v e r n entries₀ entries m (i + 1)
  unfolding leaving
  emit_unheld q = skip (rw (le-ltb stair.left e q, and-false))

  pub emit_put : v < stair.height → stair.left < e → m < length entries
      → Emitted l v e r n entries₀ (set entries m (record { left = stair.left; right = r; height = stair.height })) (m + 1) (i + 1)
  unfolding leaving
  emit_put a b f =
      let gone : Entry = record { left = stair.left; right = r; height = stair.height } in
      record {
        few = omega (arith, h.few);
        out = take_more_set entries m gone f ∙ ap (λ u. u ++ (gone ∷ [])) h.out ∙ more (gone ∷ []) (rw (lt-ltb v stair.height a, lt-ltb stair.left e b));
      }
