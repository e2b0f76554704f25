-- DEMAND 3 OVER ANY STEP FUNCTION: blocks one behind the other, their answers, and after each request the history's modules, the weights worked out afresh from them
-- and the frame. f is any step function; where it is asked to be stricter than the rules, it gives what they give, or a refusal. Assumes nothing.
use mathlib.Core.Path.{◌≡◌, refl, sym, ap, ap₂, ◌∙◌, subst}
use mathlib.Core.Bool.{true}
use mathlib.Core.Logic.{⊎_elim}
use mathlib.Core.List.{List, ◌++◌, append_assoc, append-nil}
use Prim.Native.Nat.{ℕ, zero, suc, ◌+◌, ◌*◌, ◌≤◌, ◌<◌}
use native.Mathlib.Nat.{eq-or-lt_of_le, le_of_suc-le-suc}
use native.Mathlib.Omega.{arith}
use lib.IntN.{ℤ}
use lib.ListN.{length, take, drop, length-append, length-drop}
use lib.Seq.{drop-append-le, take-append-le, drop-append-add}
use Rattle.rules.specs.Surface.{free_slot, cell}
use Rattle.rules.specs.Requests.{step_of, answer_of, accepted_one}
use Rattle.rules.specs.Blocks.{State, started, next_by, requests, request, after_by}
use Rattle.rules.specs.declared.Rect.{Rect}
use Rattle.rules.specs.Refusals.{Step, Done}
use Rattle.meaning.specs.Change.{StepOrRefusal, Stricter}
use Rattle.meaning.proofs.Steps.{StateStands, after_by_stands}
use Rattle.demands.specs.History.{noted, history, history_weight}
use Rattle.demands.specs.Told.{Told}
use Rattle.demands.specs.Frame.{Framed}
use Rattle.demands.proofs.Told.{told_none, told_step}
use Rattle.demands.proofs.Afresh.{cell_history}
use Rattle.demands.proofs.Frames.{frame}

-- ---- the requests of two blocks, one behind the other

module _ (b c : List ℕ) (n : ℕ) (whole : length b ≡ 8 * n) where
  pub request_left : (k : ℕ) → k < n → request (b ++ c) k ≡ request b k
  request_left k l =
      ap (take 8) (drop-append-le (8 * k) b c (omega arith))
      ∙ take-append-le 8 (drop (8 * k) b) c (omega (arith, length-drop (8 * k) b))

  pub request_right : (k : ℕ) → request (b ++ c) (n + k) ≡ request c k
  request_right k =
      let e : 8 * (n + k) ≡ length b + 8 * k = omega arith in
      ap (λ m. take 8 (drop m (b ++ c))) e ∙ ap (take 8) (drop-append-add b c (8 * k))

  pub requests_both : requests (b ++ c) ≡ n + requests c
  requests_both =
      let e = length-append b c in
      omega arith

-- what grows by one record a step: record j stands in its own part
module _ (g a : ℕ → List ℕ) (long : (n : ℕ) → length (g n) ≡ 8 * n) (grows : (n : ℕ) → g (suc n) ≡ g n ++ a n) where
  pub record_at : (n j : ℕ) → j < n → request (g n) j ≡ request (a j) 0
  record_at zero j l = absurd (omega arith)
  record_at (suc n) j l =
      ap (λ u. request u j) (grows n)
      ∙ ⊎_elim
      (λ (q : j ≡ n).
      let e : j ≡ n + 0 = omega arith in
      ap (request (g n ++ a n)) e ∙ request_right (g n) (a n) n (long n) 0 ∙ ap (λ k. request (a k) 0) (sym q))
      (λ (q : j < n). request_left (g n) (a n) n (long n) j q ∙ record_at n j q)
      (eq-or-lt_of_le (le_of_suc-le-suc l))

-- the answers and the count so far come first
abbrev pub behind : State → State → State
behind a c = record { weights = c.weights; table = c.table; answers = a.answers ++ c.answers; accepted = a.accepted + c.accepted }

module _ (f : List ℕ → List ℕ → Step) (W H : ℕ) where
  -- ---- cutting

  module _ (b c : List ℕ) (n : ℕ) (whole : length b ≡ 8 * n) (a : State) where
    after_left : (k : ℕ) → k ≤ n → after_by f W H (b ++ c) a k ≡ after_by f W H b a k
    unfolding after_by
    after_left zero l = refl
    after_left (suc k) l = ap₂ (next_by f W H) (request_left b c n whole k (omega arith)) (after_left k (omega arith))

    pub after_right : (k : ℕ) → after_by f W H (b ++ c) a (n + k) ≡ after_by f W H c (after_by f W H b a n) k
    unfolding after_by
    after_right zero = let e : n + 0 ≡ n = omega arith in ap (after_by f W H (b ++ c) a) e ∙ after_left n (omega arith)
    after_right (suc k) =
        let e : n + suc k ≡ suc (n + k) = omega arith in
        ap (after_by f W H (b ++ c) a) e ∙ ap₂ (next_by f W H) (request_right b c n whole k) (after_right k)

  next_behind : (q : List ℕ) (a c : State) → next_by f W H q (behind a c) ≡ behind a (next_by f W H q c)
  unfolding next_by
  next_behind q a c =
      let d = f c.table q in
      let z = next_by f W H q c in
      let mk : List ℕ → ℕ → State = λ x y. record { weights = z.weights; table = z.table; answers = x; accepted = y } in
      ap₂ mk (append_assoc a.answers c.answers (answer_of q d))
      (let e : a.accepted + c.accepted + accepted_one d ≡ a.accepted + (c.accepted + accepted_one d) = omega arith in e)

  pub after_behind : (b : List ℕ) (a : State) (k : ℕ) → after_by f W H b a k ≡ behind a (after_by f W H b (started a.weights a.table) k)
  unfolding after_by
  after_behind b a zero =
      let mk : List ℕ → ℕ → State = λ x y. record { weights = a.weights; table = a.table; answers = x; accepted = y } in
      ap₂ mk (sym (append-nil a.answers)) (let e : a.accepted ≡ a.accepted + 0 = omega arith in e)
  after_behind b a (suc k) =
      ap (next_by f W H (request b k)) (after_behind b a k) ∙ next_behind (request b k) a (after_by f W H b (started a.weights a.table) k)

  -- TWO BLOCKS ARE ONE: block c on what b has left
  pub cut : (b c : List ℕ) (a : State) → length b ≡ 8 * requests b → (k : ℕ) →
      let one = after_by f W H b a (requests b) in
      after_by f W H (b ++ c) a (requests b + k) ≡ behind one (after_by f W H c (started one.weights one.table) k)
  cut b c a whole k = after_right b c (requests b) whole a k ∙ after_behind c (after_by f W H b a (requests b)) k

  -- ---- the answers

  module _ (b : List ℕ) (s : List ℤ) (t : List ℕ) where
    abbrev at : ℕ → State
    at k = after_by f W H b (started s t) k

    pub answers_long : (k : ℕ) → length (at k).answers ≡ 8 * k
    unfolding after_by next_by
    answers_long zero = refl
    answers_long (suc k) =
        let d = f (at k).table (request b k) in
        let e = answers_long k in
        let l = length-append (at k).answers (answer_of (request b k) d) in
        omega arith

    pub answers_at : (n j : ℕ) → j < n → request (at n).answers j ≡ answer_of (request b j) (f (at j).table (request b j))
    unfolding after_by next_by
    answers_at = record_at (λ n. (at n).answers) (λ k. answer_of (request b k) (f (at k).table (request b k))) answers_long (λ n. refl)

    -- ---- after each request

    module _ (ok : Stricter W H f) (d : StateStands W H (started s t)) where
      pub stands_after : (k : ℕ) → StateStands W H (at k)
      stands_after = after_by_stands f W H ok b (started s t) d

      -- from a table without modules: THE TABLE HOLDS EXACTLY THE MODULES OF THE HISTORY
      pub told_after : ((i : ℕ) → free_slot t i ≡ true) → (n k : ℕ) → k ≤ n → Told (history b (at n).answers k) (at k).table
      unfolding history after_by next_by
      told_after free n zero l = told_none t free
      told_after free n (suc k) l =
          subst (λ x. Told (noted (request b k) x (history b (at n).answers k)) (at (suc k)).table) (sym (answers_at n k (omega arith)))
          (told_step W H (request b k) (at k) (history b (at n).answers k) (stands_after k) (told_after free n k (omega arith)) (f (at k).table (request b k)) (ok (at k).table (request b k)))

      -- AND EVERY WEIGHT IS THE ONE WORKED OUT AFRESH FROM THEM
      pub afresh_after : ((i : ℕ) → free_slot t i ≡ true) → (n k : ℕ) → k ≤ n → (x y : ℕ) → x < W → y < H → cell W (at k).weights x y ≡ history_weight (history b (at n).answers k) x y
      afresh_after free n k l = cell_history (history b (at n).answers k) (at k).table (told_after free n k l) W H (at k).weights (stands_after k)

      -- AN ACCEPTED ONE HAS ITS FRAME
      pub framed_after : (k i : ℕ) (r : Rect) → f (at k).table (request b k) ≡ Done i r → Framed W H (request b k) i r (at k) (at (suc k))
      unfolding after_by next_by
      framed_after k i r e =
          rw e (frame W H (request b k) (at k) i r (stands_after k)
          (subst (λ x. StepOrRefusal x (step_of W H (at k).table (request b k))) e (ok (at k).table (request b k))))
