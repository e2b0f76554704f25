-- Requests as one block of the library. Assumes nothing.
use mathlib.Core.Path.{◌≡◌, refl, sym, ap, ap₂, ◌∙◌, subst, subst⁻¹}
use mathlib.Core.Bool.{false, ◌||◌}
use mathlib.Core.List.{List, ◌++◌}
use Prim.Native.Nat.{ℕ, zero, suc, ◌+◌, ◌-◌, ◌*◌, ◌≤◌, ◌<◌}
use native.Mathlib.Nat.{add-zero}
use native.Mathlib.Omega.{arith}
use lib.Dec.{eqb}
use lib.IntN.{ℤ}
use lib.ListN.{length, take, drop, take-append-drop, get_or, length-drop}
use lib.Seq.{drop-append-add, take_all, get_or-take, get_or-drop}
use Rattle.rules.specs.Surface.{Standing}
use Rattle.rules.specs.Requests.{operation, answer_of, step_of, weights_after, table_after}
use Rattle.rules.specs.Blocks.{State, started, next, request, after, after_by, next_by}
use borrow.Author.Tests.{eq-eqb}
use Rattle.std.specs.Prelude.{Option, None, Some, MatchOption, ⊤}
use Rattle.std.specs.Option.{unwrap_or}
use Rattle.rules.proofs.Tests.{not_both}
use Rattle.cells.proofs.Parts.{part_long}
use Rattle.meaning.proofs.Steps.{after_stands}
use Rattle.demands.proofs.Blocks.{request_left}
use Rattle.requests.specs.Steps.{Ran}
use Rattle.stream.specs.Records.{Kept, kept, onto, answer_to, next_record, records, after_records, answers_to}
use Rattle.stream.specs.Promise.{Ready, Holds, Served, ServedAll, Requests, apart, Together}
use Rattle.stream.proofs.Cuts.{behind, part, part_is_long}
use Rattle.stream.proofs.Laws.{on_surface_lem, not_apart, held, at_start, front_ready}

-- what is behind the surface in the room stays
past_start : (n : ℕ) (p s : List ℤ) → length p ≡ n → drop n (onto n p s) ≡ drop n s
past_start n p s e = let f : n ≡ length p + 0 = omega arith in ap (λ k. drop k (onto n p s)) f ∙ drop-append-add p (drop n s) 0

module _ (b : List ℕ) (w h : ℕ) (s : List ℤ) (t : List ℕ) (ready : Ready w h s t) (some : w ≡ 0 → ⊥) where
  abbrev z : Kept
  z = kept w h s t

  abbrev at : ℕ → State
  at k = after w h b (started (take (w * h) s) t) k

  abbrev as_kept : State → Kept
  as_kept u = kept w h (onto (w * h) u.weights s) u.table

  long : (k : ℕ) → length (at k).weights ≡ w * h
  long k = (after_stands w h b (started (take (w * h) s) t) (ready.stands some) k).long

  -- one request on what the block has left so far
  one_kept : (q : List ℕ) (u : State) → length u.weights ≡ w * h → (operation q ≡ 5 → ⊥) → next_record q (as_kept u) ≡ as_kept (next w h q u)
  unfolding next_by
  one_kept q u e n =
      let d = step_of w h u.table q in
      (on_surface_lem q (as_kept u) n some).0
      ∙ ap₂ (λ x r. kept w h (weights_after w h q d u.table x ++ r) (table_after q d u.table)) (at_start (w * h) u.weights s e) (past_start (w * h) u.weights s e)

  one_answered : (q : List ℕ) (u : State) → (operation q ≡ 5 → ⊥) → answer_to q (as_kept u) ≡ answer_of q (step_of w h u.table q)
  one_answered q u n = ap (answer_of q) (on_surface_lem q (as_kept u) n some).1

  -- the records in turn leave what the block leaves
  pub block_kept : (n : ℕ) → Requests b n → (k : ℕ) → k ≤ n → after_records b z k ≡ as_kept (at k)
  unfolding after_records after_by
  block_kept n r zero l = ap (λ x. kept w h x t) (sym (take-append-drop (w * h) s))
  block_kept n r (suc k) l = ap (next_record (request b k)) (block_kept n r k (omega arith)) ∙ one_kept (request b k) (at k) (long k) (r k (omega arith))

  pub block_answered : (n : ℕ) → Requests b n → (k : ℕ) → k ≤ n → answers_to b z k ≡ (at k).answers
  unfolding answers_to after_by next_by
  block_answered n r zero l = refl
  block_answered n r (suc k) l =
      ap₂ ◌++◌ (block_answered n r k (omega arith)) (ap (answer_to (request b k)) (block_kept n r k (omega arith)) ∙ one_answered (request b k) (at k) (r k (omega arith)))

  block_served : (p : List ℤ) (t' a : List ℕ) (n : ℕ) → Requests b (records b) → Ran (at (records b)) p t' a n → length t' ≡ length t →
      ServedAll b z w h (onto (w * h) p s) t' a
  block_served p t' a n r v lt =
      let k = records b in
      let e = block_kept k r k (omega arith) in
      let d : Standing w h p t' = subst⁻¹ (λ x. Standing w h x t') v.weights (subst⁻¹ (λ y. Standing w h (at k).weights y) v.table (after_stands w h b (started (take (w * h) s) t) (ready.stands some) k)) in
      record {
        holds = held (after_records b z k) w h (onto (w * h) p s) t' (e ∙ ap₂ (λ x y. kept w h (onto (w * h) x s) y) (sym v.weights) (sym v.table));
        answers = v.answers ∙ sym (block_answered k r k (omega arith));
        ready = front_ready w h p s t' d ready.long (lt ∙ ready.slots);
      }

  -- the surface of m cells as the code lends it
  pub block_lent : (m : ℕ) → m ≡ w * h → (p : List ℤ) (t' a : List ℕ) (n : ℕ) → Requests b (records b) → Ran (after w h b (started (take m s) t) (records b)) p t' a n → length t' ≡ length t →
      ServedAll b z w h (onto m p s) t' a
  block_lent m e p t' a n r v lt =
      subst⁻¹ (λ m. ServedAll b z w h (onto m p s) t' a) e (block_served p t' a n r (subst (λ m. Ran (after w h b (started (take m s) t) (records b)) p t' a n) e v) lt)

-- one record
alone : (b : List ℕ) → length b ≡ 8 → request b 0 ≡ b
alone b e = take_all 8 b (omega arith)

pub one_served : (b : List ℕ) (z : Kept) (w h : ℕ) (s : List ℤ) (t a : List ℕ) → length b ≡ 8 → Served b z w h s t a → ServedAll b z w h s t a
unfolding after_records answers_to
one_served b z w h s t a e v =
    let one : records b ≡ 1 = omega arith in
    record {
      holds = subst⁻¹ (λ k. Holds (after_records b z k) w h s t) one (subst⁻¹ (λ q. Holds (next_record q z) w h s t) (alone b e) v.holds);
      answers = v.answer ∙ ap (λ q. answer_to q z) (sym (alone b e)) ∙ ap (answers_to b z) (sym one);
      ready = v.ready;
    }

-- ---- how many are served together

operation_at : (b : List ℕ) (k : ℕ) → operation (request b k) ≡ get_or b (8 * k) 0
operation_at b k = get_or-take 8 (drop (8 * k) b) 0 0 (omega arith) ∙ get_or-drop (8 * k) b 0 0 ∙ ap (λ i. get_or b i 0) (add-zero (8 * k))

-- requests are served together up to the first clear behind them, or all n
pub up_to_clear : (w n : ℕ) (b : List ℕ) → 1 ≤ n → apart w b ≡ false → (r : Option ℕ) →
    MatchOption r ((k : ℕ) → 1 ≤ k → k < n → eqb (get_or b (8 * k) 0) 5 ≡ false) (λ i. (1 ≤ i) × (i < n) × ⊤ × ((k : ℕ) → 1 ≤ k → k < i → eqb (get_or b (8 * k) 0) 5 ≡ false)) →
    (1 ≤ unwrap_or r n) × (unwrap_or r n ≤ n) × Together w b (unwrap_or r n)
up_to_clear w n b one e r h = by r h
  where
    upto : (m : ℕ) → ((k : ℕ) → 1 ≤ k → k < m → eqb (get_or b (8 * k) 0) 5 ≡ false) → Together w b m
    upto m f = record { alone = λ a. not_both _ a e; requests = λ _. those }
      where
        those : Requests b m
        those zero l o = absurd ((not_apart w b e).1 (sym (operation_at b 0) ∙ o))
        those (suc j) l o = not_both _ (eq-eqb _ 5 (sym (operation_at b (suc j)) ∙ o)) (f (suc j) (omega arith) l)

    by : (o : Option ℕ) → MatchOption o ((k : ℕ) → 1 ≤ k → k < n → eqb (get_or b (8 * k) 0) 5 ≡ false) (λ i. (1 ≤ i) × (i < n) × ⊤ × ((k : ℕ) → 1 ≤ k → k < i → eqb (get_or b (8 * k) 0) 5 ≡ false)) →
        (1 ≤ unwrap_or o n) × (unwrap_or o n ≤ n) × Together w b (unwrap_or o n)
    by None h = (one, omega arith, upto n h)
    by (Some i) h = (h.0, omega (arith, h.1), upto i h.3)

-- of the records behind, those of the part: the first is the same
pub part_together : (b : List ℕ) (k m : ℕ) (fit : 8 * k + 8 * m ≤ length b) (w : ℕ) → 1 ≤ m → Together w (behind b k m fit) m → Together w (part b k m fit) m
unfolding apart
part_together b k m fit w one g =
    let e = sym (take-append-drop (8 * m) (behind b k m fit)) in
    let same : apart w (behind b k m fit) ≡ apart w (part b k m fit) = ap (λ o. eqb w 0 || eqb o 5) (sym (get_or-take (8 * m) (behind b k m fit) 0 0 (omega arith))) in
    record {
      alone = λ a. g.alone (same ∙ a);
      requests = λ a j l o. g.requests (same ∙ a) j l (ap (λ d. operation (request d j)) e ∙ ap operation (request_left (part b k m fit) (drop (8 * m) (behind b k m fit)) m (part_is_long b k m fit) j l) ∙ o);
    }

-- ---- the rest of a list from `at` on, as the code lends it

from_is : (b : List ℕ) (at : ℕ) → take (length b - at) (drop at b) ≡ drop at b
from_is b at = take_all (length b - at) (drop at b) (omega (arith, length-drop at b))

abbrev pub from : List ℕ → ℕ → List ℕ
from b k = take (length b - 8 * k) (drop (8 * k) b)

from_long : (b : List ℕ) (k : ℕ) → length (from b k) ≡ length b - 8 * k
from_long b k = ap length (from_is b (8 * k)) ∙ length-drop (8 * k) b

pub from_fits : (b : List ℕ) (k m : ℕ) → 8 * k ≤ length b → m ≤ records (from b k) → 8 * k + 8 * m ≤ length b
from_fits b k m l h = omega (arith, from_long b k, l, h)

-- the parts of piece and answers that are lent for m records
pub lent_part : (b a : List ℕ) (k m w : ℕ) → 1 ≤ m → m ≤ 512 → 8 * k + 8 * m ≤ length b → 8 * k + 8 * m ≤ length a → Together w (from b k) m →
    let p = take (8 * k + 8 * m - 8 * k) (drop (8 * k) b) in
    (length p ≡ 8 * records p) × (1 ≤ records p) × (records p ≤ 512) × (length (take (8 * k + 8 * m - 8 * k) (drop (8 * k) a)) ≡ length p) × Together w p (records p)
lent_part b a k m w one few fit fits g =
    let p = take (8 * k + 8 * m - 8 * k) (drop (8 * k) b) in
    let lp : length p ≡ 8 * m = part_long (8 * k) (8 * m) b fit in
    let la = part_long (8 * k) (8 * m) a fits in
    let n : records p ≡ m = omega (arith, lp) in
    let e8 : 8 * k + 8 * m - 8 * k ≡ 8 * m = omega arith in
    let t : Together w (part b k m fit) m = part_together b k m fit w one (subst (λ d. Together w d m) (from_is b (8 * k)) g) in
    (omega (arith, lp), omega (arith, n, one), omega (arith, n, few), la ∙ sym lp, subst⁻¹ (λ j. Together w p j) n (subst⁻¹ (λ j. Together w (take j (drop (8 * k) b)) m) e8 t))
