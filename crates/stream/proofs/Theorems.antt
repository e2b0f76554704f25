-- THE STREAM, as theorems about the definitions: each under the sentence that it answers. Assumes nothing.
use mathlib.Core.Path.{◌≡◌, refl, sym, ap, ◌∙◌}
use mathlib.Core.Bool.{true, false}
use mathlib.Core.Logic.{◌↔◌}
use mathlib.Core.List.{List, [], ◌∷◌}
use Prim.Native.Nat.{ℕ, ◌*◌, ◌/◌, ◌%◌, ◌≤◌, ◌<◌}
use native.Mathlib.Omega.{arith}
use lib.IntN.{ℤ}
use lib.ListN.{length, take, drop}
use Rattle.rules.specs.Requests.{operation, wide, high}
use Rattle.rules.specs.Blocks.{started, request, after}
use Rattle.rules.specs.Calls.{bad_size, cleared_weights, cleared_table}
use Rattle.demands.specs.History.{code_in}
use Rattle.stream.specs.Records.{Kept, kept, onto, stray_clear, clear_record_code, answer_to, next_record, records, cut, carried, after_records, answers_to}
use Rattle.stream.specs.Promise.{Ready, AcceptedClear, Requests, ServedAll, ListedBy}
use Rattle.stream.specs.Input.{Reading, in_turn, begun, whole, rest, after_reads}
use Rattle.stream.proofs.Laws.{clear_refused, clear_done}
use Rattle.stream.proofs.Clears.{clear_codes, clear_answer, answer_at, eight}
use Rattle.stream.proofs.Input.{rest_long, lent_whole, carried_rest, Once, reads_once}
use Rattle.stream.proofs.Blocks.{block_kept, block_answered}

-- "A refused clear changes nothing."
pub refused_clear_keeps : (q : List ℕ) (z : Kept) → operation q ≡ 5 → (clear_record_code q ≡ 0 → ⊥) → next_record q z ≡ z
refused_clear_keeps q z p n = (clear_refused q z p n).0

-- "Before the first accepted clear every record of another operation is answered 8", and none after it: record k of q, from where there is no surface, is
-- answered 8 exactly when no earlier record is an accepted clear
pub eight_exactly : (q : List ℕ) (z : Kept) → z.columns ≡ 0 → (k : ℕ) → k < records q → (operation (request q k) ≡ 5 → ⊥) →
    (code_in (request (answers_to q z (records q)) k) ≡ 8) ↔ ((j : ℕ) → j < k → AcceptedClear (request q j) → ⊥)
eight_exactly q z e = eight q z e (records q)

-- "It prints one line a record": the answer to record k is its k-th eight bytes, on what the records before it have left
pub record_answered : (q : List ℕ) (z : Kept) (k : ℕ) → k < records q → request (answers_to q z (records q)) k ≡ answer_to (request q k) (after_records q z k)
record_answered q z = answer_at q z (records q)

-- "operation 5, clear: W and H in bytes 4 and 5, the rest zero; codes 12, then 1": 12 exactly when one of the rest is not zero, 1 exactly when all are and W
-- or H is not in 1..64, 0 exactly when neither applies
pub clear_record_code_lem : (q : List ℕ) (z : Kept) → operation q ≡ 5 →
    let c = code_in (answer_to q z) in
    ((c ≡ 12) ↔ (stray_clear q ≡ true))
    × ((c ≡ 1) ↔ ((stray_clear q ≡ false) × (bad_size (wide q) (high q) ≡ true)))
    × ((c ≡ 0) ↔ ((stray_clear q ≡ false) × (bad_size (wide q) (high q) ≡ false)))
clear_record_code_lem = clear_codes

-- "accepted, the answer has x = y = 0 and w, h as W, H": code, operation, id (two bytes), x, y, w, h; what is kept is the cleared surface of that size
pub clear_record_accepted : (q : List ℕ) (z : Kept) → operation q ≡ 5 → clear_record_code q ≡ 0 →
    let W = wide q in
    let H = high q in
    (answer_to q z ≡ 0 ∷ 5 ∷ 0 ∷ 0 ∷ 0 ∷ 0 ∷ W ∷ H ∷ [])
    × (next_record q z ≡ kept W H (onto (W * H) (cleared_weights W H) z.room) (cleared_table z.table))
clear_record_accepted q z p e = (clear_answer q z p e, (clear_done q z p e).0)

-- "It reads request records from standard input": in reads of any lengths, each behind the bytes that the one before has left over. What is kept and what is
-- answered are as if all had come at once, and what is left over at the end are the bytes "after the last whole record"

pub reads_cut : (cs : List (List ℕ)) (z : Kept) →
    let q = in_turn [] cs in
    let y = after_reads cs (begun z) in
    (y.state ≡ after_records q z (records q)) × (y.answers ≡ answers_to q z (records q)) × (y.held ≡ drop (8 * records q) q)
reads_cut cs z =
    let e = reads_once cs z [] [] refl in
    (ap (λ (y : Reading). y.state) e, ap (λ (y : Reading). y.answers) e, ap (λ (y : Reading). y.held) e)

-- "where bytes remain after the last whole record, a last line `cut N`, N being how many"
pub reads_left : (cs : List (List ℕ)) (z : Kept) → length (after_reads cs (begun z)).held ≡ cut (in_turn [] cs)
reads_left cs z = ap length (reads_cut cs z).2 ∙ rest_long (in_turn [] cs)

-- so two ways in which the same bytes come are alike
pub reads_alike : (cs ds : List (List ℕ)) (z : Kept) → in_turn [] cs ≡ in_turn [] ds → after_reads cs (begun z) ≡ after_reads ds (begun z)
reads_alike cs ds z e = reads_once cs z [] [] refl ∙ ap (λ q. Once q z []) e ∙ sym (reads_once ds z [] [] refl)

-- where the first n bytes of a buffer q are held ++ read: the program lends its first 8·(n / 8) bytes to `serve`, and after `carry` its first n % 8 are held
pub buffer_cut : (n : ℕ) (q : List ℕ) → n ≤ length q → (take (8 * (n / 8)) q ≡ whole (take n q)) × (take (n % 8) (carried n q) ≡ rest (take n q))
buffer_cut n q h = (lent_whole n q h, carried_rest n q h)

-- ---- requests on a surface, one behind the other, are a block of the library: the same weights, table and answers

pub as_a_block : (q : List ℕ) (w h : ℕ) (s : List ℤ) (t : List ℕ) → Ready w h s t → (w ≡ 0 → ⊥) → Requests q (records q) →
    let u = after w h q (started (take (w * h) s) t) (records q) in
    (after_records q (kept w h s t) (records q) ≡ kept w h (onto (w * h) u.weights s) u.table) × (answers_to q (kept w h s t) (records q) ≡ u.answers)
as_a_block q w h s t r n o = (block_kept q w h s t r n (records q) o (records q) (omega arith), block_answered q w h s t r n (records q) o (records q) (omega arith))

-- ---- two outcomes that `serve`'s promise allows are equal

pub serve_unique : (q : List ℕ) (z : Kept) (w h : ℕ) (s : List ℤ) (t a : List ℕ) (w' h' : ℕ) (s' : List ℤ) (t' a' : List ℕ) → ServedAll q z w h s t a → ServedAll q z w' h' s' t' a' →
    (w ≡ w') × (h ≡ h') × (s ≡ s') × (t ≡ t') × (a ≡ a')
serve_unique q z w h s t a w' h' s' t' a' m n =
    let x = m.holds in
    let y = n.holds in
    (x.columns ∙ sym y.columns, x.rows ∙ sym y.rows, x.room ∙ sym y.room, x.table ∙ sym y.table, m.answers ∙ sym n.answers)

-- "Prove for each that two outcomes allowed by it are equal": and two that `list_kept`'s allows (the promises of `whole` and `carry` are equations)

pub list_kept_unique : (z : Kept) (room : List ℕ) (n c : ℕ) (room₁ : List ℕ) (n' c' : ℕ) (room₂ : List ℕ) → ListedBy z room n c room₁ → ListedBy z room n' c' room₂ →
    (n ≡ n') × (c ≡ c') × (room₁ ≡ room₂)
list_kept_unique z room n c room₁ n' c' room₂ p q = (p.entries ∙ sym q.entries, p.corners ∙ sym q.corners, p.written ∙ sym q.written)
