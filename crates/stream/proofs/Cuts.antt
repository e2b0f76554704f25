-- The records of two lists, one behind the other, and of a part of a list. Assumes nothing.
use mathlib.Core.Path.{◌≡◌, refl, sym, ap, ap₂, ◌∙◌}
use mathlib.Core.List.{List, ◌++◌, append_assoc, append-nil}
use Prim.Native.Nat.{ℕ, zero, suc, ◌+◌, ◌*◌, ◌≤◌}
use native.Mathlib.Omega.{arith}
use lib.ListN.{length, take, drop, length-drop, take-append-drop}
use lib.Seq.{length-take-le}
use Rattle.demands.proofs.Blocks.{request_left, request_right}
use Rattle.stream.specs.Records.{Kept, answer_to, next_record, after_records, answers_to}

module _ (b c : List ℕ) (n : ℕ) (whole : length b ≡ 8 * n) (z : Kept) where
  pub kept_left : (k : ℕ) → k ≤ n → after_records (b ++ c) z k ≡ after_records b z k
  unfolding after_records
  kept_left zero l = refl
  kept_left (suc k) l = ap₂ next_record (request_left b c n whole k (omega arith)) (kept_left k (omega arith))

  pub kept_right : (k : ℕ) → after_records (b ++ c) z (n + k) ≡ after_records c (after_records b z n) k
  unfolding after_records
  kept_right zero = let e : n + 0 ≡ n = omega arith in ap (after_records (b ++ c) z) e ∙ kept_left n (omega arith)
  kept_right (suc k) =
      let e : n + suc k ≡ suc (n + k) = omega arith in
      ap (after_records (b ++ c) z) e ∙ ap₂ next_record (request_right b c n whole k) (kept_right k)

  pub answers_left : (k : ℕ) → k ≤ n → answers_to (b ++ c) z k ≡ answers_to b z k
  unfolding answers_to
  answers_left zero l = refl
  answers_left (suc k) l = ap₂ ◌++◌ (answers_left k (omega arith)) (ap₂ answer_to (request_left b c n whole k (omega arith)) (kept_left k (omega arith)))

  pub answers_right : (k : ℕ) → answers_to (b ++ c) z (n + k) ≡ answers_to b z n ++ answers_to c (after_records b z n) k
  unfolding answers_to
  answers_right zero = let e : n + 0 ≡ n = omega arith in ap (answers_to (b ++ c) z) e ∙ answers_left n (omega arith) ∙ sym (append-nil (answers_to b z n))
  answers_right (suc k) =
      let e : n + suc k ≡ suc (n + k) = omega arith in
      ap (answers_to (b ++ c) z) e ∙ ap₂ ◌++◌ (answers_right k) (ap₂ answer_to (request_right b c n whole k) (kept_right k)) ∙ append_assoc (answers_to b z n) _ _

-- the first k records are those of the first 8·k bytes
front : (b : List ℕ) (z : Kept) (k : ℕ) → 8 * k ≤ length b → (after_records b z k ≡ after_records (take (8 * k) b) z k) × (answers_to b z k ≡ answers_to (take (8 * k) b) z k)
front b z k l =
    let e = sym (take-append-drop (8 * k) b) in
    let n = length-take-le (8 * k) b l in (
      ap (λ x. after_records x z k) e ∙ kept_left (take (8 * k) b) (drop (8 * k) b) k n z k (omega arith),
      ap (λ x. answers_to x z k) e ∙ answers_left (take (8 * k) b) (drop (8 * k) b) k n z k (omega arith),
    )

-- ---- m records of b behind the first k

module _ (b : List ℕ) (k m : ℕ) (fit : 8 * k + 8 * m ≤ length b) where
  abbrev pub behind : List ℕ
  behind = drop (8 * k) b

  abbrev pub part : List ℕ
  part = take (8 * m) behind

  first_long : length (take (8 * k) b) ≡ 8 * k
  first_long = length-take-le (8 * k) b (omega arith)

  enough : 8 * m ≤ length behind
  enough = omega (arith, length-drop (8 * k) b)

  pub part_is_long : length part ≡ 8 * m
  part_is_long = length-take-le (8 * m) behind enough

  module _ (z : Kept) where
    pub kept_part : after_records b z (k + m) ≡ after_records part (after_records b z k) m
    kept_part =
        ap (λ l. after_records l z (k + m)) (sym (take-append-drop (8 * k) b)) ∙ kept_right (take (8 * k) b) behind k first_long z m
        ∙ ap (λ y. after_records behind y m) (sym (front b z k (omega arith)).0) ∙ (front behind (after_records b z k) m enough).0

    pub answers_part : answers_to b z (k + m) ≡ answers_to b z k ++ answers_to part (after_records b z k) m
    answers_part =
        let f = front b z k (omega arith) in
        ap (λ l. answers_to l z (k + m)) (sym (take-append-drop (8 * k) b)) ∙ answers_right (take (8 * k) b) behind k first_long z m
        ∙ ap₂ (λ a y. a ++ answers_to behind y m) (sym f.1) (sym f.0) ∙ ap (λ a. answers_to b z k ++ a) (front behind (after_records b z k) m enough).1
