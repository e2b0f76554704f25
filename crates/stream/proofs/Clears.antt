-- The codes of a clear, and the surface that there is from the first accepted clear on. Assumes nothing.
use mathlib.Core.Path.{◌≡◌, refl, sym, ap, ◌∙◌, subst, subst⁻¹}
use mathlib.Core.Bool.{Bool, true, false, cond, true≢false, false≢true}
use mathlib.Core.Logic.{◌↔◌, ⊎_elim}
use mathlib.Core.List.{List, [], ◌∷◌}
use Prim.Native.Nat.{ℕ, zero, suc, ◌≤◌, ◌<◌}
use native.Mathlib.Decide.{ℕ_discrete}
use native.Mathlib.Nat.{eq-or-lt_of_le, le_of_suc-le-suc}
use native.Mathlib.Omega.{arith}
use borrow.Author.Tests.{eqb-true, not-false}
use lib.Dec.{eqb}
use Rattle.rules.specs.Tests.{all}
use Rattle.rules.specs.Requests.{operation, rule_of, id_low, id_high, wide, high, byte6, byte7, step_of, code_of, answer_of}
use Rattle.rules.specs.Blocks.{request}
use Rattle.rules.specs.Calls.{bad_size}
use Rattle.rules.specs.Refusals.{Step, Refused, Done}
use Rattle.rules.proofs.Tests.{and_left, and_right}
use Rattle.meaning.proofs.Steps.{refused_code}
use Rattle.meaning.proofs.Codes.{good_size}
use Rattle.demands.specs.History.{code_in}
use Rattle.demands.proofs.Blocks.{record_at}
use Rattle.stream.specs.Records.{Kept, stray_clear, clear_record_code, answer_to, next_record, after_records, answers_to}
use Rattle.stream.specs.Promise.{AcceptedClear}
use Rattle.stream.proofs.Laws.{code_as, clear_refused, clear_done, none_yet, on_surface_lem, sizes_told}
use Rattle.stream.proofs.Turns.{answers_long}

-- ---- 12, then 1

abbrev Codes : Bool → Bool → ℕ → Type 0
Codes s b c = ((c ≡ 12) ↔ (s ≡ true)) × ((c ≡ 1) ↔ ((s ≡ false) × (b ≡ true))) × ((c ≡ 0) ↔ ((s ≡ false) × (b ≡ false)))

never : {A B : Type 0} → (A → ⊥) → (B → ⊥) → A ↔ B
never f g = (λ a. absurd (f a), λ b. absurd (g b))

codes : (s b : Bool) → Codes s b (cond s 12 (cond b 1 0))
codes true b = ((λ e. refl, λ e. refl), never (λ e. omega arith) (λ e. true≢false e.0), never (λ e. omega arith) (λ e. true≢false e.0))
codes false true = (never (λ e. omega arith) false≢true, (λ e. (refl, refl), λ e. refl), never (λ e. omega arith) (λ e. true≢false e.1))
codes false false = (never (λ e. omega arith) false≢true, never (λ e. omega arith) (λ e. false≢true e.1), (λ e. (refl, refl), λ e. refl))

module _ (q : List ℕ) (z : Kept) (op : operation q ≡ 5) where
  pub clear_code_lem : code_in (answer_to q z) ≡ clear_record_code q
  clear_code_lem = elim (ℕ_discrete (clear_record_code q) 0) [ yes e ↦ ap code_of (clear_done q z op e).1 ∙ sym e | no ne ↦ ap code_of (clear_refused q z op ne).1 ]

  pub clear_codes : Codes (stray_clear q) (bad_size (wide q) (high q)) (code_in (answer_to q z))
  clear_codes = subst⁻¹ (Codes (stray_clear q) (bad_size (wide q) (high q))) (clear_code_lem ∙ code_as q) (codes (stray_clear q) (bad_size (wide q) (high q)))

  -- the id of an accepted clear is zero
  pub clear_id : clear_record_code q ≡ 0 → (id_low q ≡ 0) × (id_high q ≡ 0)
  unfolding stray_clear all
  clear_id e =
      let s : stray_clear q ≡ false = ((codes (stray_clear q) (bad_size (wide q) (high q))).2.0 (sym (code_as q) ∙ e)).0 in
      let a = not-false _ s in
      let b = and_left (all (eqb 0) (id_low q ∷ id_high q ∷ byte6 q ∷ byte7 q ∷ [])) (eqb 0 (rule_of q)) a in
      let c = and_left (all (eqb 0) (id_high q ∷ byte6 q ∷ byte7 q ∷ [])) (eqb 0 (id_low q)) b in (
        sym (eqb-true 0 (id_low q) (and_right (all (eqb 0) (id_high q ∷ byte6 q ∷ byte7 q ∷ [])) (eqb 0 (id_low q)) b)),
        sym (eqb-true 0 (id_high q) (and_right (all (eqb 0) (byte6 q ∷ byte7 q ∷ [])) (eqb 0 (id_high q)) c)),
      )

  pub clear_answer : clear_record_code q ≡ 0 → answer_to q z ≡ 0 ∷ 5 ∷ 0 ∷ 0 ∷ 0 ∷ 0 ∷ wide q ∷ high q ∷ []
  clear_answer e =
      let i = clear_id e in
      ap (answer_of q) (clear_done q z op e).1 ∙ (λ j. 0 ∷ op j ∷ i.0 j ∷ i.1 j ∷ 0 ∷ 0 ∷ wide q ∷ high q ∷ [])

-- ---- a record, on a surface or before there is one

module _ (q : List ℕ) (z : Kept) where
  -- an accepted clear makes a surface
  made : AcceptedClear q → (next_record q z).columns ≡ 0 → ⊥
  made a e =
      let w : (next_record q z).columns ≡ wide q = ap (λ (k : Kept). k.columns) (clear_done q z a.0 a.1).0 in
      omega (arith, w, e, (good_size (wide q) (high q) (sizes_told q a.1)).wide)

  -- and no record takes it away
  stays : (z.columns ≡ 0 → ⊥) → (next_record q z).columns ≡ 0 → ⊥
  stays n e =
      let same : (next_record q z).columns ≡ z.columns → ⊥ = λ s. n (sym s ∙ e) in
      elim (ℕ_discrete (operation q) 5) [
        | yes p ↦ same (ap (λ (k : Kept). k.columns) (clear_refused q z p (λ c. made (p, c) e)).0)
        | no p ↦ same (ap (λ (k : Kept). k.columns) (on_surface_lem q z p n).0)
      ]

  -- without one there is none, and what is kept stays
  none_made : z.columns ≡ 0 → (AcceptedClear q → ⊥) → next_record q z ≡ z
  none_made n na = elim (ℕ_discrete (operation q) 5) [ yes p ↦ (clear_refused q z p (λ c. na (p, c))).0 | no p ↦ (none_yet q z p n).0 ]

  -- on a surface a request is not answered 8
  not_eight : (operation q ≡ 5 → ⊥) → (z.columns ≡ 0 → ⊥) → code_in (answer_to q z) ≡ 8 → ⊥
  not_eight p n e = go (step_of z.columns z.rows z.table q) (refused_code z.columns z.rows z.table q) (sym (ap code_of (on_surface_lem q z p n).1) ∙ e)
    where
      go : (d : Step) → ((c : ℕ) → d ≡ Refused c → 11 ≤ c) → code_of d ≡ 8 → ⊥
      go (Refused c) h f = omega (arith, h c refl, f)
      go (Done i r) h f = omega arith

-- ---- the records of b in turn

module _ (b : List ℕ) (z : Kept) where
  -- THE ANSWER TO RECORD k stands in its own part of the answers
  pub answer_at : (n k : ℕ) → k < n → request (answers_to b z n) k ≡ answer_to (request b k) (after_records b z k)
  unfolding answers_to
  answer_at = record_at (answers_to b z) (λ k. answer_to (request b k) (after_records b z k)) (answers_long b z) (λ n. refl)

  -- an accepted clear before record k: there is a surface
  surface_from : (k j : ℕ) → j < k → AcceptedClear (request b j) → (after_records b z k).columns ≡ 0 → ⊥
  unfolding after_records
  surface_from zero j l a = absurd (omega arith)
  surface_from (suc k) j l a =
      ⊎_elim
      (λ (q : j ≡ k). made (request b k) (after_records b z k) (subst (λ i. AcceptedClear (request b i)) q a))
      (λ (q : j < k). stays (request b k) (after_records b z k) (surface_from k j q a))
      (eq-or-lt_of_le (le_of_suc-le-suc l))

  -- none: what is kept is as it was
  pub none_before : z.columns ≡ 0 → (k : ℕ) → ((j : ℕ) → j < k → AcceptedClear (request b j) → ⊥) → after_records b z k ≡ z
  unfolding after_records
  none_before e zero h = refl
  none_before e (suc k) h =
      let i = none_before e k (λ j l. h j (omega arith)) in
      ap (next_record (request b k)) i ∙ none_made (request b k) z e (h k (omega arith))

  -- 8 EXACTLY BEFORE THE FIRST ACCEPTED CLEAR
  pub eight : z.columns ≡ 0 → (n k : ℕ) → k < n → (operation (request b k) ≡ 5 → ⊥) →
      (code_in (request (answers_to b z n) k) ≡ 8) ↔ ((j : ℕ) → j < k → AcceptedClear (request b j) → ⊥)
  eight e n k l p = (
    (λ c j m a. not_eight (request b k) (after_records b z k) p (surface_from k j m a) (sym (ap code_in (answer_at n k l)) ∙ c)),
    (λ h.
        let i = none_before e k h in
        ap code_in (answer_at n k l) ∙ ap (λ y. code_in (answer_to (request b k) y)) i ∙ ap code_of (none_yet (request b k) z p e).1),
  )
