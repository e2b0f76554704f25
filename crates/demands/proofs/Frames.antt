-- THE FRAME of an accepted request. Assumes nothing.
use mathlib.Core.Path.{◌≡◌, sym, ap, ◌∙◌, subst, subst₂, ap₂}
use mathlib.Core.Bool.{Bool, true, false, cond, ◌||◌}
use mathlib.Core.Logic.{⊎_elim, inl, inr}
use mathlib.Core.List.{List}
use Prim.Native.Nat.{ℕ, ◌+◌, ◌*◌, ◌≤◌, ◌<◌}
use native.Mathlib.Omega.{arith}
use lib.IntN.{ℤ}
use lib.Seq.{length-sets}
use Rattle.rules.specs.Tests.{eq_z}
use Rattle.rules.specs.Surface.{slots, rect_of, record_of, free_record, with_record, cell, fresh, occupied}
use Rattle.rules.specs.Requests.{id_low, id_high, kind_asked, id_asked, slot_of, step_of, record_after, needs_old}
use Rattle.rules.specs.Blocks.{State, with_step}
use Rattle.rules.specs.declared.Rect.{Rect}
use Rattle.rules.specs.Refusals.{Done}
use Rattle.rules.proofs.Tests.{eq_z_true, eq_z_same, not_both, fails}
use Rattle.meaning.proofs.Splits.{by_test, by_less}
use Rattle.meaning.specs.Change.Change.{puts, takes, swaps}
use Rattle.meaning.specs.Change.{Spared, StepOrRefusal, Change}
use Rattle.demands.specs.Frame.{Reached, bare, MayChange, Framed}
use Rattle.meaning.proofs.Tables.{sets_low, sets_high}
use Rattle.meaning.specs.Change.Spared.{aside, higher, past}
use Rattle.meaning.proofs.Changes.{put_frame, take_frame}
use Rattle.demands.specs.Frame.MayChange.{of_module, of_old}
use Rattle.meaning.proofs.Steps.{StateStands, change, accepted_as, record_eight, put_leaves, take_leaves, swap_leaves}

-- WHAT FAILS TO BE THE SAME IS NOT OUT OF THE MODULE'S REACH: it is in it
reached : (m : Rect) (t : List ℕ) (c r : ℕ) (Same : Type 0) → (Spared m t c r → Same) → (Same → ⊥) → Reached m t c r
reached m t c r Same spared ne =
    record {
      left = by_less c m.x (λ l. absurd (ne (spared (aside (inl l))))) (λ g. g);
      right = by_less c (m.x + m.w) (λ l. l) (λ g. absurd (ne (spared (aside (inr g)))));
      top = by_less r m.y (λ l. absurd (ne (spared (higher l)))) (λ g. g);
      clear = λ j a b. fails (occupied t c j) (λ e. ne (spared (past j a (omega arith) e)));
    }

module _ (W H : ℕ) (q : List ℕ) (a : State) (i : ℕ) (r : Rect) (d : StateStands W H a) where
  abbrev t : List ℕ
  t = a.table

  abbrev s : List ℤ
  s = a.weights

  abbrev end : State
  end = with_step W H q (Done i r) a

  framed : i < slots t → ((c y : ℕ) → c < W → y < H → (cell W end.weights c y ≡ cell W s c y → ⊥) → MayChange t q r c y) → Framed W H q i r a end
  framed l f = record {
    slot = l;
    long = length-sets t (8 * i) (record_after q r);
    bytes = λ k o.
        ⊎_elim (sets_low 0 (record_after q r) t (8 * i) k) (λ (hi : 8 * i + 8 ≤ k). sets_high 0 (record_after q r) t (8 * i) k (omega (arith, record_eight q r))) o;
    weights = f;
  }

  -- the table without the old module
  bare_is : (b : Bool) → needs_old q ≡ b → bare t q ≡ cond b (with_record t (slot_of t (id_asked q)) free_record) t
  bare_is b e = ap (λ b. cond b (with_record t (slot_of t (id_asked q)) free_record) t) e

  -- a change that has not left a weight as it was reaches it
  go : Change W H s t q i r → Framed W H q i r a end
  go (puts n l p) = framed p.slot (λ c y hc hy ne.
      of_module (subst (λ u. Reached r u c y) (sym (bare_is false (ap₂ ◌||◌ n.no_remove n.no_exchange)))
      (reached r t c y _ (put_frame W H s t i (id_low q) (id_high q) r (kind_asked q) p c y hc hy) (λ k. ne (ap (λ u. cell W (fresh W H u) c y) (put_leaves W H s t q i r n.no_remove) ∙ k)))))
  go (takes o x p m) = framed p.taking.slot (λ c y hc hy ne.
      of_module (subst₂ (λ v u. Reached v u c y) (sym m) (ap (λ j. with_record t j free_record) p.at ∙ sym (bare_is true (ap₂ ◌||◌ o x)))
      (reached (rect_of t i) (with_record t i free_record) c y _ (take_frame W H s t i p.taking c y hc hy) (λ k. ne (ap (λ u. cell W (fresh W H u) c y) (take_leaves W H s t q i r o) ∙ k)))))
  go (swaps o x p v n) = framed p.taking.slot (λ c y hc hy ne.
      let u = with_record t i free_record in
      let g : u ≡ bare t q = ap (λ j. with_record t j free_record) p.at ∙ sym (bare_is true (ap₂ ◌||◌ o x)) in
      let w : cell W end.weights c y ≡ cell W (fresh W H (with_record u i (record_of (id_low q) (id_high q) r (kind_asked q)))) c y = ap (λ v. cell W (fresh W H v) c y) (swap_leaves W H s t q i r o p.taking) in
      by_test (eq_z (cell W (fresh W H u) c y) (cell W s c y))
      (λ k.
      of_module (subst (λ v. Reached r v c y) g
      (reached r u c y _ (put_frame W H (fresh W H u) u i (id_low q) (id_high q) r (kind_asked q) n c y hc hy) (λ j. ne (w ∙ j ∙ eq_z_true (cell W (fresh W H u) c y) (cell W s c y) k)))))
      (λ k.
      of_old (ap₂ ◌||◌ o x) (subst₂ (λ m v. Reached m v c y) (ap (rect_of t) p.at) g
      (reached (rect_of t i) u c y _ (take_frame W H s t i p.taking c y hc hy) (λ j. not_both (eq_z (cell W (fresh W H u) c y) (cell W s c y)) (ap (λ x. eq_z x (cell W s c y)) j ∙ eq_z_same (cell W s c y)) k)))))

  -- THE FRAME OF AN ACCEPTED REQUEST
  pub frame : StepOrRefusal (Done i r) (step_of W H t q) → Framed W H q i r a end
  frame k = go (change W H s t q d i r (accepted_as i r _ k))
