-- THE HISTORY AND THE TABLE, request by request: the table holds exactly the modules of the history, each in its slot. Assumes nothing.
use mathlib.Core.Path.{◌≡◌, refl, sym, ap, ap₂, ◌∙◌, subst, subst₂}
use mathlib.Core.Bool.{Bool, true, false, not, cond, ◌||◌, true≢false}
use mathlib.Core.List.Memᴰ
use mathlib.Core.List.{List, [], ◌∷◌, Memᴰ}
use Prim.Native.Nat.{ℕ, ◌+◌, ◌*◌, ◌≤◌, ◌<◌}
use native.Mathlib.Omega.{arith}
use borrow.Author.Tests.{eqb-true, eq-eqb, ne_eqb, not-true}
use lib.Dec.{eqb}
use lib.IntN.{ℤ}
use Rattle.rules.specs.Tests.{least, keep}
use Rattle.rules.specs.Surface.{rect, slots, id_of, rect_of, kind_of, record_of, free_record, free_slot, with_record}
use Rattle.rules.specs.Empties.{Ordered}
use Rattle.rules.specs.Requests.{operation, id_low, id_high, id_asked, is_place, is_pin, is_set, at_place, makes_new, kind_asked, has_id, id_placed, lowest_free, step_of, answer_of, table_after}
use Rattle.rules.specs.Blocks.{State}
use Rattle.rules.specs.declared.Rect.{Rect}
use Rattle.rules.specs.Refusals.{Step, Refused, Done}
use Rattle.rules.proofs.Tests.{and_both, not_both, fails, any_none, least_is, keep_mem, mem_keep, all_at, all_yes}
use Rattle.meaning.specs.Change.{Placing, Taking, StepOrRefusal, Change}
use Rattle.meaning.specs.Change.Change.{puts, takes, swaps}
use Rattle.meaning.proofs.Splits.{by_test, by_same, by_or, by_cons}
use Rattle.meaning.proofs.Order.{ordered_keep}
use Rattle.meaning.proofs.Tables.{Alike, alike_back, alike_slots, alike_free, alike_id, alike_rect, alike_kind, look_found}
use Rattle.meaning.proofs.Stands.{same_id, ids_told, standing_table}
use Rattle.meaning.proofs.Changes.{put_id, put_kind, put_more, taken_alike, taken_less}
use Rattle.meaning.proofs.Steps.{StateStands, kind_is, change, accepted_as, refusal_code, put_leaves, take_leaves, swap_leaves}
use Rattle.demands.specs.History.{Module, module_at, others, unused, least_unused, slot_in, noted}
use Rattle.demands.specs.Told.{HasModule, Told}

abbrev Differ : Module → Module → Type 0
Differ m n = m.id ≡ n.id → ⊥

-- no module
pub told_none : (t : List ℕ) → ((i : ℕ) → free_slot t i ≡ true) → Told [] t
unfolding Ordered
told_none t f = record {
  exact = λ m. ((λ k. absurd (Memᴰ.not-nil k)), (λ w. not_both (free_slot t m.slot) (f m.slot) w.used));
  differ = tt;
}

-- in tables that differ in one slot, another slot's module is there alike
has_alike : {t u : List ℕ} {i : ℕ} → Alike t u i → (m : Module) → (m.slot ≡ i → ⊥) → HasModule t m → HasModule u m
has_alike a m ne w =
    record {
      low = omega (arith, alike_slots a, w.low);
      used = alike_free a m.slot ne ∙ w.used;
      id = alike_id a m.slot ne ∙ w.id;
      place = alike_rect a m.slot ne ∙ w.place;
      kind = alike_kind a m.slot ne ∙ w.kind;
    }

-- ---- a module is put in

module _ (W H : ℕ) (s : List ℤ) (t : List ℕ) (i low high : ℕ) (r : Rect) (kind : ℕ) (p : Placing W H s t i low high r kind) where
  abbrev more : List ℕ
  more = with_record t i (record_of low high r kind)

  abbrev new : Module
  new = module_at i (low + 256 * high) r kind

  -- the module is there
  pub put_has : HasModule more new
  put_has =
      let o = put_more W H s t i low high r kind p in
      record { low = omega (arith, alike_slots o.alike, p.slot); used = o.used; id = put_id W H s t i low high r kind p; place = o.rect; kind = put_kind W H s t i low high r kind p }

  pub told_put : (h : List Module) → Told h t → Told (new ∷ h) more
  unfolding Ordered id_placed
  told_put h d = record { exact = λ m. (there m, back m); differ = (fresh_id, d.differ) }
    where
      there : (m : Module) → Memᴰ m (new ∷ h) → HasModule more m
      there m k =
          by_cons k
          (λ q. subst (HasModule more) (sym q) put_has)
          (λ l. let w = (d.exact m).0 l in has_alike (put_more W H s t i low high r kind p).alike m (λ q. not_both (free_slot t i) p.unused (ap (free_slot t) (sym q) ∙ w.used)) w)

      back : (m : Module) → HasModule more m → Memᴰ m (new ∷ h)
      back m w =
          by_same m.slot i
          (λ q.
          let e : m.id ≡ low + 256 * high = sym w.id ∙ ap (id_of more) q ∙ put_has.id in
          let f : m.place ≡ r = sym w.place ∙ ap (rect_of more) q ∙ put_has.place in
          let g : m.kind ≡ kind = sym w.kind ∙ ap (kind_of more) q ∙ put_has.kind in
          Memᴰ.head (λ j. record { slot = q j; id = e j; place = f j; kind = g j }))
          (λ ne. Memᴰ.tail ((d.exact m).1 (has_alike (alike_back (put_more W H s t i low high r kind p).alike) m ne w)))

      fresh_id : (m : Module) → Memᴰ m h → low + 256 * high ≡ m.id → ⊥
      fresh_id m k e =
          let w = (d.exact m).0 k in
          true≢false (sym (and_both (ap not w.used) (eq-eqb (id_of t m.slot) (low + 256 * high) (w.id ∙ sym e)))
          ∙ any_none (slots t) (has_id t (low + 256 * high)) p.new m.slot w.low)

-- ---- a module is taken out

module _ (W H : ℕ) (s : List ℤ) (t : List ℕ) (i : ℕ) (p : Taking W H s t i) where
  abbrev less : List ℕ
  less = with_record t i free_record

  abbrev other : Module → Bool
  other m = not (eqb m.id (id_of t i))

  pub told_take : (h : List Module) → Told h t → Told (others (id_of t i) h) less
  told_take h d = record { exact = λ m. (there m, back m); differ = ordered_keep Differ other h d.differ }
    where
      there : (m : Module) → Memᴰ m (keep other h) → HasModule less m
      there m k =
          let a = taken_alike W H s t i p in
          let e = mem_keep other h k in
          let w = (d.exact m).0 e.0 in
          has_alike a m (λ q. not_both (other m) e.1 (ap not (eq-eqb m.id (id_of t i) (sym w.id ∙ ap (id_of t) q)))) w

      back : (m : Module) → HasModule less m → Memᴰ m (keep other h)
      back m w =
          let a = taken_alike W H s t i p in
          let ne : m.slot ≡ i → ⊥ = λ q. not_both (free_slot less i) (taken_less W H s t i p).unused (ap (free_slot less) (sym q) ∙ w.used) in
          let k = has_alike (alike_back a) m ne w in
          keep_mem other h ((d.exact m).1 k)
          (ap not (ne_eqb m.id (id_of t i) (λ z.
          not_both (same_id t m.slot i)
          (and_both (and_both (ap not k.used) (ap not p.used)) (eq-eqb (id_of t m.slot) (id_of t i) (k.id ∙ z)))
          (ids_told t (standing_table W H s t p.standing).ids_are m.slot i k.low p.slot ne))))

-- ---- the slots that the history works out are the table's

module _ (h : List Module) (t : List ℕ) (d : Told h t) where
  -- the module of a used slot
  pub at_slot : (i : ℕ) → i < slots t → free_slot t i ≡ false → Memᴰ (module_at i (id_of t i) (rect_of t i) (kind_of t i)) h
  at_slot i l f = (d.exact (module_at i (id_of t i) (rect_of t i) (kind_of t i))).1 (record { low = l; used = f; id = refl; place = refl; kind = refl })

  abbrev apart : ℕ → Module → Bool
  apart i m = not (eqb m.slot i)

  -- no module of the history has a slot exactly when it is free
  unused_free : (i : ℕ) → i < slots t → unused h i ≡ free_slot t i
  unused_free i l =
      by_test (free_slot t i)
      (λ f.
      all_yes (apart i) h (λ m k. ap not (ne_eqb m.slot i (λ q. not_both (free_slot t i) f (ap (free_slot t) (sym q) ∙ ((d.exact m).0 k).used)))) ∙ sym f)
      (λ f. fails (unused h i) (λ e. not_both (eqb i i) (eq-eqb i i refl) (not-true (eqb i i) (all_at (apart i) h e (at_slot i l f)))) ∙ sym f)

  -- THE LEAST SLOT THAT NO MODULE OF THE HISTORY HAS IS THE TABLE'S LOWEST FREE ONE
  pub least_lowest : lowest_free t < slots t → slots t ≤ 256 → least_unused h ≡ lowest_free t
  unfolding least_unused lowest_free
  least_lowest l few =
      let w = least_is (slots t) (free_slot t) in
      sym (look_found 256 (unused h) (least (slots t) (free_slot t))
      (record { upto = omega arith; none = λ k lt. unused_free k (omega arith) ∙ w.before k (omega arith) lt })
      (omega arith) refl (unused_free (least (slots t) (free_slot t)) l ∙ w.here (omega arith)))

-- ids differ: the slot of an id is that of the one module with it
slot_is : (h : List Module) → Ordered Differ h → (m : Module) → Memᴰ m h → slot_in m.id h ≡ m.slot
unfolding slot_in Ordered
slot_is [] d m k = absurd (Memᴰ.not-nil k)
slot_is (n ∷ h) d m k =
    by_cons k
    (λ q. ap (λ b. cond b n.slot (slot_in m.id h)) (eq-eqb n.id m.id (ap (λ (a : Module). a.id) (sym q))) ∙ ap (λ (a : Module). a.slot) (sym q))
    (λ l. ap (λ b. cond b n.slot (slot_in m.id h)) (ne_eqb n.id m.id (d.0 m l)) ∙ slot_is h d.1 m l)

-- THE SLOT OF AN ID IN THE HISTORY IS THE TABLE'S
pub slot_told : (h : List Module) (t : List ℕ) → Told h t → (i id : ℕ) → i < slots t → free_slot t i ≡ false → id_of t i ≡ id → slot_in id h ≡ i
slot_told h t d i id l f e = ap (λ n. slot_in n h) (sym e) ∙ slot_is h d.differ (module_at i (id_of t i) (rect_of t i) (kind_of t i)) (at_slot h t d i l f)

-- ---- one request, that the rules' step or a refusal answers

module _ (W H : ℕ) (q : List ℕ) (a : State) (h : List Module) (z : StateStands W H a) (m : Told h a.table) where
  abbrev t : List ℕ
  t = a.table

  abbrev s : List ℤ
  s = a.weights

  -- what is noted of operation n, where the answer has code 0
  abbrev noted_by : ℕ → Rect → List Module
  noted_by n r =
      cond (eqb n 1 || eqb n 3) (module_at (least_unused h) (id_asked q) r 0 ∷ h)
      (cond (eqb n 6) (module_at (least_unused h) (id_asked q) r 1 ∷ h)
      (cond (eqb n 2) (others (id_asked q) h) (cond (eqb n 4) (module_at (slot_in (id_asked q) h) (id_asked q) r 0 ∷ others (id_asked q) h) h)))

  noted_as : (i : ℕ) (r : Rect) (n : ℕ) → operation q ≡ n → noted q (answer_of q (Done i r)) h ≡ noted_by n r
  noted_as i r n e = ap (λ n. noted_by n r) e

  -- the kind of what operation n puts in
  kind_as : (n : ℕ) → operation q ≡ n → kind_asked q ≡ cond (eqb n 6) 1 0
  kind_as n e = kind_is q (eqb n 6) (ap (λ n. eqb n 6) e)

  noted_new : (i : ℕ) (r : Rect) → makes_new q ≡ true → noted q (answer_of q (Done i r)) h ≡ module_at (least_unused h) (id_asked q) r (kind_asked q) ∷ h
  noted_new i r e =
      by_or (is_place q) (at_place q) e (λ p. by 1 (eqb-true (operation q) 1 p) refl) (λ a.
      by_or (is_pin q) (is_set q) a (λ p. by 3 (eqb-true (operation q) 3 p) refl) (λ p. by 6 (eqb-true (operation q) 6 p) refl))
    where
      by : (n : ℕ) → operation q ≡ n → noted_by n r ≡ module_at (least_unused h) (id_asked q) r (cond (eqb n 6) 1 0) ∷ h → noted q (answer_of q (Done i r)) h ≡ module_at (least_unused h) (id_asked q) r (kind_asked q) ∷ h
      by n o z = noted_as i r n o ∙ z ∙ ap (λ k. module_at (least_unused h) (id_asked q) r k ∷ h) (sym (kind_as n o))

  noted_refused : (c : ℕ) → (c ≡ 0 → ⊥) → noted q (answer_of q (Refused c)) h ≡ h
  noted_refused c ne = ap (λ b. cond (not b) h (noted_by (operation q) (rect 0 0 0 0))) (ne_eqb c 0 ne)

  done : (i : ℕ) (r : Rect) → Change W H s t q i r → Told (noted q (answer_of q (Done i r)) h) (table_after q (Done i r) t)
  done i r (puts n l p) =
      subst₂ Told
      (sym (noted_new i r n.makes ∙ ap (λ j. module_at j (id_asked q) r (kind_asked q) ∷ h) (least_lowest h t m (subst (λ j. j < slots t) l p.slot) z.few ∙ sym l)))
      (sym (put_leaves W H s t q i r n.no_remove))
      (told_put W H s t i (id_low q) (id_high q) r (kind_asked q) p h m)
  done i r (takes o x p e) =
      subst₂ Told
      (sym (noted_as i r 2 (eqb-true (operation q) 2 o) ∙ ap (λ n. others n h) (sym p.named)))
      (sym (take_leaves W H s t q i r o))
      (told_take W H s t i p.taking h m)
  done i r (swaps o x p v n) =
      let e = eqb-true (operation q) 4 x in
      let there = slot_told h t m i (id_asked q) p.taking.slot p.taking.used p.named in
      let new : Module = module_at i (id_asked q) r (kind_asked q) in
      subst₂ Told
      (sym (noted_as i r 4 e ∙ ap₂ (λ j k. module_at j (id_asked q) r k ∷ others (id_asked q) h) there (sym (kind_as 4 e)) ∙ ap (λ n. new ∷ others n h) (sym p.named)))
      (sym (swap_leaves W H s t q i r o p.taking))
      (told_put W H _ _ i (id_low q) (id_high q) r (kind_asked q) n (others (id_of t i) h) (told_take W H s t i p.taking h m))

  -- THE TABLE AFTER IT HOLDS EXACTLY THE MODULES OF THE HISTORY THEN
  pub told_step : (d : Step) → StepOrRefusal d (step_of W H t q) → Told (noted q (answer_of q d) h) (table_after q d t)
  told_step (Refused c) k = subst (λ g. Told g t) (sym (noted_refused c (refusal_code W H t q c k))) m
  told_step (Done i r) k = done i r (change W H s t q z i r (accepted_as i r _ k))
