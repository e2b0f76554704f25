-- BLOCKS OF THE FABRIC (order 2): none is moved, removed or written over by any request, and nothing comes to stand on one; nor on any module that was there (order 3). Assumes nothing.
use mathlib.Core.Path.{◌≡◌, refl, sym, ap, ◌∙◌, subst}
use mathlib.Core.Bool.{true, false, not, ◌&&◌, true≢false}
use mathlib.Core.List.{List}
use Prim.Native.Nat.{ℕ, zero, suc, ◌≤◌, ◌<◌}
use native.Mathlib.Nat.{eq-or-lt_of_le}
use mathlib.Core.Logic.{⊎_elim}
use native.Mathlib.Omega.{arith}
use borrow.Author.Tests.{eq-eqb, ne_eqb}
use lib.IntN.{ℤ}
use lib.ListN.{get_or-eq_default}
use Rattle.rules.specs.Surface.{Standing, slots, covers, byte, rect_of, kind_of, is_hard, free_slot, holds, occupied}
use Rattle.rules.specs.Empties.{cells_empty}
use Rattle.rules.specs.Requests.{is_remove, record_after, step_of, table_after}
use Rattle.rules.specs.Blocks.{State, request, next_by, after_by}
use Rattle.rules.specs.declared.Rect.{Rect}
use Rattle.rules.specs.Refusals.{Step, Refused, Done}
use Rattle.rules.proofs.Tests.{and_both, not_both, fails, any_yes}
use Rattle.meaning.specs.Change.{StepOrRefusal, Stricter, Change}
use Rattle.meaning.specs.Change.Change.{puts, takes, swaps}
use Rattle.meaning.proofs.Splits.{by_less}
use Rattle.meaning.proofs.Tables.{free_byte, bytes_free, record_alike}
use Rattle.meaning.proofs.Weights.{covers_within, holds_both}
use Rattle.meaning.proofs.Stands.{sound_told, slots_told, apart_told, standing_table}
use Rattle.meaning.proofs.Changes.{slot_fits, empty_at}
use Rattle.meaning.proofs.Steps.{StateStands, change, accepted_as, record_eight, after_by_stands}
use Rattle.demands.specs.History.{Module}
use Rattle.demands.specs.Told.{HasModule, HardStays}

-- ---- a block's slot is used, and is one of the table's

pub hard_used : (t : List ℕ) (i : ℕ) → kind_of t i ≡ 1 → free_slot t i ≡ false
hard_used t i e = fails (free_slot t i) (λ f. omega (arith, e, free_byte t i f 6 (omega arith)))

pub used_low : {W H : ℕ} {s : List ℤ} {t : List ℕ} → Standing W H s t → (i : ℕ) → free_slot t i ≡ false → i < slots t
used_low {t = t} d i f = by_less i (slots t) (λ l. l) (λ g. not_both (free_slot t i) (bytes_free t i (λ k l. get_or-eq_default t 0 (omega (arith, d.whole)))) f)

-- ---- a block stays from table to table

pub stays_same : (t : List ℕ) → HardStays t t
stays_same t i e k l = refl

pub stays_on : (t u v : List ℕ) → HardStays t u → HardStays u v → HardStays t v
stays_on t u v f g i e k l = g i (f i e 6 (omega arith) ∙ e) k l ∙ f i e k l

-- a slot that is written has no block
pub written_soft : (W H : ℕ) (s : List ℤ) (t q : List ℕ) (i : ℕ) (r : Rect) → Change W H s t q i r → (i < slots t) × (is_hard t i ≡ false)
written_soft W H s t q i r (puts n l p) = (p.slot, ne_eqb (kind_of t i) 1 (λ e. omega (arith, e, free_byte t i p.unused 6 (omega arith))))
written_soft W H s t q i r (takes o x p m) = (p.taking.slot, p.soft)
written_soft W H s t q i r (swaps o x p v n) = (p.taking.slot, p.soft)

-- A REQUEST LEAVES EVERY BLOCK AS IT WAS, whatever it comes to
pub hard_step : (W H : ℕ) (q : List ℕ) (a : State) (d : Step) → StepOrRefusal d (step_of W H a.table q) → StateStands W H a → HardStays a.table (table_after q d a.table)
hard_step W H q a (Refused c) k z = stays_same a.table
hard_step W H q a (Done i r) k z =
    let t = a.table in
    let w = written_soft W H a.weights t q i r (change W H a.weights t q z i r (accepted_as i r _ k)) in
    let u = record_alike t i (record_after q r) (record_eight q r) (slot_fits z w.0) in
    λ j e b l. u.bytes j b (λ is. not_both (is_hard t i) (eq-eqb (kind_of t i) 1 (ap (kind_of t) (sym is) ∙ e)) w.1) l

-- so do the requests of a block, from any of them to any later one
module _ (f : List ℕ → List ℕ → Step) (W H : ℕ) (ok : Stricter W H f) (b : List ℕ) (a : State) (d : StateStands W H a) where
  pub hard_after : (j k : ℕ) → j ≤ k → HardStays (after_by f W H b a j).table (after_by f W H b a k).table
  unfolding after_by next_by
  hard_after j zero l = let e : j ≡ 0 = omega arith in subst (λ n. HardStays (after_by f W H b a n).table a.table) (sym e) (stays_same a.table)
  hard_after j (suc k) l =
      ⊎_elim
      (λ (e : j ≡ suc k). subst (λ n. HardStays (after_by f W H b a n).table (after_by f W H b a (suc k)).table) (sym e) (stays_same (after_by f W H b a (suc k)).table))
      (λ (h : j < suc k).
      let z = after_by f W H b a k in
      stays_on (after_by f W H b a j).table z.table (after_by f W H b a (suc k)).table (hard_after j k (omega arith))
      (hard_step W H (request b k) z (f z.table (request b k)) (ok z.table (request b k)) (after_by_stands f W H ok b a d k)))
      (eq-or-lt_of_le l)

-- a block that a table has, one to which it stays has too
pub stays_has : {W H : ℕ} {s : List ℤ} (t u : List ℕ) → HardStays t u → Standing W H s u → (m : Module) → m.kind ≡ 1 → HasModule t m → HasModule u m
stays_has t u f d m e w =
    let i = m.slot in
    let h = w.kind ∙ e in
    let b : (k : ℕ) → k < 8 → byte u i k ≡ byte t i k = f i h in
    let used = hard_used u i (b 6 (omega arith) ∙ h) in
    record {
      low = used_low d i used;
      used = used;
      id = rw (b 0 (omega arith), b 1 (omega arith)) w.id;
      place = rw (b 2 (omega arith), b 3 (omega arith), b 4 (omega arith), b 5 (omega arith)) w.place;
      kind = b 6 (omega arith) ∙ w.kind;
    }

-- ---- nothing comes to stand on what was there

-- the cells of a used slot are occupied
pub used_occupied : {W H : ℕ} {s : List ℤ} {t : List ℕ} → Standing W H s t → (j : ℕ) → free_slot t j ≡ false → (x y : ℕ) → covers (rect_of t j) x y ≡ true → occupied t x y ≡ true
unfolding occupied
used_occupied {t = t} d j f x y e = any_yes (slots t) (holds t x y) j (used_low d j f) (holds_both t x y j (ap not f) e)

-- two used slots, in a table that stands, share no cell
pub slots_apart : {W H : ℕ} {s : List ℤ} {t : List ℕ} → Standing W H s t → (i j : ℕ) → (i ≡ j → ⊥) → free_slot t i ≡ false → free_slot t j ≡ false → (x y : ℕ) → covers (rect_of t i) x y ≡ true → covers (rect_of t j) x y ≡ false
slots_apart {W} {H} {s} {t} d i j ne f g x y e =
    let u = standing_table W H s t d in
    let p = (sound_told W H t i (slots_told W H t u.slots_are i (used_low d i f) f)).place in
    let w = covers_within (rect_of t i) x y e in
    fails (covers (rect_of t j) x y) (λ k.
    not_both (holds t x y i && holds t x y j) (and_both (holds_both t x y i (ap not f) e) (holds_both t x y j (ap not g) k))
    (apart_told W H t u.modules_are x y (omega (arith, w.right, p.columns)) (omega (arith, w.bottom, p.lines)) i j (used_low d i f) (used_low d j g) ne))

-- WHAT IS PUT IN SHARES NO CELL WITH A MODULE OR A BLOCK THAT WAS THERE: its cells were all empty; (r is what a remove takes out, and that of slot i)
pub change_clear : (W H : ℕ) (s : List ℤ) (t q : List ℕ) (i : ℕ) (r : Rect) → Standing W H s t → Change W H s t q i r →
    (j : ℕ) → free_slot t j ≡ false → (is_remove q ≡ true → j ≡ i → ⊥) → (x y : ℕ) → covers (rect_of t j) x y ≡ true → covers r x y ≡ false
change_clear W H s t q i r d c j f ne x y e =
    let clear : cells_empty (occupied t) r ≡ true → covers r x y ≡ false =
    λ v. fails (covers r x y) (λ k. true≢false (sym (used_occupied d j f x y e) ∙ empty_at (occupied t) r v x y k)) in
    elim c [
      | puts n l p ↦ clear p.empty
      | takes o z p m ↦ ap (λ v. covers v x y) m ∙ slots_apart d j i (ne o) f p.taking.used x y e
      | swaps o z p v n ↦ clear v
    ]
