-- THE WEIGHTS WORKED OUT AFRESH FROM THE HISTORY are those of a table that it tells. Assumes nothing.
use mathlib.Core.Path.{◌≡◌, refl, sym, ap, ap₂, ◌∙◌, fun_ext}
use mathlib.Core.Bool.{true, not, cond, ◌&&◌, false≢true}
use mathlib.Core.List.Memᴰ
use mathlib.Core.List.{List, [], ◌∷◌, Memᴰ}
use Prim.Native.Nat.{ℕ, ◌<◌}
use borrow.Author.Tests.{not-true}
use lib.IntN.{ℤ, pos, neg_ℤ}
use Rattle.rules.specs.Surface.{Standing, covers, slots, id_of, rect_of, kind_of, free_slot, holds, occupied, holder, upwards, number, weight, cell}
use Rattle.rules.proofs.Tests.{and_both, not_both, both_ways, or_left, or_right, any_at, any_yes}
use Rattle.meaning.proofs.Splits.{split, by_test, by_same, by_cons}
use Rattle.meaning.proofs.Weights.{holds_covers, holds_used, holds_both, holder_low, holder_holds, weight_number, weight_empty, stands_cell}
use Rattle.meaning.specs.Column.{number_at}
use Rattle.meaning.proofs.Stands.{apart_told, standing_table}
use Rattle.demands.specs.History.{Module, module_at, taken, remains, history_weight}
use Rattle.demands.specs.Told.{HasModule, Told}
use Rattle.demands.proofs.Told.{at_slot}

module _ (x y : ℕ) where
  -- a module of the list has the cell
  taken_yes : (h : List Module) (m : Module) → Memᴰ m h → covers m.place x y ≡ true → taken h x y ≡ true
  unfolding taken
  taken_yes [] m k e = absurd (Memᴰ.not-nil k)
  taken_yes (n ∷ h) m k e =
      by_cons k
      (λ q. or_left (covers n.place x y) (taken h x y) (ap (λ (a : Module). covers a.place x y) (sym q) ∙ e))
      (λ l. or_right (covers n.place x y) (taken h x y) (taken_yes h m l e))

  -- one that has it, and its number
  record Having (h : List Module) : Type 0 where
    which : Module
    «in» : Memᴰ which h
    has : covers which.place x y ≡ true
    is : remains h x y ≡ number which.slot which.place x

  taken_at : (h : List Module) → taken h x y ≡ true → Having h
  unfolding taken remains
  taken_at [] e = absurd (false≢true e)
  taken_at (m ∷ h) e =
      by_test (covers m.place x y)
      (λ p. record { which = m; «in» = Memᴰ.head refl; has = p; is = ap (λ b. cond b (number m.slot m.place x) (remains h x y)) p })
      (λ p.
      let w = taken_at h (rw p at e) in
      record { which = w.which; «in» = Memᴰ.tail w.«in»; has = w.has; is = ap (λ b. cond b (number m.slot m.place x) (remains h x y)) p ∙ w.is })

module _ (h : List Module) (t : List ℕ) (d : Told h t) where
  holds_of : (x y : ℕ) (m : Module) → HasModule t m → covers m.place x y ≡ true → holds t x y m.slot ≡ true
  holds_of x y m w e = holds_both t x y m.slot (ap not w.used) (ap (λ r. covers r x y) w.place ∙ e)

  -- A CELL IS OCCUPIED BY THE HISTORY'S MODULES EXACTLY WHEN IT IS BY THE TABLE'S
  pub taken_is : (x y : ℕ) → taken h x y ≡ occupied t x y
  unfolding occupied
  taken_is x y =
      both_ways (taken h x y) (occupied t x y)
      (λ e.
      let k = taken_at x y h e in
      let w = (d.exact k.which).0 k.«in» in
      any_yes (slots t) (holds t x y) k.which.slot w.low (holds_of x y k.which w k.has))
      (λ e.
      let k = any_at (slots t) (holds t x y) e in
      let i = k.0 in
      taken_yes x y h (module_at i (id_of t i) (rect_of t i) (kind_of t i))
      (at_slot h t d i k.1 (not-true (free_slot t i) (holds_used t x y i k.2)))
      (holds_covers t x y i k.2))

  module _ (W H : ℕ) (s : List ℤ) (z : Standing W H s t) (x y : ℕ) (hx : x < W) (hy : y < H) where
    -- the module that has the cell is the holder's
    remains_is : taken h x y ≡ true → remains h x y ≡ number_at t x y
    remains_is e =
        let k = taken_at x y h e in
        let w = (d.exact k.which).0 k.«in» in
        let o : occupied t x y ≡ true = sym (taken_is x y) ∙ e in
        let h : k.which.slot ≡ holder t x y =
        by_same k.which.slot (holder t x y) (λ q. q) (λ ne.
        not_both (holds t x y k.which.slot && holds t x y (holder t x y))
        (and_both (holds_of x y k.which w k.has) (holder_holds t x y o))
        (apart_told W H t (standing_table W H s t z).modules_are x y hx hy k.which.slot (holder t x y) w.low (holder_low t x y o) ne)) in
        k.is ∙ ap₂ (λ i r. number i r x) h (sym w.place ∙ ap (rect_of t) h)

    -- THE WEIGHT WORKED OUT AFRESH FROM THE HISTORY'S MODULES IS THE TABLE'S
    pub history_weight_lem : history_weight h x y ≡ weight t x y
    unfolding history_weight
    history_weight_lem =
        split (λ n. n ≡ weight t x y) (taken h x y)
        (λ e. ap (λ n. neg_ℤ (pos n)) (remains_is e) ∙ sym (weight_number t x y (sym (taken_is x y) ∙ e)))
        (λ e. ap (λ o. pos (upwards o x y)) (fun_ext (λ x. fun_ext (λ y. taken_is x y))) ∙ sym (weight_empty t x y (sym (taken_is x y) ∙ e)))

    pub cell_history : cell W s x y ≡ history_weight h x y
    cell_history = stands_cell W H s t z.sound x y hx hy ∙ sym history_weight_lem
