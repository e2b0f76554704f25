-- Marks: a scratch as large as the surface, on which each module's own cells get the number that the module gives them, and all others are 1.
use Rattle.std.specs.Prelude.{Result, IfOk, OnOk, IfErr, ◌≡◌, true, false, cond, ◌&&◌, ◌||◌, ◌⊎◌, List, ℕ, ◌+◌, ◌*◌, ◌≤◌, ◌<◌, eqb, ℤ, pos, neg_ℤ, length, get_or}
use Rattle.rules.specs.Tests.{any, count, least}
use Rattle.rules.specs.Surface.{slots, id_of, free_slot, used_slot, sound_slot, cell, holds, remaining}
use Rattle.rules.specs.Requests.{has_id}
use Rattle.rules.specs.Refusals.{result_code}
use Rattle.rules.specs.declared.Refusal.{Refusal}
use Rattle.rules.specs.declared.Refusal.TheVariants.{DoesNotStand}
use Rattle.surface.specs.Slots.{table_stands, Under}

-- the j rows from y of the columns x .. x + n - 1 are marked, column c with the number g c, and nothing else has changed
pub record Marked (W : ℕ) (s₀ s : List ℤ) (x y n j : ℕ) (g : ℕ → ℕ) : Type 0 where
  pub long : length s ≡ length s₀
  pub inside : (c r : ℕ) → x ≤ c → c < x + n → y ≤ r → r < y + j → cell W s c r ≡ neg_ℤ (pos (g c))
  pub beside : (c r : ℕ) → c < W → (c < x) ⊎ (x + n ≤ c) → cell W s c r ≡ cell W s₀ c r
  pub above : (c r : ℕ) → c < W → r < y → cell W s c r ≡ cell W s₀ c r
  pub below : (c r : ℕ) → c < W → y + j ≤ r → cell W s c r ≡ cell W s₀ c r

-- the mark of cell (x, y) by the modules of the first n slots
unfoldable pub mark_of : List ℕ → ℕ → ℕ → ℕ → ℤ
mark_of t n x y = cond (any n (holds t x y)) (remaining t (least n (holds t x y)) x) (pos 1)

-- the modules of the first n slots are marked, and no two of them share a cell
pub record MarkedTo (W H : ℕ) (t : List ℕ) (n : ℕ) (m : List ℤ) : Type 0 where
  pub long : length m ≡ W * H
  pub cells : (x y : ℕ) → x < W → y < H → cell W m x y ≡ mark_of t n x y
  pub apart : (x y : ℕ) → x < W → y < H → (j : ℕ) → j < n → (i : ℕ) → i < j → (holds t x y i && holds t x y j) ≡ false

-- each of the first i slots is free or sound, the n used ones among them have ids of their own, which stand side by side in ids, and modules that
-- are apart and marked
pub record TakenTo (W H : ℕ) (t : List ℕ) (i : ℕ) (ids : List ℕ) (n : ℕ) (m : List ℤ) : Type 0 where
  pub many : n ≡ count i (used_slot t)
  pub sound : (j : ℕ) → j < i → (free_slot t j || sound_slot W H t j) ≡ true
  pub differ : (j : ℕ) → j < i → used_slot t j ≡ true → any j (has_id t (id_of t j)) ≡ false
  pub noted : (id : ℕ) → any n (λ k. eqb (get_or ids k 0) id) ≡ any i (has_id t id)
  pub marked : MarkedTo W H t i m

-- what is asked before the used slot i is taken
pub record Takeable (W H : ℕ) (t : List ℕ) (i : ℕ) (ids : List ℕ) (n top : ℕ) (m : List ℤ) : Type 0 where
  pub wide : 1 ≤ W
  pub widest : W ≤ 64
  pub low : i < slots t
  pub used : used_slot t i ≡ true
  pub room : n < length ids
  pub under : Under ids n top
  pub taken : TakenTo W H t i ids n m

-- and what is left: it is taken too, and r is what no id is over; or it is refused, and the surface does not stand
pub record SlotTaken (W H : ℕ) (t : List ℕ) (i : ℕ) (ids : List ℕ) (n : ℕ) (m : List ℤ) (r : Result ℕ Refusal) : Type 0 where
  pub more : OnOk r (TakenTo W H t (i + 1) ids (n + 1) m)
  pub under : IfOk r (λ top. Under ids (n + 1) top)
  pub falls : IfErr r (λ e. (e ≡ DoesNotStand) × (table_stands W H t ≡ false))

-- all slots are taken: code 0, and all modules are marked; or code 6, "the surface does not stand"
pub record AllTaken (W H : ℕ) (t : List ℕ) (m : List ℤ) (r : Result (Unit {0}) Refusal) : Type 0 where
  pub code : result_code r ≡ cond (table_stands W H t) 0 6
  pub marked : OnOk r (MarkedTo W H t (slots t) m)
