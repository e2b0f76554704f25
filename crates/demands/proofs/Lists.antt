-- WHAT A LIST CALL HAS RETURNED AND WRITTEN, from its contract; and how large a room is enough for it. Assumes nothing.
use mathlib.Core.Path.{◌≡◌, refl, sym, ap, ap₂, ◌∙◌, subst}
use mathlib.Core.Bool.{Bool, true, false, cond}
use mathlib.Core.List.{List, [], ◌∷◌, ◌++◌}
use Prim.Native.Nat.{ℕ, zero, suc, ◌+◌, ◌-◌, ◌*◌, ◌≤◌, ◌<◌}
use native.Mathlib.Omega.{arith}
use borrow.Author.Tests.{eqb-true, eqb-false, eq-eqb, le-ltb}
use lib.Dec.{eqb}
use lib.ListN.{length, get_or, drop, get_or-append}
use lib.Seq.{get_or-append-add}
use Rattle.rules.specs.Tests.{total, count, keep}
use Rattle.rules.specs.Surface.{Standing, rect, occupied}
use Rattle.rules.specs.Empties.{entry_record, entry_records, scanned, scanned_rows}
use Rattle.rules.specs.Judging.{first}
use Rattle.rules.specs.Calls.{code_of_result, first_of_result, entries_of, short_room, check_lines, check_code, list_lines, list_code}
use Rattle.rules.specs.Host.{LentSurface, bad_bytes, weights_in, host_check, HostListedBy}
use Rattle.rules.specs.declared.Rect.{Rect}
use Rattle.rules.proofs.Tests.{total_same, keep_count, mem_get_or}
use Rattle.meaning.proofs.Splits.{by_test}
use Rattle.meaning.proofs.Theorems as T
use Rattle.demands.specs.Listed.{HoldsList, bottom_in}
use Rattle.demands.specs.Chain.{Chain}
use Rattle.demands.proofs.Refusals.{below, first_below}
use Rattle.demands.proofs.Calls.{check_code_lem, list_code_lem, list_refused_lem, list_stands, list_room_lem, list_result_lem, list_counts}
use Rattle.demands.proofs.Chains.{standing_sizes, chain_stands, chain_long}

pub holds_list : (W H : ℕ) (l : LentSurface) (room : List ℕ) {r : ℕ} {room' : List ℕ} → HostListedBy W H l room r room' → code_of_result r ≡ 0 → HoldsList W H l room r room'
holds_list W H l room p e = record {
  stands = list_stands W H l room p e;
  list = entries_of W H l.table;
  exact = T.list_exact (occupied l.table) W H;
  order = T.list_in_order (occupied l.table) W H;
  written = list_room_lem W H l room p e;
  result = list_result_lem W H l room p e;
  entries = (list_counts W H l room p e).0;
  corners = (list_counts W H l room p e).1;
}

-- ---- the records in a room: byte j of the k-th is byte j of the k-th rectangle's

record_byte : (l : List Rect) (rest : List ℕ) (d : Rect) (k j : ℕ) → k < length l → j < 8 → get_or (entry_records l ++ rest) (8 * k + j) 0 ≡ get_or (entry_record (get_or l k d)) j 0
unfolding entry_records
record_byte [] rest d k j h g = absurd (omega arith)
record_byte (r ∷ l) rest d zero j h g =
    let e : 8 * 0 + j ≡ j = omega arith in
    ap (λ i. get_or (entry_records (r ∷ l) ++ rest) i 0) e ∙ get_or-append (entry_record r) (entry_records l ++ rest) 0 j g
record_byte (r ∷ l) rest d (suc k) j h g =
    let e : 8 * suc k + j ≡ 8 + (8 * k + j) = omega arith in
    ap (λ i. get_or (entry_records (r ∷ l) ++ rest) i 0) e ∙ get_or-append-add (entry_record r) (entry_records l ++ rest) (8 * k + j) 0 ∙ record_byte l rest d k j (omega arith) g

-- any rectangle, for a place behind the list's end
abbrev none : Rect
none = rect 0 0 0 0

module _ (W H : ℕ) (l : LentSurface) (room : List ℕ) {r : ℕ} {room' : List ℕ} (p : HostListedBy W H l room r room') where
  abbrev t : List ℕ
  t = l.table

  abbrev list : List Rect
  list = entries_of W H t

  -- a refused call counts none
  by_done : (P : ℕ → Type 0) → P 0 → (code_of_result r ≡ 0 → P (length list)) → P (first_of_result r)
  by_done P z f =
      by_test (eqb (code_of_result r) 0)
      (λ e. let c = eqb-true (code_of_result r) 0 e in subst P (sym (list_counts W H l room p c).0) (f c))
      (λ e. let c = (list_refused_lem W H l room p (eqb-false (code_of_result r) 0 e)).1 in let q : 0 ≡ first_of_result r = omega arith in subst P q z)

  -- ---- entries, all and by their bottom row

  pub listed_bound : first_of_result r ≤ W * scanned_rows H t
  listed_bound = by_done (λ n. n ≤ W * scanned_rows H t) (omega arith) (λ e. T.list_bound W H t)

  bottom_at : code_of_result r ≡ 0 → (k : ℕ) → k < length list → bottom_in room' k ≡ (get_or list k none).y + (get_or list k none).h - 1
  bottom_at e k h =
      let rest = drop (8 * length list) room in
      ap (λ u. bottom_in u k) (list_room_lem W H l room p e) ∙ ap₂ (λ y h. y + h - 1) (record_byte list rest none k 1 h (omega arith)) (record_byte list rest none k 3 h (omega arith))

  pub listed_row_bound : (y : ℕ) → count (first_of_result r) (λ k. eqb (bottom_in room' k) y) ≤ W
  listed_row_bound y =
      by_done (λ n. count n (λ k. eqb (bottom_in room' k) y) ≤ W) (unfold total in omega arith)
      (λ e.
      let ends : Rect → Bool = λ a. eqb (a.y + a.h - 1) y in
      let q : count (length list) (λ k. eqb (bottom_in room' k) y) ≡ length (keep ends list) =
      total_same (length list) _ _ (λ k h. ap (λ b. cond (eqb b y) 1 0) (bottom_at e k h)) ∙ keep_count ends list none in
      omega (arith, T.row_bound (occupied t) W H y))

  pub listed_row_scanned : (k : ℕ) → k < first_of_result r → scanned H t (bottom_in room' k) ≡ true
  listed_row_scanned k =
      by_done (λ n. k < n → scanned H t (bottom_in room' k) ≡ true)
      (λ h. absurd (omega arith))
      (λ e h. ap (scanned H t) (bottom_at e k h) ∙ T.entry_row_scanned t W H (get_or list k none) (mem_get_or list k none h))

  -- ---- a room of W entries for each scanned row

  module _ (enough : 8 * (W * scanned_rows H t) ≤ length room) where
    -- is not too short
    long_enough : short_room W H t room ≡ false
    long_enough = le-ltb (length room) (8 * length list) (omega (arith, T.list_bound W H t))

    -- so the code is that of a check
    as_check : code_of_result r ≡ check_code (bad_bytes W H l) W H (weights_in l) t
    unfolding list_code list_lines check_code check_lines first
    as_check = list_code_lem W H l room p ∙ rw long_enough

    pub room_as_check : code_of_result r ≡ code_of_result (host_check W H l)
    room_as_check = as_check ∙ sym (check_code_lem W H l refl)

    pub room_enough : code_of_result r ≡ 7 → ⊥
    unfolding check_code check_lines below
    room_enough e = omega (arith, as_check, first_below 7 (check_lines (bad_bytes W H l) W H (weights_in l) t) (omega arith) refl)

    pub room_enough_done : length l.weights ≡ 2 * (W * H) → Standing W H (weights_in l) t → code_of_result r ≡ 0
    unfolding check_code check_lines first
    room_enough_done e d =
        let z = standing_sizes W H (weights_in l) t d in
        as_check ∙ rw (z.0, eq-eqb (length l.weights) (2 * (W * H)) e, z.1, d.sound)

    -- after a clear and blocks that were not refused
    pub chain_room_enough : {l₀ : LentSurface} {qs : List (List ℕ)} {a : List ℕ} {n : ℕ} → Chain W H l₀ qs l a n → code_of_result r ≡ 0
    chain_room_enough {l₀} z = room_enough_done (chain_long W H l₀ z) (chain_stands W H l₀ z)
