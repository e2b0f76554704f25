-- WHAT IS COUNTED: used slots, scanned rows and requests accepted, which are few; and a block that accepts none. Assumes nothing.
use mathlib.Core.Path.{◌≡◌, refl, ◌∙◌}
use mathlib.Core.Bool.{Bool, true, false, cond, ◌&&◌}
use mathlib.Core.List.{List}
use Prim.Native.Nat.{ℕ, zero, suc, ◌≤◌}
use native.Mathlib.Omega.{arith}
use lib.Dec.{eqb}
use lib.IntN.{ℤ}
use borrow.Author.Tests.{eqb-true}
use Rattle.rules.specs.Tests.{any, total, count}
use Rattle.rules.proofs.Tests.{count_le, count_none, count_one, count_or}
use Rattle.rules.specs.Surface.{slots, rect_of, used_slot, used_slots}
use Rattle.rules.specs.Empties.{scanned, scanned_rows}
use Rattle.rules.specs.Requests.{step_of, accepted_one, weights_after, table_after}
use Rattle.rules.specs.Blocks.{started, request, next_by, after_by, after}
use Rattle.rules.specs.Refusals.{Step, Refused, Done}

pub used_few : (t : List ℕ) → used_slots t ≤ slots t
unfolding used_slots
used_few t = count_le (slots t) (used_slot t)

-- ---- scanned rows: at most as many as there are rows, and one more than there are used slots

pub scanned_rows_high : (H : ℕ) (t : List ℕ) → scanned_rows H t ≤ H
unfolding scanned_rows
scanned_rows_high H t = count_le H (scanned H t)

-- the rows just above the top rows of the first n slots
tops_few : (H : ℕ) (t : List ℕ) (n : ℕ) → count H (λ y. any n (λ i. used_slot t i && eqb (rect_of t i).y (suc y))) ≤ count n (used_slot t)
unfolding any total
tops_few H t zero = rw (count_none H (λ y. false) (λ k h. refl)) (omega arith)
tops_few H t (suc n) =
    let above : ℕ → ℕ → Bool = λ i y. used_slot t i && eqb (rect_of t i).y (suc y) in
    omega (arith, count_or H (λ y. any n (λ i. above i y)) (above n), tops_few H t n, go (used_slot t n))
  where
    go : (b : Bool) → count H (λ y. b && eqb (rect_of t n).y (suc y)) ≤ cond b 1 0
    go true = count_one H (λ y. eqb (rect_of t n).y (suc y)) (λ j k e f. omega (arith, eqb-true (rect_of t n).y (suc j) e, eqb-true (rect_of t n).y (suc k) f))
    go false = rw (count_none H (λ y. false) (λ k h. refl)) (omega arith)

pub scanned_rows_used : (H : ℕ) (t : List ℕ) → scanned_rows H t ≤ suc (used_slots t)
unfolding scanned_rows scanned used_slots
scanned_rows_used H t =
    let last = count_one H (λ y. eqb (suc y) H) (λ j k e f. omega (arith, eqb-true (suc j) H e, eqb-true (suc k) H f)) in
    omega (arith, count_or H (λ y. eqb (suc y) H) (λ y. any (slots t) (λ i. used_slot t i && eqb (rect_of t i).y (suc y))), tops_few H t (slots t))

-- ---- requests

-- a block accepts at most as many requests as it has
pub accepted_few : (W H : ℕ) (q : List ℕ) (s : List ℤ) (t : List ℕ) (k : ℕ) → (after W H q (started s t) k).accepted ≤ k
unfolding after_by next_by
accepted_few W H q s t zero = omega arith
accepted_few W H q s t (suc k) =
    omega (arith, accepted_few W H q s t k, one (step_of W H (after W H q (started s t) k).table (request q k)))
  where
    one : (d : Step) → accepted_one d ≤ 1
    one (Refused c) = omega arith
    one (Done i r) = omega arith

-- a block whose requests are all refused
pub none_accepted : (W H : ℕ) (q : List ℕ) (s : List ℤ) (t : List ℕ) (k : ℕ) →
    let end = after W H q (started s t) k in
    end.accepted ≡ 0 → (end.weights ≡ s) × (end.table ≡ t)
unfolding after_by next_by
none_accepted W H q s t zero e = (refl, refl)
none_accepted W H q s t (suc k) e =
    let z = after W H q (started s t) k in
    let so = none_accepted W H q s t k (omega arith) in
    let one = refused (step_of W H z.table (request q k)) (omega arith) (request q k) z.weights z.table in
    (one.0 ∙ so.0, one.1 ∙ so.1)
  where
    refused : (d : Step) → accepted_one d ≡ 0 → (q : List ℕ) (w : List ℤ) (u : List ℕ) → (weights_after W H q d u w ≡ w) × (table_after q d u ≡ u)
    refused (Refused c) e q w u = (refl, refl)
    refused (Done i r) e q w u = absurd (omega arith)
