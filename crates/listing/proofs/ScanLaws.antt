-- Which rows are scanned, slot after slot. Assumes nothing.
use mathlib.Core.Path.{◌≡◌, ap, ◌∙◌}
use mathlib.Core.Bool.{Bool, true, false, ◌||◌, or_comm}
use mathlib.Core.Logic.{⊎_elim}
use mathlib.Core.List.{List}
use Prim.Native.Nat.{ℕ, suc, ◌+◌, ◌-◌, ◌≤◌, ◌<◌}
use native.Mathlib.Nat.{eq-or-lt_of_le}
use native.Mathlib.Numerals.{add-one}
use native.Mathlib.Omega.{arith}
use lib.ListN.{length, get_or, set, length-set, replicate}
use Rattle.std.proofs.lemmas.List.{length-replicate, get_or-replicate}
use lib.Seq.{get_or-set_same, get_or-set_other}
use borrow.Author.Tests.{eq-eqb, ne_eqb}
use Rattle.rules.specs.Tests.{any}
use Rattle.rules.specs.Surface.{slots}
use Rattle.rules.specs.Empties.{scanned}
use Rattle.listing.specs.Listed.{Scans, Marks, top_below}

-- ---- the pass: the first i slots are seen

pub record Marked (h : ℕ) (t : List ℕ) (scans : List Bool) (i : ℕ) : Type 0 where
  pub long : h ≤ length scans
  pub seen : (y : ℕ) → y < h → get_or scans y false ≡ any i (top_below t y)

pub mark_start : (h : ℕ) (t : List ℕ) (scans : List Bool) (n : ℕ) → h ≤ n → scans ≡ replicate n false → Marked h t scans 0
unfolding any
mark_start h t scans n p q = record {
  long = rw (q, length-replicate) p;
  seen = λ y k. rw q (get_or-replicate n y false false (omega arith));
}

pub mark_more : (h : ℕ) (t : List ℕ) (scans scans' : List Bool) (i : ℕ) → Marked h t scans i → length scans' ≡ length scans
    → Marks h t i scans scans' → Marked h t scans' (i + 1)
unfolding any
mark_more h t scans scans' i m l f = record {
  long = omega (arith, m.long);
  seen = λ y q. f y q ∙ ap (λ b. top_below t y i || b) (m.seen y q) ∙ or_comm (top_below t y i) (any i (top_below t y)) ∙ rw add-one;
}

-- the last row is scanned whatever stands below
pub mark_end : (h : ℕ) (t : List ℕ) (scans : List Bool) (i : ℕ) → Marked h t scans i → i ≡ slots t → 1 ≤ h → Scans h t (set scans (h - 1) true)
unfolding scanned
mark_end h t scans i m e q = record {
  long = rw length-set m.long;
  marks = λ y k.
      ⊎_elim
      (λ (p : suc y ≡ h).
      let at : h - 1 ≡ y = omega arith in
      rw (at, eq-eqb (suc y) h p) (get_or-set_same scans y true false (omega (arith, m.long))))
      (λ (p : suc y < h). rw (ne_eqb (suc y) h (λ z. omega arith)) (get_or-set_other scans (h - 1) y true false (λ z. omega arith) ∙ m.seen y k ∙ ap (λ n. any n (top_below t y)) e))
      (eq-or-lt_of_le k);
}
