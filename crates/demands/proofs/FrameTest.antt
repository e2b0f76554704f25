-- THE FRAME AS A TEST, which the examples compute, says what the frame says. Assumes nothing.
use mathlib.Core.Path.{◌≡◌, ap}
use mathlib.Core.Bool.{Bool, true, not, ◌&&◌, ◌||◌}
use mathlib.Core.Logic.{◌↔◌}
use mathlib.Core.List.{List}
use Prim.Native.Nat.{ℕ, suc, ◌+◌}
use native.Mathlib.Omega.{arith}
use borrow.Author.Tests.{ltb-true, leb-true, lt-ltb, le-leb, not-true}
use lib.Dec.{leb, ltb}
use Rattle.rules.specs.Tests.{every}
use Rattle.rules.specs.Surface.{rect_of, occupied}
use Rattle.rules.specs.Requests.{needs_old}
use Rattle.rules.specs.declared.Rect.{Rect}
use Rattle.rules.proofs.Tests.{and_left, and_right, and_both, and_four, four_and, or_left, or_right, every_at, every_yes}
use Rattle.meaning.proofs.Splits.{by_or, by_less}
use Rattle.demands.specs.Frame.{Reached, old_slot, bare, MayChange}
use Rattle.demands.specs.Frame.MayChange.{of_module, of_old}
use Rattle.demands.specs.Examples.{reaches, may_change}

module _ (m : Rect) (t : List ℕ) (c r : ℕ) where
  abbrev below : ℕ → Bool
  below j = ltb j (m.y + m.h) || not (occupied t c j)

  reaches_says : reaches m t c r ≡ true → Reached m t c r
  unfolding reaches
  reaches_says e =
      let k = and_four (leb m.x c) (ltb c (m.x + m.w)) (leb m.y r) (every (suc r) below) e in
      record {
        left = leb-true m.x c k.0;
        right = ltb-true c (m.x + m.w) k.1;
        top = leb-true m.y r k.2;
        clear = λ j lo hi.
            by_or (ltb j (m.y + m.h)) (not (occupied t c j)) (every_at (suc r) below k.3 j (omega arith))
            (λ z. absurd (omega (arith, ltb-true j (m.y + m.h) z)))
            (not-true (occupied t c j));
      }

  says_reaches : Reached m t c r → reaches m t c r ≡ true
  unfolding reaches
  says_reaches z =
      four_and (le-leb m.x c z.left) (lt-ltb c (m.x + m.w) z.right) (le-leb m.y r z.top)
      (every_yes (suc r) below (λ j l.
      by_less j (m.y + m.h)
      (λ h. or_left (ltb j (m.y + m.h)) (not (occupied t c j)) (lt-ltb j (m.y + m.h) h))
      (λ h. or_right (ltb j (m.y + m.h)) (not (occupied t c j)) (ap not (z.clear j h (omega arith))))))

-- THE TEST AND THE FRAME AGREE
pub may_change_is : (t q : List ℕ) (r : Rect) (c y : ℕ) → (may_change t q r c y ≡ true) ↔ MayChange t q r c y
unfolding may_change
may_change_is t q r c y = (says, test)
  where
    says : (reaches r (bare t q) c y || (needs_old q && reaches (rect_of t (old_slot t q)) (bare t q) c y)) ≡ true → MayChange t q r c y
    says e =
        let old = reaches (rect_of t (old_slot t q)) (bare t q) c y in
        by_or (reaches r (bare t q) c y) (needs_old q && old) e
        (λ z. of_module (reaches_says r (bare t q) c y z))
        (λ z. of_old (and_left (needs_old q) old z) (reaches_says (rect_of t (old_slot t q)) (bare t q) c y (and_right (needs_old q) old z)))

    test : MayChange t q r c y → (reaches r (bare t q) c y || (needs_old q && reaches (rect_of t (old_slot t q)) (bare t q) c y)) ≡ true
    test (of_module z) = or_left (reaches r (bare t q) c y) (needs_old q && reaches (rect_of t (old_slot t q)) (bare t q) c y) (says_reaches r (bare t q) c y z)
    test (of_old n z) = or_right (reaches r (bare t q) c y) (needs_old q && reaches (rect_of t (old_slot t q)) (bare t q) c y) (and_both n (says_reaches (rect_of t (old_slot t q)) (bare t q) c y z))
