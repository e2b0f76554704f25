-- THE WALK OVER THE LIST FINDS THE PLACE THAT THE RULE CHOSE. Assumes nothing.
use mathlib.Core.Path.{◌≡◌, refl, sym, ap, ◌∙◌, subst}
use mathlib.Core.Bool.{Bool, true, false, false≢true}
use mathlib.Core.Logic.{⊎_elim}
use mathlib.Core.List.{List, [], ◌∷◌, ◌++◌, map}
use mathlib.Core.Option as maybe
use Prim.Native.Nat.{ℕ, zero, suc, ◌+◌, ◌≤◌, ◌<◌}
use native.Mathlib.Nat.{eq-or-lt_of_le, le_of_suc-le-suc}
use native.Mathlib.Omega.{arith}
use lib.Dec.{eqb}
use lib.ListN.{length, get_or, take}
use Rattle.std.proofs.lemmas.List.{map_more}
use Rattle.std.specs.Prelude.{Option, Some, None, option_map}
use Rattle.std.proofs.Common.{add-one}
use Rattle.std.proofs.lemmas.Bool.Decides.{nat_tests}
use Rattle.rules.specs.Tests.{keep, chain}
use Rattle.rules.specs.Empties.{entries}
use Rattle.rules.specs.Requests.{fits, cost, cheapest, chosen_of, chosen, lower_left, standing, rule_place}
use Rattle.rules.specs.declared.Rect.{Rect}
use Rattle.listing.specs.declared.entry.Entry.{Entry}
use Rattle.listing.specs.Listed.{no_entry, entry_rect, rects_in, listed}
use Rattle.listing.proofs.ListLaws.{entries_listed}
use Rattle.choice.specs.Best.{choice_of, code_of, values_of, Chosen, found, better, best_of}
use Rattle.choice.specs.declared.Best.{Best}
use Rattle.choice.specs.declared.Wanted.{Wanted}
use Rattle.choice.specs.Rule.{rule_number}

-- a choice by its number and its values
pub chosen_by : (o : maybe.Option Rect) (c : Option Rect) → c ≡ choice_of o → Chosen o c
chosen_by maybe.none c e = record { code = ap code_of e; values = ap values_of e }
chosen_by (maybe.some r) c e = record { code = ap code_of e; values = ap values_of e }

-- the place of the best so far
abbrev pub place_in : Option Best → Option Rect
place_in b = option_map (λ b. b.place) b

-- an entry that costs nothing is the choice whatever follows: none costs less, and "Ties go to the earlier entry."
abbrev pub unbeaten : Option Best → Bool
unbeaten None = false
unbeaten (Some b) = eqb b.cost 0

module _ (W H : ℕ) (m : Wanted) where
  abbrev best : Option Best → List Rect → Option Best
  best b l = best_of W H m b l

  abbrev price : Rect → ℕ
  price e = cost W H m.w m.h (rule_number m.rule) e

  -- an entry as the walk holds it
  abbrev held : Rect → Option Best
  held e = found (price e) (lower_left m.w m.h e)

  pub best_append : (b : Option Best) (l k : List Rect) → best b (l ++ k) ≡ best (best b l) k
  unfolding best_of
  best_append b [] k = refl
  best_append b (e ∷ l) k = best_append (better W H m b e) l k

  -- one entry of a row more
  pub best_more : (b : Option Best) (y i : ℕ) (l : List Entry) → i < length l → best b (map (entry_rect y) (take (i + 1) l)) ≡ better W H m (best b (map (entry_rect y) (take i l))) (entry_rect y (get_or l i no_entry))
  unfolding best_of
  best_more b y i l h =
      ap (best b) (map_more (entry_rect y) l i no_entry h)
      ∙ best_append b (map (entry_rect y) (take i l)) (entry_rect y (get_or l i no_entry) ∷ [])

  best_held : (e : Rect) (l : List Rect) → best (held e) l ≡ held (cheapest price e (keep (fits m.w m.h) l))
  unfolding best_of better keep cheapest
  best_held e [] = refl
  best_held e (d ∷ l) = grind (arith, nat_tests, best_held d l, best_held e l)

  abbrev noted : maybe.Option Rect → Option Best
  noted maybe.none = None
  noted (maybe.some e) = held e

  best_chosen : (l : List Rect) → best None l ≡ noted (chosen_of price (keep (fits m.w m.h) l))
  unfolding best_of better keep
  best_chosen [] = refl
  best_chosen (d ∷ l) = grind (arith, nat_tests, best_held d l, best_chosen l)

  place_noted : (o : maybe.Option Rect) → place_in (noted o) ≡ choice_of (standing m.w m.h o)
  place_noted maybe.none = refl
  place_noted (maybe.some e) = refl

  better_unbeaten : (b : Option Best) (e : Rect) → unbeaten b ≡ true → better W H m b e ≡ b
  unfolding better
  better_unbeaten None e q = absurd (false≢true q)
  better_unbeaten (Some b) e q = grind (arith, nat_tests, q)

  -- AN ENTRY THAT COSTS NOTHING IS NEVER BEATEN
  best_unbeaten : (b : Option Best) (l : List Rect) → unbeaten b ≡ true → best b l ≡ b
  unfolding best_of
  best_unbeaten b [] q = refl
  best_unbeaten b (e ∷ l) q = rw (better_unbeaten b e q) (best_unbeaten b l q)

-- ---- the rows in turn

-- b IS THE BEST ENTRY OF THE ROWS ABOVE y
pub record BestAbove (occ : ℕ → ℕ → Bool) (W H : ℕ) (m : Wanted) (y : ℕ) (b : Option Best) : Type 0 where
  pub best : b ≡ best_of W H m None (listed occ W H y)

module _ {occ : ℕ → ℕ → Bool} {W H : ℕ} {m : Wanted} where
  pub above_none : BestAbove occ W H m 0 None
  unfolding listed chain best_of
  above_none = record { best = refl }

  above_suc : (y : ℕ) {b b' : Option Best} → BestAbove occ W H m y b → b' ≡ best_of W H m b (rects_in occ W H y) → BestAbove occ W H m (suc y) b'
  unfolding listed chain
  above_suc y a q = record { best = q ∙ ap (λ b. best_of W H m b (rects_in occ W H y)) a.best ∙ sym (best_append W H m None (listed occ W H y) (rects_in occ W H y)) }

  -- one row more
  pub above_more : (y : ℕ) {b b' : Option Best} → BestAbove occ W H m y b → b' ≡ best_of W H m b (rects_in occ W H y) → BestAbove occ W H m (y + 1) b'
  above_more y a q = rw add-one (above_suc y a q)

  -- it has no entry
  pub above_same : (y : ℕ) {b : Option Best} → BestAbove occ W H m y b → rects_in occ W H y ≡ [] → BestAbove occ W H m (y + 1) b
  unfolding best_of
  above_same y {b} a e = above_more y a (ap (best_of W H m b) (sym e))

  -- the rows behind change nothing
  pub above_unbeaten : (y n : ℕ) {b : Option Best} → y ≤ n → BestAbove occ W H m y b → unbeaten b ≡ true → BestAbove occ W H m n b
  above_unbeaten y zero {b} h a u = subst (λ k. BestAbove occ W H m k b) (omega arith) a
  above_unbeaten y (suc n) {b} h a u =
      ⊎_elim
      (λ (e : y ≡ suc n). subst (λ k. BestAbove occ W H m k b) e a)
      (λ (l : y < suc n). above_suc n (above_unbeaten y n (le_of_suc-le-suc l) a u) (sym (best_unbeaten W H m b (rects_in occ W H n) u)))
      (eq-or-lt_of_le h)

  -- THE WALK OVER ALL ROWS ENDS WITH THE PLACE THAT THE RULE CHOSE
  pub above_all : (y : ℕ) {b : Option Best} → BestAbove occ W H m y b → y ≡ H → place_in b ≡ choice_of (rule_place occ W H (rule_number m.rule) m.w m.h)
  unfolding rule_place chosen
  above_all y {b} a h =
      let e = (subst (λ k. BestAbove occ W H m k b) h a).best in
      ap place_in (e ∙ ap (best_of W H m None) (sym (entries_listed occ W H)) ∙ best_chosen W H m (entries occ W H))
      ∙ place_noted W H m (chosen_of (price W H m) (keep (fits m.w m.h) (entries occ W H)))
