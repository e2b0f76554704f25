-- THE ROWS THAT ARE PASSED OVER HAVE NO ENTRY WITH ROOM FOR THE MODULE. Assumes nothing.
use mathlib.Core.Path.{◌≡◌, refl, ap, ◌∙◌}
use mathlib.Core.Bool.{Bool, true, not}
use mathlib.Core.Logic.{⊎_elim}
use mathlib.Core.List.Memᴰ
use mathlib.Core.List.{List, [], ◌∷◌, Memᴰ}
use Prim.Native.Nat.{◌*◌, ℕ, suc, ◌+◌, ◌-◌, ◌≤◌, ◌<◌}
use native.Mathlib.Nat.{le_refl, eq-or-lt_of_le}
use native.Mathlib.Decide.{dec_lt}
use native.Mathlib.Omega.{arith}
use lib.IntN.{ℤ, pos}
use lib.ListN.{get_or, take, drop}
use Rattle.std.proofs.lemmas.List.{get_or-take, get_or-drop}
use lib.Signed.{le_z, lt_z}
use borrow.Author.Tests.{le-leb}
use Rattle.rules.specs.Tests.{all}
use Rattle.rules.specs.Surface.{occupied, cell}
use Rattle.rules.specs.Requests.{fits}
use Rattle.rules.specs.declared.Rect.{Rect}
use Rattle.rules.proofs.Tests.{and_both, not_both, fails, at_least, all_yes}
use Rattle.meaning.proofs.Bottom.{cell_reaches}
use Rattle.listing.specs.declared.entry.Entry.{Entry}
use Rattle.listing.specs.Meaning.{IsEntry}
use Rattle.listing.specs.Listed.{height_of, support, entry_rect, entries_in, rects_in}
use Rattle.listing.proofs.Meaning.{entries_mem}
use Rattle.listing.proofs.ListLaws.{drawn}
use Rattle.listing.proofs.Cells.{height_in, height_past, height_taken}
use Rattle.choice.specs.Best.{better, best_of}
use Rattle.choice.specs.Room.{none_fits}
use Rattle.cells.specs.declared.standing.Surface.{Surface}
use Rattle.std.proofs.lemmas.Bool.Decides.{nat_tests}
use Rattle.choice.specs.declared.Best.{Best}
use Rattle.choice.specs.declared.Wanted.{Wanted}
use Rattle.std.specs.Prelude.{Option}

-- ---- a row that has no entry with room changes nothing

pub best_unfit : (W H : ℕ) (m : Wanted) (b : Option Best) (l : List Rect) → none_fits m.w m.h l ≡ true → b ≡ best_of W H m b l
unfolding none_fits all best_of better
best_unfit W H m b [] e = refl
best_unfit W H m b (d ∷ l) e = grind (arith, nat_tests, best_unfit W H m b l)

-- ---- cells side by side that are high enough. f has a row's heights, m is the height asked for, n the width

-- column c is empty, and high enough
pub record Tall (f : ℕ → ℕ) (m c : ℕ) : Type 0 where
  pub free : 1 ≤ f c
  pub enough : m ≤ f c

-- all columns of l .. r - 1 are
abbrev AllTall : (ℕ → ℕ) → ℕ → ℕ → ℕ → Type 0
AllTall f m l r = (c : ℕ) → l ≤ c → c < r → Tall f m c

-- WHAT THE WALK KNOWS AT COLUMN x: at most `run` columns before x are high enough side by side up to x, and nowhere before x are n
pub record Runs (f : ℕ → ℕ) (m n run x : ℕ) : Type 0 where
  pub few : run ≤ x
  pub back : (l : ℕ) → AllTall f m l x → x ≤ l + run
  pub none : (l k : ℕ) → 1 ≤ k → n ≤ k → l + k ≤ x → AllTall f m l (l + k) → ⊥

module _ {f : ℕ → ℕ} {m n : ℕ} where
  -- a stretch up to column x + 1 ends there, or lies before x
  none_more : (run x : ℕ) → Runs f m n run x → ((l k : ℕ) → 1 ≤ k → n ≤ k → l + k ≡ x + 1 → AllTall f m l (l + k) → ⊥) → (l k : ℕ) → 1 ≤ k → n ≤ k → l + k ≤ x + 1 → AllTall f m l (l + k) → ⊥
  none_more run x r s l k a b c t = ⊎_elim (λ e. s l k a b e t) (λ (e : l + k < x + 1). r.none l k a b (omega arith) t) (eq-or-lt_of_le c)

  -- one column more of the run, which is still too short
  pub runs_more : (run x : ℕ) → Runs f m n run x → run + 1 < n → Runs f m n (run + 1) (x + 1)
  runs_more run x r h = record {
    few = omega (arith, r.few);
    back = λ l a. omega (arith, r.back l (λ c p q. a c p (omega arith)));
    none = none_more run x r (λ l k a b e t. omega (arith, r.back l (λ j p q. t j p (omega arith))));
  }

  -- a column that is not high enough: no stretch ends there, and the run begins anew behind it
  pub runs_anew : (run x : ℕ) → Runs f m n run x → (Tall f m x → ⊥) → Runs f m n 0 (x + 1)
  runs_anew run x r s = record {
    few = omega arith;
    back = λ l a. elim (dec_lt l (x + 1)) [
      | yes h ↦ absurd (s (a x (omega arith) (omega arith)))
      | no h ↦ omega arith
    ];
    none = none_more run x r (λ l k a b e t. s (t x (omega arith) (omega arith)));
  }

-- ---- the cells of row y on a standing surface

-- the weights of row y, as the code borrows them
abbrev pub row_of : ℕ → List ℤ → ℕ → List ℤ
row_of W s y = take (y * W + W - y * W) (drop (y * W) s)

pub in_row : (W : ℕ) (s : List ℤ) (x y : ℕ) → x < W → get_or (row_of W s y) x (pos 0) ≡ cell W s x y
in_row W s x y h = let k : x < y * W + W - y * W = omega arith in simp (get_or-take, get_or-drop)

module _ (surface : Surface) (y : ℕ) (py : y < surface.h) where
  abbrev W : ℕ
  W = surface.w

  abbrev H : ℕ
  H = surface.h

  abbrev s : List ℤ
  s = surface.weights.now

  abbrev occ : ℕ → ℕ → Bool
  occ = occupied surface.table.now

  abbrev f : ℕ → ℕ
  f = height_of occ W y

  -- A WEIGHT BELOW m IS NOT HIGH ENOUGH
  pub too_low : (m x : ℕ) (z : ℤ) → x < W → z ≡ pos m → lt_z (get_or (row_of W s y) x (pos 0)) z ≡ true → Tall f m x → ⊥
  too_low m x z px e q h =
      let S = surface.standing in
      let q' : lt_z (cell W s x y) (pos m) ≡ true = rw (← in_row W s x y px, ← e) q in
      not_both (le_z (pos m) (cell W s x y))
      (cell_reaches W H s surface.table.now S.sound x y m px py
      ∙ and_both (ap not (fails (occ x y) (λ e. omega (arith, h.free, height_taken occ W y x e)))) (le-leb m _ (omega (arith, h.enough, height_in occ W y x px))))
      (at_least m (cell W s x y) ∙ ap not q')

  -- no entry of the row with room, none of the row's rectangles
  none_fits_lem : (w h : ℕ) → ((e : Entry) → Memᴰ e (entries_in occ W H y) → w ≤ suc e.right - e.left → h ≤ e.height → ⊥)
      → none_fits w h (rects_in occ W H y) ≡ true
  unfolding none_fits rects_in
  none_fits_lem w h n =
      all_yes (λ e. not (fits w h e)) (rects_in occ W H y)
      (λ a m.
      let i = Memᴰ.of_map (entry_rect y) (entries_in occ W H y) m in
      ap not (fails (fits w h a) (λ (p : fits w h a ≡ true).
      let q : fits w h (entry_rect y i.0) ≡ true = ap (fits w h) i.2 ∙ p in
      n i.0 i.1 (grind (arith, nat_tests)) (grind (arith, nat_tests)))))

  -- A MODULE HIGHER THAN THE ROW'S PLACE
  pub too_high : (w h : ℕ) → y + 1 < h → none_fits w h (rects_in occ W H y) ≡ true
  too_high w h l = let z = surface.standing.sides in none_fits_lem w h (λ e m p q. omega (arith, (drawn occ W H y py z.widest z.highest e m).top))

  -- NOWHERE IN THE ROW ARE w COLUMNS SIDE BY SIDE HIGH ENOUGH
  pub too_short : (w h run x : ℕ) → Runs f h w run x → W ≤ x → none_fits w h (rects_in occ W H y) ≡ true
  unfolding entries_in
  too_short w h run x r l =
      none_fits_lem w h
      (λ e m p q.
      let i : IsEntry f (support occ W H y) W e = (entries_mem f (support occ W H y) W (height_past occ W y W (le_refl W)) e).0 m in
      r.none e.left (suc e.right - e.left) (omega (arith, i.order)) p (omega (arith, i.order, i.inside))
      (λ c a b. let g : e.height ≤ f c = i.height.below c a (omega (arith, i.order)) in record { free = omega (arith, i.positive); enough = omega arith }))
