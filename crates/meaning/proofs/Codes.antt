-- WHAT CODE 0 TELLS of sizes, lengths, block and surface: none of the lines before it applies. Stated over `bad`, as the calls are. Assumes nothing.
use mathlib.Core.Path.{◌≡◌, refl, subst}
use mathlib.Core.Bool.{Bool, true, false, not}
use mathlib.Core.List.{List, [], ◌∷◌, ◌++◌}
use Prim.Native.Nat.{ℕ, ◌*◌, ◌/◌, ◌%◌, ◌≤◌}
use native.Mathlib.Nat.{mul-le-mul}
use native.Mathlib.Omega.{arith}
use borrow.Author.Tests.{eqb-true, leb-true, ltb-false, not-false}
use lib.Dec.{leb, ltb, eqb}
use lib.IntN.{ℤ}
use lib.ListN.{length}
use Rattle.rules.specs.Tests.{between}
use Rattle.rules.specs.Judging.{Line, ◌when◌, first, NoneApplies}
use Rattle.meaning.specs.Numbers.{above}
use Rattle.rules.specs.Surface.{Sides, stands, Standing}
use Rattle.rules.specs.Blocks.{requests}
use Rattle.rules.specs.Calls.{bad_size, bad_table, bad_block, bad_answers, size_lines}
use Rattle.rules.proofs.Tests.{and_left, and_right, or_neither}
use Rattle.meaning.proofs.First.{first_over, first_parts, none_applies}

-- ---- 1: the sides

pub area : (W H : ℕ) → Sides W H → W * H ≤ 4096
area W H d = let m : W * H ≤ 64 * 64 = mul-le-mul d.widest d.highest in omega arith

-- sizes that are not bad
pub good_size : (W H : ℕ) → bad_size W H ≡ false → Sides W H
unfolding bad_size
good_size W H e =
    let p = or_neither (not (between 1 64 W)) (not (between 1 64 H)) e in
    let w : between 1 64 W ≡ true = not-false _ p.0 in
    let h : between 1 64 H ≡ true = not-false _ p.1 in
    record {
      wide = leb-true 1 W (and_left (leb 1 W) (leb W 64) w);
      widest = leb-true W 64 (and_right (leb 1 W) (leb W 64) w);
      high = leb-true 1 H (and_left (leb 1 H) (leb H 64) h);
      highest = leb-true H 64 (and_right (leb 1 H) (leb H 64) h);
    }

-- ---- 1, 2 and 3: n is the table's length

pub record Good (bad : Bool) (W H n : ℕ) : Type 0 where
  pub sides : Sides W H
  pub fits : bad ≡ false
  pub whole : n ≡ 8 * (n / 8)
  pub some : 1 ≤ n / 8
  pub few : n / 8 ≤ 256

pub good : (bad : Bool) (W H n : ℕ) → first (size_lines bad W H n) ≡ 0 → Good bad W H n
unfolding bad_table NoneApplies
good bad W H n e =
    let a = none_applies (size_lines bad W H n) (unfold above in refl) e in
    let g = good_size W H a.0 in
    let t = or_neither (not (eqb (n % 8) 0)) (not (between 1 256 (n / 8))) a.1.1.0 in
    let m = eqb-true (n % 8) 0 (not-false _ t.0) in
    let k : between 1 256 (n / 8) ≡ true = not-false _ t.1 in
    record {
      sides = g;
      fits = a.1.0;
      whole = omega arith;
      some = leb-true 1 (n / 8) (and_left (leb 1 (n / 8)) (leb (n / 8) 256) k);
      few = leb-true (n / 8) 256 (and_right (leb 1 (n / 8)) (leb (n / 8) 256) k);
    }

-- what is asked of the table alone
pub table_sized : (bad : Bool) (W H n : ℕ) → first (size_lines bad W H n) ≡ 0 → first (size_lines false W H n) ≡ 0
table_sized bad W H n e = subst (λ b. first (size_lines b W H n) ≡ 0) (good bad W H n e).fits e

-- the sizes are right: the lines behind them decide
pub sizes_over : (bad : Bool) (W H n : ℕ) (ls : List Line) → first (size_lines bad W H n) ≡ 0 → first (size_lines bad W H n ++ ls) ≡ first ls
sizes_over bad W H n ls e = first_over (size_lines bad W H n) ls (unfold above in refl) e

-- and the other way: where the whole gives none, the sizes give none
pub sizes_none : (bad : Bool) (W H n : ℕ) (ls : List Line) → first (size_lines bad W H n ++ ls) ≡ 0 → first (size_lines bad W H n) ≡ 0
sizes_none bad W H n ls e = (first_parts (size_lines bad W H n) ls (unfold above in refl) e).0

-- ---- 4 and 5: a block's length, and its answers'

pub record GoodBlock (q a : List ℕ) : Type 0 where
  pub whole : length q ≡ 8 * requests q
  pub few : requests q ≤ 512
  pub alike : length a ≡ length q

pub good_block : (bad : Bool) (W H n : ℕ) (q a : List ℕ) → first (size_lines bad W H n ++ (4 when bad_block (length q) ∷ 5 when bad_answers q a ∷ [])) ≡ 0 → GoodBlock q a
unfolding bad_block NoneApplies
good_block bad W H n q a e =
    let ls : List Line = 4 when bad_block (length q) ∷ 5 when bad_answers q a ∷ [] in
    let x = none_applies ls (unfold above in refl) (first_parts (size_lines bad W H n) ls (unfold above in refl) e).1 in
    let z = or_neither (not (eqb (length q % 8) 0)) (ltb 512 (length q / 8)) x.0 in
    let m = eqb-true (length q % 8) 0 (not-false _ z.0) in
    record { whole = omega arith; few = ltb-false 512 (length q / 8) z.1; alike = eqb-true (length a) (length q) (not-false _ x.1.0) }

-- ---- 6: a surface of right sizes and lengths that stands

pub standing : (bad : Bool) (W H : ℕ) (s : List ℤ) (t : List ℕ) → first (size_lines bad W H (length t)) ≡ 0 → length s ≡ W * H → stands W H s t ≡ true → Standing W H s t
standing bad W H s t e l q =
    let g = good bad W H (length t) e in
    record {
      sides = g.sides;
      long = l;
      whole = g.whole;
      some = g.some;
      few = g.few;
      sound = q;
    }
