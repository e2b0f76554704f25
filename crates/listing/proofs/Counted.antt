-- Entries and corners counted row after row. Assumes nothing.
use mathlib.Core.Path.{◌≡◌, refl, sym, ap, ap₂, ◌∙◌, subst}
use mathlib.Core.Bool.{true, false}
use mathlib.Core.Logic.{⊎_elim}
use mathlib.Core.List.{List}
use Rattle.std.specs.Prelude.{Ok, Err}
use Prim.Native.Nat.{ℕ, ◌+◌, ◌*◌, ◌≤◌, ◌<◌}
use native.Mathlib.Nat.{add-zero, mul-le-mul}
use native.Mathlib.Numerals.{add-one}
use native.Mathlib.Omega.{arith}
use lib.ListN.{length}
use lib.Dec.{ltb}
use lib.IntN.{ℤ}
use Rattle.rules.specs.Tests.{total, count}
use Rattle.rules.specs.Surface.{occupied, Standing}
use Rattle.rules.specs.Empties.{entries, scanned, corner, corners}
use Rattle.rules.specs.Calls.{room_after, short_room}
use Rattle.rules.specs.declared.Refusal.TheVariants.{RoomShort}
use Rattle.rules.proofs.Tests.{count_le, decide}
use Rattle.meaning.proofs.Bound.{entries_few}
use Rattle.meaning.proofs.Corners.{corners_few}
use Rattle.listing.specs.Row.{turns}
use Rattle.listing.specs.Listed.{height_of, entries_in, listed, listing, listing_number, listed_result, listed_room}
use Rattle.listing.specs.declared.row.Counts.{Counts}
use Rattle.listing.proofs.ListLaws.{entries_listed, unscanned_rects, rects_length}
use Rattle.listing.proofs.Corners.{turns_corners, no_corner}
use Rattle.listing.proofs.Written.{listed_none, listed_grows}

-- the entries of the rows above y are counted, and their corners
pub record Found (W H : ℕ) (t : List ℕ) (found y : ℕ) : Type 0 where
  pub upto : y ≤ H
  pub number : found ≡ length (listed (occupied t) W H y)
  pub few : found ≤ 64 * y

pub record Turned (W H : ℕ) (t : List ℕ) (k y : ℕ) : Type 0 where
  pub number : k ≡ total y (λ y. count W (λ x. corner W H t x y))
  pub few : k ≤ 64 * y

module _ (W H : ℕ) (t : List ℕ) where
  pub found_none : Found W H t 0 0
  found_none = record { upto = omega arith; number = sym (ap length (listed_none (occupied t) W H)); few = omega arith }

  pub found_more : (found y n : ℕ) → Found W H t found y → W ≤ 64 → y < H → n ≡ length (entries_in (occupied t) W H y) → n ≤ W → Found W H t (found + n) (y + 1)
  found_more found y n c w h en ln = record {
    upto = omega arith;
    number = omega (arith, c.number, listed_grows (occupied t) W H y, rects_length (occupied t) W H y);
    few = omega (arith, c.few);
  }

  pub found_skip : (found y : ℕ) → Found W H t found y → y < H → scanned H t y ≡ false → Found W H t found (y + 1)
  found_skip found y c h s = record {
    upto = omega arith;
    number = omega (arith, c.number, listed_grows (occupied t) W H y, ap length (unscanned_rects t W H y h s));
    few = omega (arith, c.few);
  }

  pub found_all : (found y : ℕ) → Found W H t found y → H ≤ y → found ≡ length (entries (occupied t) W H)
  found_all found y c h =
      let q : y ≡ H = omega (arith, c.upto) in
      c.number ∙ ap (λ n. length (listed (occupied t) W H n)) q ∙ ap length (sym (entries_listed (occupied t) W H))

  pub turned_none : Turned W H t 0 0
  unfolding total
  turned_none = record { number = refl; few = omega arith }

  turned_grows : (k y m : ℕ) → Turned W H t k y → W ≤ 64 → m ≡ count W (λ x. corner W H t x y) → Turned W H t (k + m) (y + 1)
  unfolding total
  turned_grows k y m c w em = record { number = ap₂ ◌+◌ c.number em ∙ rw add-one; few = omega (arith, c.few, count_le W (λ x. corner W H t x y)) }

  -- the corners of a scanned row, by its heights
  pub turned_more : (k y m : ℕ) → Turned W H t k y → W ≤ 64 → scanned H t y ≡ true → m ≡ turns (height_of (occupied t) W y) (W + 1) → Turned W H t (k + m) (y + 1)
  turned_more k y m c w s e = turned_grows k y m c w (turns_corners W H t y m s e)

  pub turned_skip : (k y : ℕ) → Turned W H t k y → W ≤ 64 → scanned H t y ≡ false → Turned W H t k (y + 1)
  turned_skip k y c w s = subst (λ n. Turned W H t n (y + 1)) (add-zero k) (turned_grows k y 0 c w (sym (no_corner W H t y s)))

  pub turned_all : (k y : ℕ) → Turned W H t k y → y ≡ H → k ≡ corners W H t
  unfolding corners
  turned_all k y c q = c.number ∙ ap (λ n. total n (λ y. count W (λ x. corner W H t x y))) q

-- both counts are at most 64·64
pub counts_low : {W H : ℕ} {s : List ℤ} {t : List ℕ} → Standing W H s t → (length (entries (occupied t) W H) ≤ 64 * 64) × (corners W H t ≤ 64 * 64)
counts_low {W} {H} {s} {t} S =
    let a = mul-le-mul S.sides.widest S.sides.highest in
    (omega (arith, entries_few (occupied t) W H), omega (arith, corners_few W H t))

-- ---- the answer of a listing

module _ (W H : ℕ) (t room : List ℕ) where
  pub too_short : ltb (length room) (8 * length (entries (occupied t) W H)) ≡ true
      → (Err RoomShort ≡ listing W H t room) × (room ≡ listed_room W H t room)
  unfolding listing listed_room
  too_short q = (rw q, rw q)

  pub all_listed : (c : Counts) → c.entries ≡ length (entries (occupied t) W H) → c.corners ≡ corners W H t → ltb (length room) (8 * length (entries (occupied t) W H)) ≡ false
      → (Ok c ≡ listing W H t room) × (room_after W H t room ≡ listed_room W H t room)
  unfolding listing listed_room
  all_listed c en em q = (rw (q, ← en, ← em), rw q)

  -- the number that the host is told
  pub number_listed : listing_number (listing W H t room) ≡ listed_result W H t room
  unfolding listing listed_result
  number_listed = ⊎_elim (λ q. rw q) (λ q. rw q) (decide (short_room W H t room))
