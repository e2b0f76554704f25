-- Records written one after the other into a list: what is before them and behind them stays. Assumes nothing.
use mathlib.Core.Path.{◌≡◌, refl, sym, ap, ap₂, ◌∙◌}
use mathlib.Core.Bool.{Bool}
use mathlib.Core.List.{List, [], ◌∷◌, ◌++◌, append_assoc, map}
use Prim.Native.Nat.{ℕ, zero, suc, ◌+◌, ◌-◌, ◌*◌, ◌≤◌, ◌<◌}
use native.Mathlib.Nat.{add-zero}
use native.Mathlib.Numerals.{add-one}
use native.Mathlib.Omega.{arith}
use borrow.Rule.Slice.PartMut.{put_mid, Post-is}
use Rattle.std.proofs.lemmas.List.{map_more, length-take-le}
use lib.ListN.{length, length-map, get_or, take, drop, length-append, length-take, length-drop, take-append-drop}
use lib.Seq.{take_at, drop-append-add, drop-drop}
use Rattle.rules.specs.Empties.{entry_record, entry_records}
use Rattle.rules.specs.Tests.{chain}
use Rattle.rules.specs.Empties.{entries}
use Rattle.rules.specs.declared.Rect.{Rect}
use Rattle.listing.specs.declared.entry.Entry.{Entry}
use Rattle.listing.specs.Listed.{no_entry, entry_rect, entries_in, rects_in, listed, written, records_in, records_of}
use Rattle.listing.proofs.ListLaws.{entries_listed, rects_length}

pub written_none : (at : ℕ) (l : List ℕ) → l ≡ written at [] l
unfolding written
written_none at l = sym (ap (λ n. take at l ++ drop n l) (add-zero at) ∙ take-append-drop at l)

-- what is there before, as long as it fits
front : (at : ℕ) (l : List ℕ) → at ≤ length l → length (take at l) ≡ at
front at l h = rw length-take (omega arith)

pub length-written : (at : ℕ) (r l : List ℕ) → at + length r ≤ length l → length (written at r l) ≡ length l
unfolding written
length-written at r l h =
    let a = front at l (omega arith) in
    omega (arith, length-append (take at l) (r ++ drop (at + length r) l), length-append r (drop (at + length r) l), length-drop (at + length r) l)

-- more behind it
pub written_more : (at : ℕ) (r p l : List ℕ) → at + length r ≤ length l → written (at + length r) p (written at r l) ≡ written at (r ++ p) l
unfolding written
written_more at r p l h =
    let A = take at l in
    let n = at + length r in
    let X = A ++ r in
    let long : length X ≡ n = length-append A r ∙ ap (λ k. k + length r) (front at l (omega arith)) in
    let whole : A ++ (r ++ drop n l) ≡ X ++ drop n l = sym (append_assoc A r (drop n l)) in
    let first : take n (X ++ drop n l) ≡ X = take_at X (drop n l) n long in
    let last : drop (n + length p) (X ++ drop n l) ≡ drop (n + length p) l =
    ap (λ k. drop (k + length p) (X ++ drop n l)) (sym long) ∙ drop-append-add X (drop n l) (length p) ∙ drop-drop (length p) n l in
    let end : n + length p ≡ at + length (r ++ p) = omega (arith, length-append r p) in
    ap (λ (w : List ℕ). take n w ++ (p ++ drop (n + length p) w)) whole
    ∙ ap₂ (λ (f g : List ℕ). f ++ (p ++ g)) first last
    ∙ append_assoc A r (p ++ drop (n + length p) l)
    ∙ ap (λ (w : List ℕ). A ++ w) (sym (append_assoc r p (drop (n + length p) l)) ∙ ap (λ k. (r ++ p) ++ drop k l) end)

-- a part of m bytes that was lent and has come back as p
pub written_part : (at m : ℕ) (p l : List ℕ) → length p ≡ m → put_mid at (at + m - at) l p ≡ written at p l
unfolding written
written_part at m p l e = ap (λ (t : List ℕ). take at l ++ (p ++ t)) (Post-is at (at + m) l (omega arith) ∙ ap (λ k. drop (at + k) l) (sym e))

-- ---- records

pub records_length : (l : List Rect) → length (entry_records l) ≡ 8 * length l
unfolding entry_records
records_length [] = refl
records_length (r ∷ l) = omega (arith, records_length l)

pub records_append : (l m : List Rect) → entry_records (l ++ m) ≡ entry_records l ++ entry_records m
unfolding entry_records
records_append [] m = refl
records_append (r ∷ l) m = ap (λ (t : List ℕ). entry_record r ++ t) (records_append l m)

-- the records of a row's first i entries
abbrev pub recorded : ℕ → List Entry → ℕ → List ℕ
recorded y l i = entry_records (map (entry_rect y) (take i l))

recorded_more : (y : ℕ) (l : List Entry) (i : ℕ) → i < length l → recorded y l (i + 1) ≡ recorded y l i ++ entry_record (entry_rect y (get_or l i no_entry))
unfolding entry_records
recorded_more y l i h =
    ap entry_records (map_more (entry_rect y) l i no_entry h) ∙ records_append (map (entry_rect y) (take i l)) (entry_rect y (get_or l i no_entry) ∷ [])

recorded_length : (y : ℕ) (l : List Entry) (i : ℕ) → i ≤ length l → length (recorded y l i) ≡ 8 * i
recorded_length y l i h = records_length (map (entry_rect y) (take i l)) ∙ ap (λ n. 8 * n) (length-map (take i l) (entry_rect y) ∙ length-take-le i l h)

-- ---- the entries of a row, one after the other: i of them stand in the room from `at` on

pub record Recorded (y at : ℕ) (l : List Entry) (room₀ room : List ℕ) (i : ℕ) : Type 0 where
  pub upto : i ≤ length l
  pub bytes : room ≡ written at (recorded y l i) room₀

module _ (y at : ℕ) (l : List Entry) (room₀ : List ℕ) (fits : at + 8 * length l ≤ length room₀) where
  pub record_none : Recorded y at l room₀ room₀ 0
  record_none = record { upto = omega arith; bytes = unfold entry_records in (written_none at room₀) }

  pub record_more : (room room' p : List ℕ) (i : ℕ) → Recorded y at l room₀ room i → i < length l → p ≡ entry_record (entry_rect y (get_or l i no_entry))
      → room' ≡ put_mid (at + 8 * i) (at + 8 * i + 8 - (at + 8 * i)) room p → Recorded y at l room₀ room' (i + 1)
  record_more room room' p i r h ep er =
      let R = recorded y l i in
      let long = recorded_length y l i r.upto in
      record {
        upto = omega arith;
        bytes =
            er ∙ written_part (at + 8 * i) 8 p room (ap length ep) ∙ ap (written (at + 8 * i) p) r.bytes ∙ ap (λ k. written (at + k) p (written at R room₀)) (sym long)
            ∙ written_more at R p room₀ (omega arith)
            ∙ ap (λ t. written at (R ++ t) room₀) ep ∙ ap (λ t. written at t room₀) (sym (recorded_more y l i h));
      }

-- ---- the rows, one after the other

module _ (occ : ℕ → ℕ → Bool) (W H : ℕ) where
  -- what the buffer holds of row y: eight bytes for each entry
  pub row_records : (y : ℕ) (l : List Entry) → l ≡ entries_in occ W H y → entry_records (map (entry_rect y) l) ≡ records_in occ W H y
  unfolding rects_in
  row_records y l e = ap (λ (m : List Entry). entry_records (map (entry_rect y) m)) e

  pub row_bytes : (y n : ℕ) → n ≡ length (entries_in occ W H y) → 8 * n ≡ length (records_in occ W H y)
  row_bytes y n e = omega (arith, rects_length occ W H y, records_length (rects_in occ W H y))

  pub listed_more : (y : ℕ) → listed occ W H (y + 1) ≡ listed occ W H y ++ rects_in occ W H y
  unfolding listed chain
  listed_more y = rw add-one

  records_more : (y : ℕ) → records_of occ W H (y + 1) ≡ records_of occ W H y ++ records_in occ W H y
  records_more y = ap entry_records (listed_more y) ∙ records_append (listed occ W H y) (rects_in occ W H y)

  pub listed_grows : (y : ℕ) → length (listed occ W H (y + 1)) ≡ length (listed occ W H y) + length (rects_in occ W H y)
  listed_grows y = ap length (listed_more y) ∙ length-append (listed occ W H y) (rects_in occ W H y)

  pub listed_none : listed occ W H 0 ≡ []
  unfolding listed chain
  listed_none = refl

  -- the list does not get shorter from row to row
  listed_le : (y d : ℕ) → length (listed occ W H y) ≤ length (listed occ W H (y + d))
  listed_le y zero = let q : y + 0 ≡ y = omega arith in rw q (omega arith)
  listed_le y (suc d) = let q : y + suc d ≡ y + d + 1 = omega arith in rw q (omega (arith, listed_le y d, listed_grows (y + d)))

  -- the records of the rows above y fit where the whole list does
  low_fits : (y : ℕ) → y ≤ H → length (records_of occ W H y) ≤ 8 * length (entries occ W H)
  low_fits y h =
      let q : y + (H - y) ≡ H = omega arith in
      let whole : length (listed occ W H (y + (H - y))) ≡ length (entries occ W H) = ap (λ n. length (listed occ W H n)) q ∙ ap length (sym (entries_listed occ W H)) in
      omega (arith, records_length (listed occ W H y), listed_le y (H - y))

  -- the records of the rows above y stand at the start of the room
  pub record Wrote (room₀ room : List ℕ) (y at : ℕ) : Type 0 where
    pub upto : y ≤ H
    pub next : at ≡ length (records_of occ W H y)
    pub bytes : room ≡ written 0 (records_of occ W H y) room₀

  module _ (room₀ : List ℕ) (fits : 8 * length (entries occ W H) ≤ length room₀) where
    pub wrote_none : Wrote room₀ room₀ 0 0
    unfolding entry_records
    wrote_none = record {
      upto = omega arith;
      next = sym (ap (λ (l : List Rect). length (entry_records l)) listed_none);
      bytes = written_none 0 room₀ ∙ ap (λ (l : List Rect). written 0 (entry_records l) room₀) (sym listed_none);
    }

    -- the whole list's length, at the end
    all_there : length (records_of occ W H H) ≡ 8 * length (entries occ W H)
    all_there = records_length (listed occ W H H) ∙ ap (λ (l : List Rect). 8 * length l) (sym (entries_listed occ W H))

    pub wrote_long : (room : List ℕ) (y at : ℕ) → Wrote room₀ room y at → length room ≡ length room₀
    wrote_long room y at w = ap length w.bytes ∙ length-written 0 (records_of occ W H y) room₀ (omega (arith, low_fits y w.upto))

    pub wrote_fits : (room : List ℕ) (y at : ℕ) → Wrote room₀ room y at → y < H → at + length (records_in occ W H y) ≤ length room
    wrote_fits room y at w h =
        omega (arith, low_fits (y + 1) (omega arith), ap length (records_more y), length-append (records_of occ W H y) (records_in occ W H y), w.next, wrote_long room y at w)

    pub wrote_more : (room room' : List ℕ) (y at at' : ℕ) → Wrote room₀ room y at → y < H → at' ≡ at + length (records_in occ W H y)
        → room' ≡ written at (records_in occ W H y) room → Wrote room₀ room' (y + 1) at'
    wrote_more room room' y at at' w h ea er =
        let R = records_of occ W H y in
        let p = records_in occ W H y in
        let z : at ≡ 0 + length R = omega (arith, w.next) in
        record {
          upto = omega arith;
          next = omega (arith, w.next, ap length (records_more y), length-append R p);
          bytes =
              er ∙ ap (written at p) w.bytes ∙ ap (λ k. written k p (written 0 R room₀)) z
              ∙ written_more 0 R p room₀ (omega (arith, low_fits y w.upto)) ∙ ap (λ r. written 0 r room₀) (sym (records_more y));
        }

    -- a row without entries
    pub wrote_skip : (room : List ℕ) (y at : ℕ) → Wrote room₀ room y at → y < H → rects_in occ W H y ≡ [] → Wrote room₀ room (y + 1) at
    unfolding entry_records
    wrote_skip room y at w h e =
        let none : records_in occ W H y ≡ [] = ap entry_records e in
        wrote_more room room y at at w h (omega (arith, ap length none)) (written_none at room ∙ ap (λ p. written at p room) (sym none))

    pub wrote_all : (room : List ℕ) (y at : ℕ) → Wrote room₀ room y at → H ≤ y → room ≡ entry_records (entries occ W H) ++ drop (8 * length (entries occ W H)) room₀
    unfolding written
    wrote_all room y at w h =
        let q : y ≡ H = omega (arith, w.upto) in
        let same : records_of occ W H H ≡ entry_records (entries occ W H) = ap entry_records (sym (entries_listed occ W H)) in
        let long : 0 + length (records_of occ W H H) ≡ 8 * length (entries occ W H) = omega (arith, all_there) in
        w.bytes ∙ ap (λ k. written 0 (records_of occ W H k) room₀) q
        ∙ ap (λ k. records_of occ W H H ++ drop k room₀) long ∙ ap (λ r. r ++ drop (8 * length (entries occ W H)) room₀) same

    -- eight bytes to an entry
    pub wrote_count : (room : List ℕ) (y n : ℕ) → Wrote room₀ room y (8 * n) → H ≤ y → n ≡ length (entries occ W H)
    wrote_count room y n w h =
        let q : y ≡ H = omega (arith, w.upto) in
        let e : 8 * n ≡ 8 * length (entries occ W H) = w.next ∙ ap (λ k. length (records_of occ W H k)) q ∙ all_there in
        omega arith
