-- WHAT PUTTING A MODULE IN AND TAKING ONE OUT COME TO: the surface stands, which cells are occupied, and which weights may have changed (demand 3).
-- Callers cite these. Assumes nothing.
use mathlib.Core.Path.{◌≡◌, refl, sym, ap, ap₂, ◌∙◌, subst}
use mathlib.Core.Bool.{Bool, true, false, not, ◌&&◌, ◌||◌, true≢false}
use mathlib.Core.List.{List}
use Prim.Native.Nat.{ℕ, ◌+◌, ◌-◌, ◌*◌, ◌≤◌, ◌<◌}
use native.Mathlib.Omega.{arith}
use borrow.Author.Tests.{eqb-true, eq-eqb, le-leb}
use lib.Dec.{leb, eqb}
use lib.IntN.{ℤ}
use lib.ListN.{length, get_or}
use Rattle.rules.specs.Tests.{every}
use Rattle.rules.specs.Surface.{Standing, covers, slots, byte, id_of, rect_of, kind_of, record_of, free_record, free_slot, used_slot, with_record, holds, occupied, cell, fresh}
use Rattle.rules.specs.Empties.{cells_empty}
use Rattle.rules.specs.Requests.{has_id, id_placed}
use Rattle.rules.specs.declared.Rect.{Rect}
use Rattle.rules.proofs.Tests.{and_left, and_right, and_both, fails, not_both, every_at, any_none, none_any}
use Rattle.meaning.proofs.Splits.{by_less, by_same}
use Rattle.meaning.proofs.Rectangles.{cells_empty_at, cells_empty_yes}
use Rattle.meaning.proofs.Weights.{covers_within}
use Rattle.meaning.proofs.Tables.{free_byte, bytes_free, Alike, alike_back, alike_slots, alike_free, alike_id, alike_holds, record_byte, record_alike, sets_low, sets_high}
use Rattle.meaning.specs.Change.{On, Placing, Taking, Spared}
use Rattle.meaning.proofs.Stands.{Sound, sound_told, told_sound, slots_told, same_id, same_told, apart_told, SoundTable, standing_fresh, standing_table, fresh_standing, written_sound, ids_told}
use Rattle.meaning.proofs.More.{OneMore, holds_here, occupied_more, occupied_less, frame}
use lib.Seq.{ext_get_or, length-sets}
use Rattle.meaning.proofs.Columns.{within_yes, covers_in}

-- all cells of a rectangle are empty: each of them is
pub empty_at : (occ : ℕ → ℕ → Bool) (r : Rect) → cells_empty occ r ≡ true → (x y : ℕ) → covers r x y ≡ true → occ x y ≡ false
empty_at occ r e x y k = let w = covers_within r x y k in cells_empty_at occ 0 0 r e x y w.left w.right w.top w.bottom

-- and the other way round
empty_of : (occ : ℕ → ℕ → Bool) (r : Rect) → ((x y : ℕ) → covers r x y ≡ true → occ x y ≡ false) → cells_empty occ r ≡ true
empty_of occ r h = cells_empty_yes occ 0 0 r (λ x y a b c d. h x y (covers_in r x a b y ∙ within_yes r.y r.h y c d))

-- slot i lies in a table of whole slots
pub slot_fits : {W H : ℕ} {s : List ℤ} {t : List ℕ} {i : ℕ} → Standing W H s t → i < slots t → 8 * i + 8 ≤ length t
slot_fits d l = let w = d.whole in omega arith

-- A RECORD WRITTEN OVER ANOTHER: only the second is left
record_over : (t : List ℕ) (i : ℕ) (a b : List ℕ) → length a ≡ 8 → length b ≡ 8 → 8 * i + 8 ≤ length t → with_record (with_record t i a) i b ≡ with_record t i b
record_over t i a b ea eb f =
    let n = length-sets t (8 * i) a in
    let u = with_record t i a in
    ext_get_or 0 (with_record u i b) (with_record t i b) (length-sets u (8 * i) b ∙ n ∙ sym (length-sets t (8 * i) b)) (λ k l.
    by_less k (8 * i) (λ h. sets_low 0 b u (8 * i) k h ∙ sets_low 0 a t (8 * i) k h ∙ sym (sets_low 0 b t (8 * i) k h)) (λ g.
    by_less k (8 * i + 8)
    (λ h.
    let e : k ≡ 8 * i + (k - 8 * i) = omega arith in
    ap (λ n. get_or (with_record u i b) n 0) e ∙ record_byte u i b eb (omega arith) (k - 8 * i) (omega arith) ∙ sym (ap (λ n. get_or (with_record t i b) n 0) e ∙ record_byte t i b eb f (k - 8 * i) (omega arith)))
    (λ h. sets_high 0 b u (8 * i) k (omega arith) ∙ sets_high 0 a t (8 * i) k (omega arith) ∙ sym (sets_high 0 b t (8 * i) k (omega arith)))))

-- ---- a module is put in

module _ (W H : ℕ) (s : List ℤ) (t : List ℕ) (i low high : ℕ) (r : Rect) (kind : ℕ) (p : Placing W H s t i low high r kind) where
  -- the table with it
  abbrev put : List ℕ
  put = with_record t i (record_of low high r kind)

  fits : 8 * i + 8 ≤ length t
  fits = slot_fits p.standing p.slot

  put_byte : (k : ℕ) → k < 8 → byte put i k ≡ get_or (record_of low high r kind) k 0
  put_byte = record_byte t i (record_of low high r kind) refl fits

  pub put_alike : Alike t put i
  put_alike = record_alike t i (record_of low high r kind) refl fits

  pub put_id : id_of put i ≡ low + 256 * high
  put_id = ap₂ (λ l h. l + 256 * h) (put_byte 0 (omega arith)) (put_byte 1 (omega arith))

  put_rect : rect_of put i ≡ r
  put_rect = rw (put_byte 2 (omega arith), put_byte 3 (omega arith), put_byte 4 (omega arith), put_byte 5 (omega arith))

  pub put_kind : kind_of put i ≡ kind
  put_kind = put_byte 6 (omega arith)

  put_used : free_slot put i ≡ false
  put_used =
      fails (free_slot put i) (λ e.
      let l = free_byte put i e 0 (omega arith) in
      let h = free_byte put i e 1 (omega arith) in
      omega (arith, put_id, p.some))

  pub put_more : OneMore t put i r
  put_more = record { slot = p.slot; alike = put_alike; unused = p.unused; used = put_used; rect = put_rect; alone = empty_at (occupied t) r p.empty }

  -- no other slot has the new id
  new_alone : (j : ℕ) → j < slots put → (j ≡ i → ⊥) → used_slot put j ≡ true → id_of put j ≡ id_of put i → ⊥
  unfolding id_placed
  new_alone j l ne f e =
      true≢false (sym (and_both (ap not (sym (alike_free put_alike j ne)) ∙ f) (eq-eqb (id_of t j) (low + 256 * high) (sym (alike_id put_alike j ne) ∙ e ∙ put_id)))
      ∙ any_none (slots t) (has_id t (low + 256 * high)) p.new j (omega (arith, alike_slots put_alike)))

  -- no other module has a cell of the new one
  place_alone : (x y j : ℕ) → j < slots put → (j ≡ i → ⊥) → holds put x y i ≡ true → holds put x y j ≡ true → ⊥
  unfolding occupied
  place_alone x y j l ne a b =
      true≢false (sym (sym (alike_holds put_alike j ne x y) ∙ b)
      ∙ any_none (slots t) (holds t x y) (empty_at (occupied t) r p.empty x y (sym (holds_here t put i r put_more x y) ∙ a)) j (omega (arith, alike_slots put_alike)))

  put_table : SoundTable W H put
  put_table =
      written_sound W H t put i (standing_table W H s t p.standing) put_alike
      (λ f. told_sound W H put i (record {
        id = omega (arith, put_id, p.some);
        place = subst (On W H) (sym put_rect) p.place;
        kind = ap (λ k. leb k 1) put_kind ∙ le-leb kind 1 p.known;
        spare = eq-eqb (byte put i 7) 0 (put_byte 7 (omega arith));
      }))
      (λ j l ne. fails (same_id put i j) (λ e. let w = same_told put i j e in new_alone j l ne w.1 (sym w.2)))
      (λ x y j l ne. fails (holds put x y i && holds put x y j) (λ e. place_alone x y j l ne (and_left (holds put x y i) (holds put x y j) e) (and_right (holds put x y i) (holds put x y j) e)))

  -- THE SURFACE STANDS WITH THE MODULE PUT IN
  pub put_stands : Standing W H (fresh W H put) put
  put_stands = fresh_standing W H put put_table

  -- A CELL IS THEN OCCUPIED IF IT WAS, OR IF THE MODULE HAS IT
  pub put_occupied : (x y : ℕ) → occupied put x y ≡ (occupied t x y || covers r x y)
  put_occupied x y = occupied_more t put i r put_more x y

  -- ONLY WEIGHTS IN THE MODULE'S REACH HAVE CHANGED
  pub put_frame : (c q : ℕ) → c < W → q < H → Spared r t c q → cell W (fresh W H put) c q ≡ cell W s c q
  put_frame c q hc hq k = frame W H t put i r put_more c q hc hq k ∙ sym (ap (λ l. cell W l c q) (standing_fresh W H s t p.standing))

-- ---- a module is taken out

module _ (W H : ℕ) (s : List ℤ) (t : List ℕ) (i : ℕ) (p : Taking W H s t i) where
  -- the table without it
  abbrev taken : List ℕ
  taken = with_record t i free_record

  taken_byte : (k : ℕ) → k < 8 → byte taken i k ≡ 0
  unfolding every
  taken_byte k l =
      record_byte t i free_record refl (slot_fits p.standing p.slot) k l
      ∙ eqb-true (get_or free_record k 0) 0 (every_at 8 (λ k. eqb (get_or free_record k 0) 0) refl k l)

  pub taken_alike : Alike t taken i
  taken_alike = record_alike t i free_record refl (slot_fits p.standing p.slot)

  -- the slot is free
  taken_free : free_slot taken i ≡ true
  taken_free = bytes_free taken i taken_byte

  -- the module that stood there lay on the surface
  pub taken_sound : Sound W H t i
  taken_sound = sound_told W H t i (slots_told W H t (standing_table W H s t p.standing).slots_are i p.slot p.used)

  none_there : (x y : ℕ) → holds taken x y i ≡ false
  unfolding holds
  none_there x y = ap (λ f. not f && covers (rect_of taken i) x y) taken_free

  -- and no other module has a cell of it
  taken_alone : (x y : ℕ) → covers (rect_of t i) x y ≡ true → occupied taken x y ≡ false
  unfolding occupied holds
  taken_alone x y e =
      none_any (slots taken) (holds taken x y) (λ j l.
      by_same j i (λ q. ap (holds taken x y) q ∙ none_there x y) (λ ne.
      let w = covers_within (rect_of t i) x y e in
      let d = taken_sound.place in
      fails (holds taken x y j) (λ k.
      not_both (holds t x y i && holds t x y j)
      (and_both (and_both (ap not p.used) e) (sym (alike_holds taken_alike j ne x y) ∙ k))
      (apart_told W H t (standing_table W H s t p.standing).modules_are x y (omega (arith, w.right, d.columns)) (omega (arith, w.bottom, d.lines)) i j p.slot (omega (arith, alike_slots taken_alike)) (λ z. ne (sym z))))))

  pub taken_less : OneMore taken t i (rect_of t i)
  taken_less = record { slot = omega (arith, alike_slots taken_alike, p.slot); alike = alike_back taken_alike; unused = taken_free; used = p.used; rect = refl; alone = taken_alone }

  left_table : SoundTable W H taken
  left_table =
      written_sound W H t taken i (standing_table W H s t p.standing) taken_alike
      (λ f. not_both (free_slot taken i) taken_free f)
      (λ j l ne. ap (λ f. not f && used_slot taken j && eqb (id_of taken i) (id_of taken j)) taken_free)
      (λ x y j l ne. ap (λ c. c && holds taken x y j) (none_there x y))

  -- THE SURFACE STANDS WITH THE MODULE TAKEN OUT
  pub take_stands : Standing W H (fresh W H taken) taken
  take_stands = fresh_standing W H taken left_table

  -- A CELL IS THEN OCCUPIED IF IT WAS AND THE MODULE HAD IT NOT
  take_occupied : (x y : ℕ) → occupied taken x y ≡ (occupied t x y && not (covers (rect_of t i) x y))
  take_occupied x y = occupied_less taken t i (rect_of t i) taken_less x y

  -- ONLY WEIGHTS IN THE MODULE'S REACH HAVE CHANGED
  pub take_frame : (c q : ℕ) → c < W → q < H → Spared (rect_of t i) taken c q → cell W (fresh W H taken) c q ≡ cell W s c q
  take_frame c q hc hq k = sym (ap (λ l. cell W l c q) (standing_fresh W H s t p.standing) ∙ frame W H taken t i (rect_of t i) taken_less c q hc hq k)

  -- ---- another module under its id may be put into its slot (an exchange)

  -- THE ID IS THEN PLACED NO MORE
  pub id_gone : id_placed taken (id_of t i) ≡ false
  unfolding id_placed
  id_gone =
      none_any (slots taken) (has_id taken (id_of t i)) (λ j l.
      by_same j i (λ q. ap (λ f. not f && eqb (id_of taken j) (id_of t i)) (ap (free_slot taken) q ∙ taken_free)) (λ ne.
      let a = taken_alike in
      fails (has_id taken (id_of t i) j) (λ e.
      not_both (same_id t i j)
      (and_both (and_both (ap not p.used) (ap not (sym (alike_free a j ne)) ∙ and_left (used_slot taken j) (eqb (id_of taken j) (id_of t i)) e))
      (eq-eqb (id_of t i) (id_of t j) (sym (sym (alike_id a j ne) ∙ eqb-true (id_of taken j) (id_of t i) (and_right (used_slot taken j) (eqb (id_of taken j) (id_of t i)) e)))))
      (ids_told t (standing_table W H s t p.standing).ids_are i j p.slot (omega (arith, alike_slots a)) (λ z. ne (sym z))))))

  -- what was empty with it is empty without it
  still_empty : (r : Rect) → cells_empty (occupied t) r ≡ true → cells_empty (occupied taken) r ≡ true
  still_empty r e = empty_of (occupied taken) r (λ x y k. take_occupied x y ∙ ap (λ b. b && not (covers (rect_of t i) x y)) (empty_at (occupied t) r e x y k))

  -- A MODULE UNDER ITS ID MAY THEN BE PUT INTO ITS SLOT, wherever all cells were empty with the old one there
  pub exchange_placing : (low high : ℕ) (r : Rect) (kind : ℕ) → kind ≤ 1 → low + 256 * high ≡ id_of t i → On W H r → cells_empty (occupied t) r ≡ true →
      Placing W H (fresh W H taken) taken i low high r kind
  exchange_placing low high r kind k id place free =
      let o = taken_less in
      record {
        standing = take_stands;
        slot = o.slot;
        unused = o.unused;
        place = place;
        empty = still_empty r free;
        some = omega (arith, id, taken_sound.id);
        new = ap (id_placed taken) id ∙ id_gone;
        known = k;
      }

  -- a new module in the place of the old one: the record is written over the old one
  pub exchange_table : (low high : ℕ) (r : Rect) (kind : ℕ) → with_record taken i (record_of low high r kind) ≡ with_record t i (record_of low high r kind)
  exchange_table low high r kind = record_over t i free_record (record_of low high r kind) refl refl (slot_fits p.standing p.slot)
