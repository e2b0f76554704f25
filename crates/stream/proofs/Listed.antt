-- The list at the end. Assumes nothing.
use mathlib.Core.Path.{◌≡◌, refl, sym, ap, ◌∙◌, subst⁻¹}
use mathlib.Core.Bool.{false, cond}
use mathlib.Core.List.{List}
use Prim.Native.Nat.{ℕ, ◌*◌, ◌≤◌}
use native.Mathlib.Omega.{arith}
use borrow.Author.Tests.{ne_eqb, le-ltb}
use lib.IntN.{ℤ}
use lib.ListN.{length, take}
use Rattle.std.specs.Prelude.{Option, Some, Result, Ok, Err, IsOk}
use Rattle.rules.specs.Surface.{Standing, occupied}
use Rattle.rules.specs.Empties.{corners}
use Rattle.rules.specs.Calls.{entries_of, short_room, room_after}
use Rattle.rules.specs.declared.Refusal.{Refusal}
use Rattle.rules.specs.declared.Refusal.TheVariants.{RoomShort}
use Rattle.meaning.proofs.Codes.{area}
use Rattle.meaning.proofs.Theorems.{list_few}
use Rattle.listing.specs.Listed.{listing, listed_room}
use Rattle.listing.specs.declared.row.Counts.{Counts}
use Rattle.stream.specs.declared.size.Size.{Size}
use Rattle.stream.specs.Size.{columns_of, rows_of}
use Rattle.stream.specs.Records.{kept}
use Rattle.stream.specs.Promise.{Ready, ListedBy}
use Rattle.stream.proofs.Laws.{on_size, stands_on}

-- the room takes it
takes : (W H : ℕ) (s : List ℤ) (t room : List ℕ) → Standing W H s t → length room ≡ 32768 → (length (entries_of W H t) ≤ 4096) × (short_room W H t room ≡ false)
takes W H s t room d e =
    let a = list_few (occupied t) W H in
    let b = area W H d.sides in
    let m : length (entries_of W H t) ≤ 4096 = omega (arith, a, b) in (m, le-ltb (length room) (8 * length (entries_of W H t)) (omega (arith, m, e)))

-- so 7 is not given
pub counted : (W H : ℕ) (s : List ℤ) (t room : List ℕ) (r : Result Counts Refusal) → Standing W H s t → length room ≡ 32768 → r ≡ listing W H t room →
    r ≡ Ok (record { entries = length (entries_of W H t); corners = corners W H t })
unfolding listing
counted W H s t room r d e er = er ∙ ap (λ b. cond b (Err RoomShort) (Ok (record { entries = length (entries_of W H t); corners = corners W H t }))) (takes W H s t room d e).1

-- on the surface that is kept
module _ (o : Option Size) (h : ℕ) (z : Size) (s : List ℤ) (t room : List ℕ) (r : Result Counts Refusal) (e : o ≡ Some z) (y : Ready (columns_of o) (rows_of o h) s t) (l : length room ≡ 32768)
    (er : r ≡ listing z.columns z.rows t room) where
  abbrev W : ℕ
  W = z.columns

  abbrev H : ℕ
  H = z.rows

  stands : Standing W H (take (W * H) s) t
  stands = stands_on z s t (on_size o h z s t e y)

  pub is_counted : IsOk r
  is_counted = subst⁻¹ IsOk (counted W H (take (W * H) s) t room r stands l er) refl

  pub listed_some : (k : Counts) (room' : List ℕ) → r ≡ Ok k → room' ≡ listed_room W H t room → length room' ≡ length room → ListedBy (kept (columns_of o) (rows_of o h) s t) room k.entries k.corners room'
  unfolding listed_room
  listed_some k room' ek em lo =
      let p = takes W H (take (W * H) s) t room stands l in
      let n : Counts = record { entries = length (entries_of W H t); corners = corners W H t } in
      let f : ◌≡◌ {A = Result Counts Refusal} (Ok k) (Ok n) = sym ek ∙ counted W H (take (W * H) s) t room r stands l er in
      let g : k ≡ n = cc f in
      let u = ne_eqb W 0 (λ w. omega (arith, z.sides.wide)) in
      let ge : k.entries ≡ length (entries_of W H t) = ap (λ (k : Counts). k.entries) g in
      subst⁻¹ (λ o. ListedBy (kept (columns_of o) (rows_of o h) s t) room k.entries k.corners room') e (record {
        entries = ge ∙ rw u;
        corners = ap (λ (k : Counts). k.corners) g ∙ rw u;
        written = em ∙ ap (λ b. cond b room (room_after W H t room)) p.1 ∙ rw u;
        fits = omega (arith, ge, p.0, l, lo);
      })
