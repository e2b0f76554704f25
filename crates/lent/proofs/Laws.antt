-- Laws of the calls on bytes: what code 0 says, and each way out. Assumes nothing.
use mathlib.Core.Path.{◌≡◌, refl, sym, ap, ap₂, ◌∙◌}
use mathlib.Core.Bool.{Bool, true, false}
use mathlib.Core.List.{List}
use Prim.Native.Nat.{ℕ, ◌*◌, ◌/◌, ◌<◌}
use native.Mathlib.Omega.{arith}
use borrow.Author.Tests.{eqb-true, eq-eqb, ne_eqb, not-false}
use lib.Dec.{eqb}
use lib.IntN.{ℤ}
use lib.ListN.{length}
use Rattle.rules.specs.Judging.{Line, first}
use Rattle.rules.specs.Surface.{stands, Standing, used_slots}
use Rattle.rules.specs.Calls.{size_lines, clear_lines, clear_code, clear_with, cleared_weights, cleared_table, check_result, entries_of, short_room, result_of, Listed, list_result, list_with}
use Rattle.rules.specs.Host.{lent, HostClearedBy, HostListedBy, bad_bytes, weights_of, bytes_of, host_clear, host_check, host_list}
use Rattle.meaning.proofs.Codes.{Good, good, standing}
use Rattle.meaning.proofs.Bytes.{length-weights_of}
use Rattle.meaning.proofs.Outcomes.{check_refused_is, check_fallen_is, check_done_is, list_refused, list_done, list_refused_is, list_fallen_is, list_short_is, list_done_is}
use Rattle.listing.specs.Listed.{listing, listed_result, listed_room}
use Rattle.std.specs.Prelude.{Ok, Err, cond, Result}
use Rattle.rules.specs.declared.Refusal.TheVariants.{RoomShort}
use Rattle.rules.specs.Empties.{corners}
use Rattle.listing.specs.declared.row.Counts.{Counts as Listing}
use Rattle.listing.proofs.Counted.{counts_low}
use Rattle.rules.specs.Refusals.{number_of}
use Rattle.rules.specs.declared.Refusal.{Refusal}
use Rattle.surface.specs.Examine.{Tells}
use Rattle.rules.proofs.Refusals.{coded}
use Rattle.lent.specs.Lent.{Right, LentExamined}
use Rattle.lent.specs.Told.{told_number}
use Rattle.lent.specs.declared.counts.Counts.{Counts}
use Rattle.surface.proofs.ExamineLaws.{stood}
use Rattle.std.proofs.lemmas.Result.{err_from_is_err_and}
use Rattle.std.specs.Result.{IsErrAnd}

-- what the host is told where a `?` leaves with a refusal
pub told_err : (r : Result Counts Refusal) (f : Refusal) → IsErrAnd r (λ y. y ≡ f) → told_number r ≡ result_of (number_of f) 0 0
told_err r f h = let p = err_from_is_err_and r h in rw (p.1, p.2) refl

-- a surface that does not stand is refused by 6
pub fallen_code : (b : Bool) (t : List ℕ) (f : Refusal) → Tells b t (Err f) → (b ≡ false) × (number_of f ≡ 6)
fallen_code true t f a = absurd (omega (arith, coded f, a.code))
fallen_code false t f a = (refl, a.code)

module _ (W H : ℕ) (b t : List ℕ) where
  abbrev sizes : List Line
  sizes = size_lines (bad_bytes W H (lent b t)) W H (length t)

  -- where the sizes are right, the call goes on
  pub sized : 0 ≡ first sizes → Right W H (lent b t)
  sized e = record { right = sym e }

  -- and the surface stands where it is examined and not refused: the scratch has its weights
  pub stood_lent : (u : ℕ) (s : List ℤ) → LentExamined W H (lent b t) (Ok u) s → (stands W H (weights_of b) t ≡ true) × (s ≡ weights_of b)
  stood_lent u s x = let q = (stood _ t _ u x.answer refl).0 in (q, x.weights q)

  module _ (l : Right W H (lent b t)) where
    pub lent_good : Good (bad_bytes W H (lent b t)) W H (length t)
    lent_good = good (bad_bytes W H (lent b t)) W H (length t) l.right

    pub lent_long : length b ≡ 2 * (W * H)
    lent_long = eqb-true (length b) (2 * (W * H)) (not-false _ lent_good.fits)

    pub weights_many : length (weights_of b) ≡ W * H
    weights_many = length-weights_of b ∙ (let q : length b / 2 ≡ W * H = omega (arith, lent_long) in q)

    pub lent_standing : (s : List ℤ) → s ≡ weights_of b → stands W H (weights_of b) t ≡ true → Standing W H s t
    lent_standing s e q = standing (bad_bytes W H (lent b t)) W H s t l.right (ap length e ∙ weights_many) (ap (λ z. stands W H z t) e ∙ q)

  -- ---- clear

  pub clear_refused : (f : Refusal) → number_of f ≡ first sizes → HostClearedBy W H (lent b t) (result_of (number_of f) 0 0) (lent b t)
  unfolding host_clear clear_with clear_code clear_lines
  clear_refused f e =
      let q : eqb (first sizes) 0 ≡ false = ne_eqb (first sizes) 0 (λ z. omega (arith, coded f, e, z)) in
      record { result = ap (λ n. result_of n 0 0) e; left = rw q }

  pub clear_done : Right W H (lent b t) → (b' t' : List ℕ) → b' ≡ bytes_of (cleared_weights W H) → t' ≡ cleared_table t → HostClearedBy W H (lent b t) (result_of 0 0 0) (lent b' t')
  unfolding host_clear clear_with clear_code clear_lines
  clear_done l b' t' p q =
      let z : eqb (first sizes) 0 ≡ true = eq-eqb (first sizes) 0 l.right in
      record { result = ap (λ n. result_of n 0 0) (sym l.right); left = rw z (ap₂ lent p q) }

  -- ---- check

  pub checked_refused : (f : Refusal) → number_of f ≡ first sizes → result_of (number_of f) 0 0 ≡ host_check W H (lent b t)
  unfolding host_check
  checked_refused f e = ap check_result (sym (check_refused_is (bad_bytes W H (lent b t)) W H (weights_of b) t (number_of f) e (λ z. omega (arith, coded f, z))))

  pub checked_fallen : Right W H (lent b t) → (f : Refusal) → Tells (stands W H (weights_of b) t) t (Err f) → result_of (number_of f) 0 0 ≡ host_check W H (lent b t)
  unfolding host_check
  checked_fallen l f a =
      let q = fallen_code _ t f a in
      ap (λ n. result_of n 0 0) q.1 ∙ ap check_result (sym (check_fallen_is (bad_bytes W H (lent b t)) W H (weights_of b) t l.right q.0))

  pub checked_done : Right W H (lent b t) → stands W H (weights_of b) t ≡ true → (u : ℕ) → u ≡ used_slots t → result_of 0 u 0 ≡ host_check W H (lent b t)
  unfolding host_check
  checked_done l q u p = ap (λ n. result_of 0 n 0) p ∙ ap check_result (sym (check_done_is (bad_bytes W H (lent b t)) W H (weights_of b) t l.right q))

  -- ---- list

  module _ (room : List ℕ) where
    listed_by : (o : Listed) → list_with (bad_bytes W H (lent b t)) W H (weights_of b) t room ≡ o → (r : ℕ) (room' : List ℕ) → r ≡ list_result o → room' ≡ o.room → HostListedBy W H (lent b t) room r room'
    unfolding host_list
    listed_by o e r room' p q = record { result = p ∙ ap list_result (sym e); written = q ∙ ap (λ (z : Listed). z.room) (sym e) }

    pub listed_refused : (f : Refusal) → number_of f ≡ first sizes → HostListedBy W H (lent b t) room (result_of (number_of f) 0 0) room
    listed_refused f e =
        let r = number_of f in
        listed_by (list_refused (bad_bytes W H (lent b t)) W H (weights_of b) t room r) (list_refused_is (bad_bytes W H (lent b t)) W H (weights_of b) t room r e (λ z. omega (arith, coded f, z))) _ room refl refl

    pub listed_fallen : Right W H (lent b t) → (f : Refusal) → Tells (stands W H (weights_of b) t) t (Err f) → HostListedBy W H (lent b t) room (result_of (number_of f) 0 0) room
    listed_fallen l f a =
        let q = fallen_code _ t f a in
        listed_by (list_refused (bad_bytes W H (lent b t)) W H (weights_of b) t room 6) (list_fallen_is (bad_bytes W H (lent b t)) W H (weights_of b) t room l.right q.0) _ room (ap (λ n. result_of n 0 0) q.1) refl

    pub listed_done : Right W H (lent b t) → stands W H (weights_of b) t ≡ true → (r : ℕ) (room' : List ℕ) → r ≡ listed_result W H t room → room' ≡ listed_room W H t room → HostListedBy W H (lent b t) room r room'
    unfolding listed_result listed_room
    listed_done l q r room' p o = go (short_room W H t room) refl
      where
        go : (c : Bool) → short_room W H t room ≡ c → HostListedBy W H (lent b t) room r room'
        go true f = listed_by (list_refused (bad_bytes W H (lent b t)) W H (weights_of b) t room 7) (list_short_is (bad_bytes W H (lent b t)) W H (weights_of b) t room l.right q f) r room' (p ∙ rw f) (o ∙ rw f)
        go false f = listed_by (list_done (bad_bytes W H (lent b t)) W H (weights_of b) t room) (list_done_is (bad_bytes W H (lent b t)) W H (weights_of b) t room l.right q f) r room' (p ∙ rw f) (o ∙ rw f)

-- both counts of a list have sixteen bits
pub listed_small : (W H : ℕ) (s : List ℤ) (t room : List ℕ) → Standing W H s t → (c : Listing) → Ok c ≡ listing W H t room → (c.entries < 65536) × (c.corners < 65536)
unfolding listing
listed_small W H s t room d c e = go (short_room W H t room) e
  where
    go : (b : Bool) → Ok c ≡ cond b (Err RoomShort) (Ok (record { entries = length (entries_of W H t); corners = corners W H t })) → (c.entries < 65536) × (c.corners < 65536)
    go true z = absurd (grind arith)
    go false z = let k = counts_low d in grind arith
