-- WHAT CLEAR, CHECK, RUNNING A BLOCK AND LISTING COME TO, each way out as one equation of the whole outcome: code, counts and every lent buffer. Stated
-- once, over `bad` and the weights: so for the figures' numbers and for the host's bytes alike. Assumes nothing.
use mathlib.Core.Path.{◌≡◌, refl, sym, ap, ◌∙◌}
use mathlib.Core.Bool.{Bool, true, false, cond}
use mathlib.Core.List.{List, [], ◌∷◌, ◌++◌}
use Prim.Native.Nat.{ℕ}
use borrow.Author.Tests.{ne_eqb}
use lib.Dec.{eqb}
use lib.IntN.{ℤ}
use lib.ListN.{length}
use Rattle.rules.specs.Judging.{Line, ◌when◌, first}
use Rattle.meaning.specs.Numbers.{above}
use Rattle.rules.specs.Surface.{stands, used_slots}
use Rattle.rules.specs.Empties.{corners}
use Rattle.rules.specs.Blocks.{State, started, requests, after}
use Rattle.rules.specs.Calls.{Cleared, cleared_weights, cleared_table, size_lines, stand_lines, bad_block, bad_answers, Ran, run_lines, run_code, run_with, entries_of, short_room, room_after, Listed, list_lines, list_code, list_with, Checked, check_lines, check_code, check_with}
use Rattle.meaning.proofs.First.{first_stop, first_over}

-- ---- any call: its outcome by its code, and by whether that is 0

module _ {A : Type 0} (by : ℕ → Bool → A) where
  pub refuses : (c : ℕ) → (c ≡ 0 → ⊥) → by c (eqb c 0) ≡ by c false
  refuses c ne = ap (by c) (ne_eqb c 0 ne)

  pub does : (c : ℕ) → c ≡ 0 → by c (eqb c 0) ≡ by 0 true
  does c e = ap (λ k. by k (eqb k 0)) e

  -- the code is that of the first of two lists of lines, or, where that is 0, of the second
  module _ (ahead behind : List Line) where
    stops : (c : ℕ) → c ≡ first ahead → (c ≡ 0 → ⊥) → by (first (ahead ++ behind)) (eqb (first (ahead ++ behind)) 0) ≡ by c false
    stops c e ne = ap (λ k. by k (eqb k 0)) (first_stop ahead behind (λ z. ne (e ∙ z)) ∙ sym e) ∙ refuses c ne

    passes : above 0 ahead ≡ true → first ahead ≡ 0 → (c : ℕ) → first behind ≡ c → by (first (ahead ++ behind)) (eqb (first (ahead ++ behind)) 0) ≡ by c (eqb c 0)
    passes u e c q = ap (λ k. by k (eqb k 0)) (first_over ahead behind u e ∙ q)

module _ (bad : Bool) (W H : ℕ) (s : List ℤ) (t : List ℕ) where
  abbrev sizes : List Line
  sizes = size_lines bad W H (length t)

  abbrev pub clear_by : ℕ → Bool → Cleared
  clear_by c d = record { code = c; weights = cond d (cleared_weights W H) s; table = cond d (cleared_table t) t }

  -- ---- check

  abbrev pub check_by : ℕ → Bool → Checked
  check_by c d = record { code = c; used = cond d (used_slots t) 0 }

  -- one of 1, 2 and 3
  pub check_refused_is : (c : ℕ) → c ≡ first sizes → (c ≡ 0 → ⊥) → check_with bad W H s t ≡ check_by c false
  unfolding check_with check_code check_lines
  check_refused_is = stops check_by sizes (stand_lines W H s t)

  pub check_fallen_is : first sizes ≡ 0 → stands W H s t ≡ false → check_with bad W H s t ≡ check_by 6 false
  unfolding check_with check_code check_lines first
  check_fallen_is e q = passes check_by sizes (stand_lines W H s t) (unfold above in refl) e 6 (rw q)

  pub check_done_is : first sizes ≡ 0 → stands W H s t ≡ true → check_with bad W H s t ≡ check_by 0 true
  unfolding check_with check_code check_lines first
  check_done_is e q = passes check_by sizes (stand_lines W H s t) (unfold above in refl) e 0 (rw q)

  -- ---- run a block

  module _ (b a : List ℕ) where
    -- 1 to 5: the lines before the surface is looked at
    abbrev pub run_ahead : List Line
    run_ahead = sizes ++ (4 when bad_block (length b) ∷ 5 when bad_answers b a ∷ [])

    abbrev pub run_by : ℕ → Bool → Ran
    run_by c d =
        let refused : State = record { weights = s; table = t; answers = a; accepted = 0 } in
        let left : State = cond d (after W H b (started s t) (requests b)) refused in
        record { code = c; accepted = left.accepted; weights = left.weights; table = left.table; answers = left.answers }

    abbrev pub run_refused : ℕ → Ran
    run_refused c = run_by c false

    abbrev pub run_done : Ran
    run_done = run_by 0 true

    -- one of 1 to 5
    pub run_refused_is : (c : ℕ) → c ≡ first run_ahead → (c ≡ 0 → ⊥) → run_with bad W H s t b a ≡ run_refused c
    unfolding run_with run_code run_lines
    run_refused_is = stops run_by run_ahead (stand_lines W H s t)

    pub run_fallen_is : first run_ahead ≡ 0 → stands W H s t ≡ false → run_with bad W H s t b a ≡ run_refused 6
    unfolding run_with run_code run_lines first
    run_fallen_is e q = passes run_by run_ahead (stand_lines W H s t) (unfold above in refl) e 6 (rw q)

    pub run_done_is : first run_ahead ≡ 0 → stands W H s t ≡ true → run_with bad W H s t b a ≡ run_done
    unfolding run_with run_code run_lines first
    run_done_is e q = passes run_by run_ahead (stand_lines W H s t) (unfold above in refl) e 0 (rw q)

  -- ---- list

  module _ (room : List ℕ) where
    abbrev behind : List Line
    behind = stand_lines W H s t ++ (7 when short_room W H t room ∷ [])

    abbrev pub list_by : ℕ → Bool → Listed
    list_by c d = record { code = c; entries = cond d (length (entries_of W H t)) 0; corners = cond d (corners W H t) 0; room = cond d (room_after W H t room) room }

    abbrev pub list_refused : ℕ → Listed
    list_refused c = list_by c false

    abbrev pub list_done : Listed
    list_done = list_by 0 true

    -- one of 1, 2 and 3
    pub list_refused_is : (c : ℕ) → c ≡ first sizes → (c ≡ 0 → ⊥) → list_with bad W H s t room ≡ list_refused c
    unfolding list_with list_code list_lines
    list_refused_is = stops list_by sizes behind

    list_over : first sizes ≡ 0 → (c : ℕ) → first behind ≡ c → list_with bad W H s t room ≡ list_by c (eqb c 0)
    unfolding list_with list_code list_lines
    list_over = passes list_by sizes behind (unfold above in refl)

    pub list_fallen_is : first sizes ≡ 0 → stands W H s t ≡ false → list_with bad W H s t room ≡ list_refused 6
    unfolding first
    list_fallen_is e q = list_over e 6 (rw q)

    pub list_short_is : first sizes ≡ 0 → stands W H s t ≡ true → short_room W H t room ≡ true → list_with bad W H s t room ≡ list_refused 7
    unfolding first
    list_short_is e q f = list_over e 7 (rw (q, f))

    pub list_done_is : first sizes ≡ 0 → stands W H s t ≡ true → short_room W H t room ≡ false → list_with bad W H s t room ≡ list_done
    unfolding first
    list_done_is e q f = list_over e 0 (rw (q, f))
