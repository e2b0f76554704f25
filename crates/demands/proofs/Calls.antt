-- WHAT THE CONTRACTS SAY OF A CALL, by the code in its result: refused, nothing is written and the counts are 0; done, each part. Assumes nothing.
use mathlib.Core.Path.{◌≡◌, refl, sym, ap, ◌∙◌}
use mathlib.Core.Bool.{Bool, true, false, cond, ◌&&◌}
use mathlib.Core.List.{List}
use Prim.Native.Nat.{ℕ, ◌+◌, ◌*◌, ◌/◌, ◌%◌, ◌≤◌, ◌<◌}
use native.Mathlib.Omega.{arith}
use borrow.Author.Tests.{ne_eqb, eqb-true, not-false}
use lib.Dec.{eqb}
use lib.IntN.{ℤ}
use lib.ListN.{length}
use Rattle.rules.specs.Surface.{Standing, stands, occupied, used_slots}
use Rattle.rules.specs.Empties.{on_surface, empty, bottom_reaches, corners}
use Rattle.rules.specs.Judging.{Line, first, FirstThat, NoneApplies}
use Rattle.meaning.specs.Numbers.{above}
use Rattle.rules.specs.Blocks.{State, started, requests, after}
use Rattle.rules.specs.Calls.{size_lines, result_of, code_of_result, first_of_result, second_of_result, clear_lines, clear_code, clear_with, cleared_weights, cleared_table, check_lines, check_code, check_with, Ran, run_lines, run_code, run_with, entries_of, room_after, Listed, list_lines, list_code, list_with}
use Rattle.rules.specs.Host.{LentSurface, lent, bad_bytes, weights_in, bytes_of, host_clear, host_check, host_run, host_list, HostClearedBy, HostRanBy, HostListedBy}
use Rattle.rules.specs.declared.Rect.{Rect}
use Rattle.meaning.proofs.First.{first_is, none_applies, first_parts}
use Rattle.meaning.proofs.Codes.{GoodBlock, good, good_block, sizes_none, standing, area}
use Rattle.meaning.proofs.Counts.{used_few, accepted_few}
use Rattle.meaning.proofs.Bytes.{length-weights_of}
use Rattle.meaning.proofs.Outcomes.{refuses, does, clear_by, check_by, run_by, run_ahead, list_by}
use Rattle.meaning.proofs.Theorems as T
use Rattle.demands.proofs.Refusals.{below, first_below}

-- ---- any call: its result by the code of its lines, and by whether that is 0

-- every code is below 65536, and the counts are one and two
record Call (ls : List Line) (one two : Bool → ℕ) (r : ℕ) : Type 0 where
  low : below 65536 ls ≡ true
  is : r ≡ result_of (first ls) (one (eqb (first ls) 0)) (two (eqb (first ls) 0))

module _ {ls : List Line} {one two : Bool → ℕ} {r : ℕ} (k : Call ls one two r) where
  small : first ls < 65536
  small = first_below 65536 ls (omega arith) k.low

  code_of_lem : code_of_result r ≡ first ls
  code_of_lem = ap code_of_result k.is ∙ (let l = small in omega arith)

  first_of : FirstThat ls (code_of_result r)
  first_of = rw code_of_lem (first_is ls)

  -- a refusal: its counts are 0
  refused_of : one false ≡ 0 → two false ≡ 0 → (code_of_result r ≡ 0 → ⊥) → r < 65536
  refused_of a b ne = omega (arith, k.is ∙ refuses (λ c d. result_of c (one d) (two d)) (first ls) (λ z. ne (code_of_lem ∙ z)), a, b, small)

  module _ (e : code_of_result r ≡ 0) where
    zero_of : first ls ≡ 0
    zero_of = sym code_of_lem ∙ e

    done_of : r ≡ result_of 0 (one true) (two true)
    done_of = k.is ∙ does (λ c d. result_of c (one d) (two d)) (first ls) zero_of

    counts_of : one true < 65536 → two true < 65536 → (first_of_result r ≡ one true) × (second_of_result r ≡ two true)
    counts_of m n =
        let a : r / 65536 ≡ one true + 65536 * two true = omega (arith, done_of) in
        let b : r / 4294967296 ≡ two true = omega (arith, done_of) in
        (ap (λ k. k % 65536) a ∙ (let c : (one true + 65536 * two true) % 65536 ≡ one true = omega arith in c), ap (λ k. k % 65536) b ∙ (let c : two true % 65536 ≡ two true = omega arith in c))

module _ (W H : ℕ) (l : LentSurface) where
  abbrev bad : Bool
  bad = bad_bytes W H l

  abbrev s : List ℤ
  s = weights_in l

  abbrev t : List ℕ
  t = l.table

  -- what is left, by a call's code
  abbrev left_by : ℕ → List ℤ → List ℕ → LentSurface
  left_by c w u = lent (cond (eqb c 0) (bytes_of w) l.weights) u

  unwritten : (c : ℕ) → (c ≡ 0 → ⊥) → left_by c s t ≡ l
  unwritten c ne = ap (λ b. lent (cond b (bytes_of s) l.weights) t) (ne_eqb c 0 ne)

  -- where none of 1, 2 and 3 applies
  long : first (size_lines bad W H (length t)) ≡ 0 → length l.weights ≡ 2 * (W * H)
  long e = eqb-true (length l.weights) (2 * (W * H)) (not-false _ (good bad W H (length t) e).fits)

  surface : first (size_lines bad W H (length t)) ≡ 0 → stands W H s t ≡ true → Standing W H s t
  surface e z =
      standing bad W H s t e (length-weights_of l.weights ∙ (let q : length l.weights / 2 ≡ W * H = omega (arith, long e) in q)) z

  -- ---- clear

  module _ {r : ℕ} {l' : LentSurface} (p : HostClearedBy W H l r l') where
    abbrev clear_out : ℕ → Bool → LentSurface
    clear_out c d = left_by c (clear_by bad W H s t c d).weights (clear_by bad W H s t c d).table

    clear_call : Call (clear_lines bad W H t) (λ d. 0) (λ d. 0) r
    unfolding host_clear clear_with clear_code clear_lines below
    clear_call = record { low = refl; is = p.result }

    pub clear_code_lem : code_of_result r ≡ clear_code bad W H t
    unfolding clear_code
    clear_code_lem = code_of_lem clear_call

    pub clear_first : FirstThat (clear_lines bad W H t) (code_of_result r)
    clear_first = first_of clear_call

    pub clear_refused : (code_of_result r ≡ 0 → ⊥) → (l' ≡ l) × (r < 65536)
    unfolding host_clear clear_with
    clear_refused ne =
        let c = clear_code bad W H t in
        let n : c ≡ 0 → ⊥ = λ z. ne (clear_code_lem ∙ z) in
        (p.left ∙ refuses clear_out c n ∙ unwritten c n, refused_of clear_call refl refl ne)

    pub clear_leaves : code_of_result r ≡ 0 → l' ≡ lent (bytes_of (cleared_weights W H)) (cleared_table t)
    unfolding host_clear clear_with
    clear_leaves e = p.left ∙ does clear_out (clear_code bad W H t) (sym clear_code_lem ∙ e)

  -- ---- check

  module _ {r : ℕ} (p : r ≡ host_check W H l) where
    check_call : Call (check_lines bad W H s t) (λ d. (check_by bad W H s t 0 d).used) (λ d. 0) r
    unfolding host_check check_with check_code check_lines below
    check_call = record { low = refl; is = p }

    pub check_code_lem : code_of_result r ≡ check_code bad W H s t
    unfolding check_code
    check_code_lem = code_of_lem check_call

    pub check_first : FirstThat (check_lines bad W H s t) (code_of_result r)
    check_first = first_of check_call

    pub check_refused : (code_of_result r ≡ 0 → ⊥) → r < 65536
    check_refused = refused_of check_call refl refl

    -- none of 1, 2, 3 and 6 applies
    pub check_stands : code_of_result r ≡ 0 → Standing W H s t
    unfolding check_lines NoneApplies
    check_stands e =
        let k = zero_of check_call e in
        surface (sizes_none bad W H (length t) _ k) (not-false _ (none_applies (check_lines bad W H s t) (unfold above in refl) k).1.1.1.0)

    -- and so the weights tell which rectangles are empty
    pub checked_by_weights : code_of_result r ≡ 0 → (a : Rect) → empty (occupied t) W H a ≡ (on_surface W H a && bottom_reaches W s a)
    checked_by_weights e = T.empty_by_weights W H s t (check_stands e).sound

    -- it counts the used slots
    pub check_result_lem : code_of_result r ≡ 0 → r ≡ result_of 0 (used_slots t) 0
    check_result_lem = done_of check_call

    pub check_counts : code_of_result r ≡ 0 → (first_of_result r ≡ used_slots t) × (second_of_result r ≡ 0)
    check_counts e = counts_of check_call e (omega (arith, used_few t, (check_stands e).few)) (omega arith)

  -- ---- run a block

  module _ (q room : List ℕ) {r : ℕ} {l' : LentSurface} {a' : List ℕ} (p : HostRanBy W H l q room r l' a') where
    abbrev run_out : ℕ → Bool → Ran
    run_out = run_by bad W H s t q room

    run_call : Call (run_lines bad W H s t q room) (λ d. (run_out 0 d).accepted) (λ d. 0) r
    unfolding host_run run_with run_code run_lines below
    run_call = record { low = refl; is = p.result }

    pub run_code_lem : code_of_result r ≡ run_code bad W H s t q room
    unfolding run_code
    run_code_lem = code_of_lem run_call

    pub run_first : FirstThat (run_lines bad W H s t q room) (code_of_result r)
    run_first = first_of run_call

    pub run_refused_lem : (code_of_result r ≡ 0 → ⊥) → (l' ≡ l) × (a' ≡ room) × (r < 65536)
    unfolding host_run run_with
    run_refused_lem ne =
        let c = run_code bad W H s t q room in
        let n : c ≡ 0 → ⊥ = λ z. ne (run_code_lem ∙ z) in (
          p.left ∙ refuses (λ c d. left_by c (run_out c d).weights (run_out c d).table) c n ∙ unwritten c n,
          p.answers ∙ refuses (λ c d. (run_out c d).answers) c n,
          refused_of run_call refl refl ne,
        )

    -- none of 1 to 6 applies
    module _ (e : code_of_result r ≡ 0) where
      run_right : (first (run_ahead bad W H s t q room) ≡ 0) × (stands W H s t ≡ true)
      unfolding run_lines NoneApplies
      run_right =
          let k = zero_of run_call e in
          ((first_parts (run_ahead bad W H s t q room) _ (unfold above in refl) k).0, not-false _ (none_applies (run_lines bad W H s t q room) (unfold above in refl) k).1.1.1.1.1.0)

      pub run_block : GoodBlock q room
      run_block = good_block bad W H (length t) q room run_right.0

      pub run_long : length l.weights ≡ 2 * (W * H)
      run_long = long (sizes_none bad W H (length t) _ run_right.0)

      pub run_stands : Standing W H s t
      run_stands = surface (sizes_none bad W H (length t) _ run_right.0) run_right.1

      -- WHAT THE CALL LEAVES, ANSWERS AND COUNTS is what its last request leaves
      abbrev end : State
      end = after W H q (started s t) (requests q)

      pub run_left : l' ≡ lent (bytes_of end.weights) end.table
      unfolding host_run run_with
      run_left = p.left ∙ does (λ c d. left_by c (run_out c d).weights (run_out c d).table) (run_code bad W H s t q room) (sym run_code_lem ∙ e)

      pub run_answers : a' ≡ end.answers
      unfolding host_run run_with
      run_answers = p.answers ∙ does (λ c d. (run_out c d).answers) (run_code bad W H s t q room) (sym run_code_lem ∙ e)

      pub run_result_lem : r ≡ result_of 0 end.accepted 0
      run_result_lem = done_of run_call e

      pub run_counts : (first_of_result r ≡ end.accepted) × (second_of_result r ≡ 0)
      run_counts = counts_of run_call e (omega (arith, accepted_few W H q s t (requests q), run_block.few)) (omega arith)

  -- ---- list

  module _ (room : List ℕ) {r : ℕ} {room' : List ℕ} (p : HostListedBy W H l room r room') where
    abbrev list_out : ℕ → Bool → Listed
    list_out = list_by bad W H s t room

    list_call : Call (list_lines bad W H s t room) (λ d. (list_out 0 d).entries) (λ d. (list_out 0 d).corners) r
    unfolding host_list list_with list_code list_lines below
    list_call = record { low = refl; is = p.result }

    pub list_code_lem : code_of_result r ≡ list_code bad W H s t room
    unfolding list_code
    list_code_lem = code_of_lem list_call

    pub list_first : FirstThat (list_lines bad W H s t room) (code_of_result r)
    list_first = first_of list_call

    pub list_refused_lem : (code_of_result r ≡ 0 → ⊥) → (room' ≡ room) × (r < 65536)
    unfolding host_list list_with
    list_refused_lem ne = (
      p.written ∙ refuses (λ c d. (list_out c d).room) (list_code bad W H s t room) (λ z. ne (list_code_lem ∙ z)),
      refused_of list_call refl refl ne,
    )

    module _ (e : code_of_result r ≡ 0) where
      pub list_stands : Standing W H s t
      unfolding list_lines NoneApplies
      list_stands =
          let k = zero_of list_call e in
          surface (sizes_none bad W H (length t) _ k) (not-false _ (none_applies (list_lines bad W H s t room) (unfold above in refl) k).1.1.1.0)

      pub list_room_lem : room' ≡ room_after W H t room
      unfolding host_list list_with
      list_room_lem = p.written ∙ does (λ c d. (list_out c d).room) (list_code bad W H s t room) (sym list_code_lem ∙ e)

      pub list_result_lem : r ≡ result_of 0 (length (entries_of W H t)) (corners W H t)
      list_result_lem = done_of list_call e

      pub list_counts : (first_of_result r ≡ length (entries_of W H t)) × (second_of_result r ≡ corners W H t)
      list_counts =
          let a : W * H ≤ 4096 = area W H list_stands.sides in
          counts_of list_call e (omega (arith, T.list_few (occupied t) W H)) (omega (arith, T.corners_few W H t))
