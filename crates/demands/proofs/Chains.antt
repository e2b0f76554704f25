-- CHAINS OF CALLS, from the contracts: what one has left is what its requests leave on the cleared surface, read back from its bytes; so the surface stands, the history tells the table,
-- every weight is the one worked out afresh, and another cut of the same requests has left the same. Assumes nothing.
use mathlib.Core.Path.{◌≡◌, refl, sym, ap, ap₂, ◌∙◌, subst}
use mathlib.Core.Bool.{Bool, true, false, not, ◌||◌}
use mathlib.Core.List.{List, [], ◌∷◌, ◌++◌, Memᴰ}
use Prim.Native.Nat.{ℕ, ◌+◌, ◌*◌, ◌/◌, ◌%◌, ◌≤◌, ◌<◌}
use native.Mathlib.Omega.{arith}
use borrow.Author.Tests.{le-leb, eq-eqb, not-true}
use lib.IntN.{ℤ}
use lib.ListN.{length, replicate, length-append}
use Rattle.rules.specs.Tests.{all}
use Rattle.rules.specs.Surface.{Standing, cell}
use Rattle.rules.specs.Judging.{first}
use Rattle.rules.specs.Blocks.{State, started, requests, after, after_by}
use Rattle.rules.specs.Requests.{step_of}
use Rattle.rules.specs.Calls.{bad_size, bad_table, bad_block, cleared_weights, cleared_table, run_lines, run_code, code_of_result, first_of_result}
use Rattle.rules.specs.Host.{LentSurface, lent, weights_in, bytes_of, bad_bytes, host_run, HostClearedBy}
use Rattle.rules.proofs.Tests.{and_left, and_right, and_both}
use Rattle.meaning.proofs.Steps.{after_stands, rules_step}
use Rattle.meaning.proofs.Bytes.{length-bytes_of}
use Rattle.meaning.proofs.Rounds.{standing_round}
use Rattle.demands.specs.History.{Module, history, history_weight}
use Rattle.demands.specs.Told.{Told}
use Rattle.demands.specs.Chain.{RunCall, NotRefused, up_to, joined, Chain, ChainOver}
use Rattle.demands.specs.Chain.Chain.{cleared, block}
use Rattle.demands.proofs.Stands.{cleared_stands, cleared_free}
use Rattle.demands.proofs.Blocks.{requests_both, after_right, after_behind, answers_long, told_after, afresh_after}
use Rattle.demands.proofs.Hard.{hard_after, stays_has}
use Rattle.demands.proofs.Calls.{clear_code_lem, clear_leaves, run_code_lem, run_block, run_stands, run_left, run_answers, run_counts}

state_is : {w v : List ℤ} {t u : List ℕ} {a b : List ℕ} {m n : ℕ} → w ≡ v → t ≡ u → a ≡ b → m ≡ n →
    ◌≡◌ {A = State} (record { weights = w; table = t; answers = a; accepted = m }) (record { weights = v; table = u; answers = b; accepted = n })
state_is p q r s = rw (p, q, r, s)

-- ---- a call of run that was not refused

module _ {W H : ℕ} (c : RunCall W H) (e : NotRefused c) where
  abbrev end : State
  end = up_to c (requests c.block)

  pub call_stands : Standing W H (weights_in c.lent) c.lent.table
  call_stands = run_stands W H c.lent c.block c.room c.contract e

  pub each_stands : (k : ℕ) → Standing W H (up_to c k).weights (up_to c k).table
  each_stands = after_stands W H c.block (started (weights_in c.lent) c.lent.table) call_stands

  pub call_whole : length c.block ≡ 8 * requests c.block
  call_whole = (run_block W H c.lent c.block c.room c.contract e).whole

  -- WHAT IT LEAVES is what its last request leaves, as bytes
  pub call_left : c.left ≡ lent (bytes_of end.weights) end.table
  call_left = run_left W H c.lent c.block c.room c.contract e

  pub call_answers : c.answers ≡ end.answers
  call_answers = run_answers W H c.lent c.block c.room c.contract e

  pub call_counts : first_of_result c.result ≡ end.accepted
  call_counts = (run_counts W H c.lent c.block c.room c.contract e).0

  -- which are read back as they were written
  pub call_read : weights_in c.left ≡ end.weights
  call_read = ap weights_in call_left ∙ standing_round W H end.weights end.table (each_stands (requests c.block))

  pub call_back : bytes_of (weights_in c.left) ≡ c.left.weights
  call_back = ap bytes_of call_read ∙ sym (ap (λ (l : LentSurface). l.weights) call_left)

-- ---- what a chain has come to

module _ (W H : ℕ) (l₀ : LentSurface) where
  -- the cleared surface
  abbrev start : State
  start = started (cleared_weights W H) (cleared_table l₀.table)

  pub record CameTo (qs : List (List ℕ)) (l : LentSurface) (a : List ℕ) (n : ℕ) : Type 0 where
    pub stands : Standing W H (cleared_weights W H) (cleared_table l₀.table)
    pub whole : length (joined qs) ≡ 8 * requests (joined qs)
    pub state : after W H (joined qs) start (requests (joined qs)) ≡ record { weights = weights_in l; table = l.table; answers = a; accepted = n }
    pub back : bytes_of (weights_in l) ≡ l.weights

  -- the state in which the first k requests of one block more leave the surface
  in_block : {qs : List (List ℕ)} {a : List ℕ} {n : ℕ} (c : RunCall W H) → CameTo qs c.lent a n → (k : ℕ) →
      after W H (joined qs ++ c.block) start (requests (joined qs) + k) ≡ record { weights = (up_to c k).weights; table = (up_to c k).table; answers = a ++ (up_to c k).answers; accepted = n + (up_to c k).accepted }
  in_block {qs} {a} {n} c z k =
      let so : State = record { weights = weights_in c.lent; table = c.lent.table; answers = a; accepted = n } in
      after_right (step_of W H) W H (joined qs) c.block (requests (joined qs)) z.whole start k
      ∙ ap (λ u. after W H c.block u k) z.state
      ∙ after_behind (step_of W H) W H c.block so k

  pub came_to : {qs : List (List ℕ)} {l : LentSurface} {a : List ℕ} {n : ℕ} → Chain W H l₀ qs l a n → CameTo qs l a n
  unfolding joined after_by
  came_to (cleared p e) =
      let d = cleared_stands (bad_bytes W H l₀) W H l₀.table (sym (clear_code_lem W H l₀ p) ∙ e) in
      let r = standing_round W H (cleared_weights W H) (cleared_table l₀.table) d in
      subst (λ l. CameTo [] l [] 0) (sym (clear_leaves W H l₀ p e))
      (record { stands = d; whole = refl; state = ap (λ w. started w (cleared_table l₀.table)) (sym r); back = ap bytes_of r })
  came_to (block {qs} {a} {n} c z e) =
      let k = came_to z in
      let m = requests_both (joined qs) c.block (requests (joined qs)) k.whole in
      record {
        stands = k.stands;
        whole = length-append (joined qs) c.block ∙ (let v : length (joined qs) + length c.block ≡ 8 * requests (joined qs ++ c.block) = omega (arith, k.whole, call_whole c e, m) in v);
        state =
            ap (after W H (joined qs ++ c.block) start) m
            ∙ in_block c k (requests c.block)
            ∙ state_is (sym (call_read c e)) (sym (ap (λ (l : LentSurface). l.table) (call_left c e))) (ap (λ b. a ++ b) (sym (call_answers c e))) (ap (λ b. n + b) (sym (call_counts c e)));
        back = call_back c e;
      }

  module _ {qs : List (List ℕ)} {l : LentSurface} {a : List ℕ} {n : ℕ} (z : Chain W H l₀ qs l a n) where
    abbrev asked : List ℕ
    asked = joined qs

    -- THE SURFACE STANDS, and its bytes are those of its weights
    pub chain_stands : Standing W H (weights_in l) l.table
    chain_stands = let k = came_to z in subst (λ (u : State). Standing W H u.weights u.table) k.state (after_stands W H asked start k.stands (requests asked))

    pub chain_back : bytes_of (weights_in l) ≡ l.weights
    chain_back = (came_to z).back

    pub chain_long : length l.weights ≡ 2 * (W * H)
    chain_long = ap length (sym chain_back) ∙ length-bytes_of (weights_in l) ∙ ap (λ k. 2 * k) chain_stands.long

    -- THE TABLE HOLDS EXACTLY THE MODULES OF THE HISTORY after the first k of all requests, and every weight is the one worked out afresh from them
    told_at : (k : ℕ) → k ≤ requests asked → Told (history asked a k) (after W H asked start k).table
    told_at k h =
        let c = came_to z in
        subst (λ u. Told (history asked u k) (after W H asked start k).table) (ap (λ (v : State). v.answers) c.state)
        (told_after (step_of W H) W H asked (cleared_weights W H) (cleared_table l₀.table) (rules_step W H) c.stands (cleared_free l₀.table) (requests asked) k h)

    afresh_at : (k : ℕ) → k ≤ requests asked → (x y : ℕ) → x < W → y < H → cell W (after W H asked start k).weights x y ≡ history_weight (history asked a k) x y
    afresh_at k h x y hx hy =
        let c = came_to z in
        subst (λ u. cell W (after W H asked start k).weights x y ≡ history_weight (history asked u k) x y) (ap (λ (v : State). v.answers) c.state)
        (afresh_after (step_of W H) W H asked (cleared_weights W H) (cleared_table l₀.table) (rules_step W H) c.stands (cleared_free l₀.table) (requests asked) k h x y hx hy)

    pub chain_told : Told (history asked a (requests asked)) l.table
    chain_told = subst (Told (history asked a (requests asked))) (ap (λ (v : State). v.table) (came_to z).state) (told_at (requests asked) (omega arith))

    -- A BLOCK THAT THE HISTORY HAS ONCE TOLD IT TELLS AFTER EVERY LATER REQUEST
    pub chain_hard_stays : (j k : ℕ) → j ≤ k → k ≤ requests asked → (m : Module) → m.kind ≡ 1 → Memᴰ m (history asked a j) → Memᴰ m (history asked a k)
    chain_hard_stays j k l h m e w =
        let d = (came_to z).stands in
        ((told_at k h).exact m).1
        (stays_has (after W H asked start j).table (after W H asked start k).table (hard_after (step_of W H) W H (rules_step W H) asked start d j k l) (after_stands W H asked start d k) m e (((told_at j (omega arith)).exact m).0 w))

    pub chain_afresh : (x y : ℕ) → x < W → y < H → cell W (weights_in l) x y ≡ history_weight (history asked a (requests asked)) x y
    chain_afresh x y hx hy = sym (ap (λ (v : State). cell W v.weights x y) (came_to z).state) ∙ afresh_at (requests asked) (omega arith) x y hx hy

    -- an answer to each request
    pub chain_answers : length a ≡ length asked
    chain_answers =
        let k = came_to z in
        sym (ap (λ (v : State). length v.answers) k.state) ∙ answers_long (step_of W H) W H asked (cleared_weights W H) (cleared_table l₀.table) (requests asked) ∙ sym k.whole

  -- ---- one block more, request by request

  module _ {qs : List (List ℕ)} {a : List ℕ} {n : ℕ} (c : RunCall W H) (z : Chain W H l₀ qs c.lent a n) (e : NotRefused c) (k : ℕ) (h : k ≤ requests c.block) where
    abbrev so : ℕ
    so = requests (joined qs) + k

    upto : so ≤ requests (joined (c.block ∷ qs))
    unfolding joined
    upto = let m = requests_both (joined qs) c.block (requests (joined qs)) (came_to z).whole in omega arith

    pub each_told : Told (history (joined (c.block ∷ qs)) (a ++ c.answers) so) (up_to c k).table
    unfolding joined
    each_told = subst (Told (history (joined (c.block ∷ qs)) (a ++ c.answers) so)) (ap (λ (v : State). v.table) (in_block c (came_to z) k)) (told_at (block c z e) so upto)

    pub each_afresh : (x y : ℕ) → x < W → y < H → cell W (up_to c k).weights x y ≡ history_weight (history (joined (c.block ∷ qs)) (a ++ c.answers) so) x y
    unfolding joined
    each_afresh x y hx hy = sym (ap (λ (v : State). cell W v.weights x y) (in_block c (came_to z) k)) ∙ afresh_at (block c z e) so upto x y hx hy

-- ---- CUTTING THE SAME SEQUENCE DIFFERENTLY CHANGES NOTHING

pub chain_cut : (W H : ℕ) {l₀ l₁ l l' : LentSurface} {qs qs' : List (List ℕ)} {a a' : List ℕ} {n n' : ℕ} → Chain W H l₀ qs l a n → Chain W H l₁ qs' l' a' n' →
    length l₀.table ≡ length l₁.table → joined qs ≡ joined qs' → (l ≡ l') × (a ≡ a') × (n ≡ n')
chain_cut W H {l₀} {l₁} {l} {l'} {qs} {qs'} y z m e =
    let c = came_to W H l₀ y in
    let d = came_to W H l₁ z in
    let ran : List ℕ → ℕ → State = λ b k. after W H b (started (cleared_weights W H) (replicate k 0)) (requests b) in
    let q = sym c.state ∙ ap₂ ran e m ∙ d.state in (
      ap₂ lent (sym c.back ∙ ap (λ (v : State). bytes_of v.weights) q ∙ d.back) (ap (λ (v : State). v.table) q),
      ap (λ (v : State). v.answers) q,
      ap (λ (v : State). v.accepted) q,
    )

-- ---- a block is then refused for its own sake alone

pub standing_sizes : (W H : ℕ) (s : List ℤ) (t : List ℕ) → Standing W H s t → (bad_size W H ≡ false) × (bad_table (length t) ≡ false)
unfolding bad_size bad_table
standing_sizes W H s t d =
    let m : length t % 8 ≡ 0 = (let w = d.whole in omega arith) in (
      ap₂ (λ a b. not a || not b) (and_both (le-leb 1 W d.sides.wide) (le-leb W 64 d.sides.widest)) (and_both (le-leb 1 H d.sides.high) (le-leb H 64 d.sides.highest)),
      ap₂ (λ a b. not a || not b) (eq-eqb (length t % 8) 0 m) (and_both (le-leb 1 (length t / 8) d.some) (le-leb (length t / 8) 256 d.few)),
    )

-- what stands is refused by none of the codes 1, 3 and 6
standing_runs : (bad : Bool) (W H : ℕ) (s : List ℤ) (t q room : List ℕ) → Standing W H s t → bad ≡ false → bad_block (length q) ≡ false → length room ≡ length q → run_code bad W H s t q room ≡ 0
unfolding run_code run_lines first
standing_runs bad W H s t q room d e f g =
    let z = standing_sizes W H s t d in
    rw (z.0, e, z.1, f, eq-eqb (length room) (length q) g, d.sound)

module _ (W H : ℕ) (l₀ : LentSurface) where
  pub chain_runs : {qs : List (List ℕ)} {a : List ℕ} {n : ℕ} (c : RunCall W H) → Chain W H l₀ qs c.lent a n → bad_block (length c.block) ≡ false → length c.room ≡ length c.block → NotRefused c
  chain_runs c z f g =
      run_code_lem W H c.lent c.block c.room c.contract
      ∙ standing_runs (bad_bytes W H c.lent) W H (weights_in c.lent) c.lent.table c.block c.room (chain_stands W H l₀ z)
      (ap not (eq-eqb (length c.lent.weights) (2 * (W * H)) (chain_long W H l₀ z))) f g

  -- a call that left what some block that is not itself refused leaves IS A LINK, with that block's requests and the answers that it would have been given
  pub chain_link : {qs : List (List ℕ)} {l : LentSurface} {a : List ℕ} {n : ℕ} → Chain W H l₀ qs l a n → (q room : List ℕ) →
      let ran = host_run W H l q room in
      code_of_result ran.result ≡ 0 → (l' : LentSurface) → l' ≡ ran.left → Chain W H l₀ (q ∷ qs) l' (a ++ ran.answers) (n + first_of_result ran.result)
  chain_link {qs} {l} {a} {n} z q room e l' f =
      let ran = host_run W H l q room in
      block (record { lent = l; block = q; room = room; result = ran.result; left = l'; answers = ran.answers; contract = record { result = refl; left = f; answers = refl } }) z e

  -- EVERY CUT INTO BLOCKS THAT ARE NOT REFUSED FOR THEIR LENGTH IS THAT OF A CHAIN
  pub every_cut : {r : ℕ} {l : LentSurface} → HostClearedBy W H l₀ r l → code_of_result r ≡ 0 → (qs : List (List ℕ)) → all (λ q. not (bad_block (length q))) qs ≡ true → ChainOver W H l₀ qs
  unfolding all
  every_cut {r} {l} p e [] g = record { left = l; answers = []; accepted = 0; chain = cleared p e }
  every_cut p e (q ∷ qs) g =
      let z = every_cut p e qs (and_left (all (λ q. not (bad_block (length q))) qs) (not (bad_block (length q))) g) in
      let f = not-true (bad_block (length q)) (and_right (all (λ q. not (bad_block (length q))) qs) (not (bad_block (length q))) g) in
      let ran = host_run W H z.left q q in
      let c : RunCall W H = record { lent = z.left; block = q; room = q; result = ran.result; left = ran.left; answers = ran.answers; contract = record { result = refl; left = refl; answers = refl } } in
      record { left = ran.left; answers = z.answers ++ ran.answers; accepted = z.accepted + first_of_result ran.result; chain = block c z.chain (chain_runs c z.chain f refl) }
