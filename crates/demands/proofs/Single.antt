-- A BLOCK OF ONE REQUEST, IN BYTES: what the host gets back is worked out afresh, and the frame holds between what it has lent and what it gets back. A BLOCK OF k REQUESTS IS k BLOCKS OF
-- ONE. And what becomes of the fabric's blocks over calls. Assumes nothing.
use mathlib.Core.Path.{◌≡◌, refl, sym, ap, ap₂, ◌∙◌, subst, subst₂}
use mathlib.Core.Bool.{true, false, not}
use mathlib.Core.List.{List, ◌++◌}
use Prim.Native.Nat.{ℕ, zero, suc, ◌+◌, ◌*◌, ◌/◌, ◌%◌, ◌≤◌, ◌<◌}
use native.Mathlib.Nat.{mul_comm}
use native.Mathlib.Omega.{arith}
use lib.Arith.{digits_lt}
use lib.IntN.{ℤ}
use lib.ListN.{length, get_or, take, drop, length-drop}
use lib.Seq.{take-add, take_all, length-take-le}
use Rattle.rules.specs.Tests.{all}
use Rattle.rules.specs.Surface.{Standing, covers, rect_of, kind_of, free_slot, cell, fresh}
use Rattle.rules.specs.Requests.{step_of}
use Rattle.rules.specs.Blocks.{State, started, requests, request, after_by}
use Rattle.rules.specs.Calls.{bad_block, code_of_result, first_of_result}
use Rattle.rules.specs.Host.{LentSurface, bits16, bytes_of, weights_in, HostClearedBy, lent}
use Rattle.rules.proofs.Tests.{and_both}
use Rattle.meaning.proofs.Stands.{standing_fresh}
use Rattle.meaning.proofs.Bytes.{length-bytes_of, bytes_of_low, bytes_of_high, bytes_back}
use Rattle.demands.specs.History.{code_in, place_in}
use Rattle.demands.specs.Frame.{SameBytes, BytesFramed}
use Rattle.demands.specs.Chain.{RunCall, NotRefused, asked, answered, up_to, joined, ones, Chain, Onward}
use Rattle.demands.specs.Chain.Onward.{here, run}
use Rattle.demands.specs.Told.{HardStays}
use Rattle.meaning.proofs.Splits.{by_same}
use Rattle.meaning.proofs.Steps.{rules_step}
use Rattle.demands.proofs.Stands.{cleared_free}
use Rattle.demands.proofs.Hard.{hard_used, stays_same, stays_on, hard_after, slots_apart}
use Rattle.demands.specs.Chain.Chain.{cleared, block}
use Rattle.meaning.proofs.Counts.{none_accepted}
use Rattle.demands.proofs.Calls.{clear_leaves, run_long, run_refused_lem}
use Rattle.demands.proofs.Chains.{call_counts, call_stands, call_left, call_read, each_stands, came_to, chain_cut, every_cut}
use Rattle.demands.proofs.Answered.{answer_frame, answer_refused}

module _ {W H : ℕ} (c : RunCall W H) (e : NotRefused c) where
  abbrev end : State
  end = up_to c (requests c.block)

  table_left : c.left.table ≡ end.table
  table_left = ap (λ (l : LentSurface). l.table) (call_left c e)

  bytes_left : c.left.weights ≡ bytes_of end.weights
  bytes_left = ap (λ (l : LentSurface). l.weights) (call_left c e)

  -- WHAT IS LEFT STANDS, read back from its bytes, and these are the bytes of the weights worked out afresh from the table that is left
  pub leaves_standing : Standing W H (weights_in c.left) c.left.table
  leaves_standing = subst₂ (Standing W H) (sym (call_read c e)) (sym table_left) (each_stands c e (requests c.block))

  pub leaves_afresh : c.left.weights ≡ bytes_of (fresh W H c.left.table)
  leaves_afresh = bytes_left ∙ ap bytes_of (standing_fresh W H end.weights end.table (each_stands c e (requests c.block)) ∙ ap (fresh W H) (sym table_left))

  -- the bytes of a cell whose weight is the same are the same
  same_bytes : (s u : List ℤ) → length s ≡ W * H → length u ≡ W * H → (x y : ℕ) → x < W → y < H → cell W u x y ≡ cell W s x y → SameBytes W (bytes_of s) (bytes_of u) x y
  same_bytes s u ls lu x y hx hy e =
      let k = y * W + x in
      let h : k < W * H = omega (arith, digits_lt hy hx, mul_comm W H) in (
        bytes_of_low u k (omega arith) ∙ ap (λ z. bits16 z % 256) e ∙ sym (bytes_of_low s k (omega arith)),
        bytes_of_high u k (omega arith) ∙ ap (λ z. bits16 z / 256) e ∙ sym (bytes_of_high s k (omega arith)),
      )

  -- ONE REFUSED REQUEST changes no byte
  pub one_refused : requests c.block ≡ 1 → bytes_of (weights_in c.lent) ≡ c.lent.weights → (code_in (answered c 0) ≡ 0 → ⊥) → c.left ≡ c.lent
  unfolding after_by
  one_refused one back ne =
      let f = answer_refused c e 0 (omega arith) ne in
      call_left c e ∙ ap (λ n. lent (bytes_of (up_to c n).weights) (up_to c n).table) one ∙ ap₂ lent (ap bytes_of f.0 ∙ back) f.1

  -- THE FRAME OF ONE ACCEPTED REQUEST, from the bytes lent to the bytes left
  pub one_frame : requests c.block ≡ 1 → bytes_of (weights_in c.lent) ≡ c.lent.weights → code_in (answered c 0) ≡ 0 →
      BytesFramed W H (asked c 0) (place_in (answered c 0)) c.lent c.left
  unfolding after_by
  one_frame one back ok =
      let f = answer_frame c e 0 (omega arith) ok in
      let t : c.left.table ≡ (up_to c 1).table = table_left ∙ ap (λ n. (up_to c n).table) one in
      let b : c.left.weights ≡ bytes_of (up_to c 1).weights = bytes_left ∙ ap (λ n. bytes_of (up_to c n).weights) one in
      let s = weights_in c.lent in
      let ls = (call_stands c e).long in
      let lu = (each_stands c e 1).long in
      record {
        slot = f.slot;
        low = f.framed.slot;
        long = (ap length t ∙ f.framed.long, ap length b ∙ length-bytes_of (up_to c 1).weights ∙ ap (λ n. 2 * n) (lu ∙ sym ls) ∙ sym (length-bytes_of s) ∙ ap length back);
        bytes = λ k o. ap (λ u. get_or u k 0) t ∙ f.framed.bytes k o;
        weights = λ x y hx hy ne. f.framed.weights x y hx hy (λ z. ne (subst₂ (λ p q. SameBytes W p q x y) back (sym b) (same_bytes s (up_to c 1).weights ls lu x y hx hy z)));
      }

-- ---- blocks of one

-- one request is eight bytes, so that blocks of one are not refused for their length
request_long : (b : List ℕ) (k : ℕ) → 8 * k + 8 ≤ length b → length (request b k) ≡ 8
request_long b k h = length-take-le 8 (drop (8 * k) b) (omega (arith, length-drop (8 * k) b))

ones_good : (b : List ℕ) (k : ℕ) → 8 * k ≤ length b → all (λ q. not (bad_block (length q))) (ones b k) ≡ true
unfolding all ones bad_block
ones_good b zero h = refl
ones_good b (suc k) h = and_both (ones_good b k (omega arith)) (ap (λ n. not (bad_block n)) (request_long b k (omega arith)))

-- and one behind the other they are the requests
ones_joined : (b : List ℕ) (k : ℕ) → joined (ones b k) ≡ take (8 * k) b
unfolding joined ones
ones_joined b zero = refl
ones_joined b (suc k) = ap (λ l. l ++ request b k) (ones_joined b k) ∙ sym (let q : 8 * suc k ≡ 8 * k + 8 = omega arith in ap (λ n. take n b) q ∙ take-add (8 * k) 8 b)

module _ (W H : ℕ) (l₀ : LentSurface) where
  -- the clear that a chain began with
  record Began : Type 0 where
    result : ℕ
    left : LentSurface
    contract : HostClearedBy W H l₀ result left
    done : code_of_result result ≡ 0

  began : {qs : List (List ℕ)} {l : LentSurface} {a : List ℕ} {n : ℕ} → Chain W H l₀ qs l a n → Began
  began (cleared {r} {l} p e) = record { result = r; left = l; contract = p; done = e }
  began (block c z e) = began z

  -- A CHAIN IS ONE OF BLOCKS OF ONE: the same requests, each a block of its own, have left, answered and counted the same
  pub by_ones : {qs : List (List ℕ)} {l : LentSurface} {a : List ℕ} {n : ℕ} → Chain W H l₀ qs l a n → Chain W H l₀ (ones (joined qs) (requests (joined qs))) l a n
  by_ones {qs} {l} {a} {n} z =
      let g = began z in
      let b = joined qs in
      let w = (came_to W H l₀ z).whole in
      let o = every_cut W H l₀ g.contract g.done (ones b (requests b)) (ones_good b (requests b) (omega (arith, w))) in
      let j : joined (ones b (requests b)) ≡ b = ones_joined b (requests b) ∙ take_all (8 * requests b) b (omega (arith, w)) in
      let k = chain_cut W H o.chain z refl j in
      subst₂ (λ l a. Chain W H l₀ (ones b (requests b)) l a n) k.0 k.1 (subst (Chain W H l₀ (ones b (requests b)) o.left o.answers) k.2 o.chain)

-- ---- A BLOCK WHOSE REQUESTS ARE ALL REFUSED changes no byte of what is written back as it was read

module _ {W H : ℕ} (c : RunCall W H) (e : NotRefused c) where
  pub none_changes_back : bytes_of (weights_in c.lent) ≡ c.lent.weights → first_of_result c.result ≡ 0 → c.left ≡ c.lent
  none_changes_back back none =
      let k = none_accepted W H c.block (weights_in c.lent) c.lent.table (requests c.block) (sym (call_counts c e) ∙ none) in
      call_left c e ∙ ap₂ lent (ap bytes_of k.0 ∙ back) k.1

  pub none_changes : ((k : ℕ) → get_or c.lent.weights k 0 < 256) → first_of_result c.result ≡ 0 → c.left ≡ c.lent
  none_changes bytes = none_changes_back (bytes_back c.lent.weights bytes (W * H) (run_long W H c.lent c.block c.room c.contract e))

-- ==== BLOCKS OF THE FABRIC, over calls

-- a clear leaves no slot used
pub clear_frees : (W H : ℕ) (l : LentSurface) {r : ℕ} {l' : LentSurface} → HostClearedBy W H l r l' → code_of_result r ≡ 0 → (i : ℕ) → free_slot l'.table i ≡ true
clear_frees W H l p e i = ap (λ (l : LentSurface). free_slot l.table i) (clear_leaves W H l p e) ∙ cleared_free l.table i

-- a run, refused or not, leaves every block as it was
pub hard_stays : {W H : ℕ} (c : RunCall W H) → HardStays c.lent.table c.left.table
unfolding after_by
hard_stays {W} {H} c =
    by_same (code_of_result c.result) 0
    (λ e. subst (HardStays c.lent.table) (sym (table_left c e)) (hard_after (step_of W H) W H (rules_step W H) c.block (started (weights_in c.lent) c.lent.table) (call_stands c e) 0 (requests c.block) (omega arith)))
    (λ ne. subst (λ (l : LentSurface). HardStays c.lent.table l.table) (sym (run_refused_lem W H c.lent c.block c.room c.contract ne).0) (stays_same c.lent.table))

pub hard_stays_on : {W H : ℕ} {l l' : LentSurface} → Onward W H l l' → HardStays l.table l'.table
hard_stays_on {l = l} here = stays_same l.table
hard_stays_on {l = l} (run c z) = stays_on l.table c.lent.table c.left.table (hard_stays_on z) (hard_stays c)

-- in every table that a call goes through
pub hard_apart : {W H : ℕ} (c : RunCall W H) (e : NotRefused c) (k : ℕ) →
    let t = (up_to c k).table in
    (i j : ℕ) → (i ≡ j → ⊥) → kind_of t i ≡ 1 → free_slot t j ≡ false → (x y : ℕ) → covers (rect_of t i) x y ≡ true → covers (rect_of t j) x y ≡ false
hard_apart c e k i j ne h = slots_apart (each_stands c e k) i j ne (hard_used (up_to c k).table i h)
