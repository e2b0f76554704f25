-- Laws of running a block on bytes: each way out, by the law of the whole outcome. Assumes nothing.
use mathlib.Core.Path.{◌≡◌, refl, sym, ap, ap₂, ◌∙◌}
use mathlib.Core.Bool.{Bool, true, false, cond}
use mathlib.Core.List.{List, ◌++◌}
use Prim.Native.Nat.{ℕ, ◌*◌, ◌<◌}
use native.Mathlib.Omega.{arith}
use borrow.Author.Tests.{ne_eqb}
use lib.Dec.{eqb}
use lib.IntN.{ℤ}
use lib.ListN.{length, get_or}
use Rattle.rules.specs.Judging.{Line, first}
use Rattle.rules.specs.Surface.{stands}
use Rattle.rules.specs.Blocks.{State, started, requests, after}
use Rattle.rules.specs.Calls.{size_lines, result_of, Ran, run_result, run_with}
use Rattle.rules.specs.Host.{lent, HostRanBy, bad_bytes, weights_of, bytes_of, host_run}
use Rattle.meaning.proofs.Codes.{sizes_none, GoodBlock, good_block}
use Rattle.meaning.proofs.Counts.{none_accepted}
use Rattle.meaning.proofs.Bytes.{bytes_back}
use Rattle.meaning.proofs.Outcomes.{run_refused, run_done, run_refused_is, run_fallen_is, run_done_is}
use Rattle.std.specs.Prelude.{Err}
use Rattle.rules.specs.Refusals.{number_of}
use Rattle.rules.specs.declared.Refusal.{Refusal}
use Rattle.surface.specs.Examine.{Tells}
use Rattle.rules.proofs.Refusals.{coded}
use Rattle.surface.specs.Sizes.{block_lines}
use Rattle.requests.specs.Steps.{Ran as RanTo}
use Rattle.lent.specs.Lent.{Right, RightBlock}
use Rattle.lent.proofs.Laws.{fallen_code}

module _ (W H : ℕ) (b t q a : List ℕ) where
  abbrev bad : Bool
  bad = bad_bytes W H (lent b t)

  abbrev s : List ℤ
  s = weights_of b

  abbrev ahead : List Line
  ahead = size_lines bad W H (length t) ++ block_lines (length q) (length a)

  -- the weights' bytes, by the outcome
  abbrev bytes_by : Ran → List ℕ
  bytes_by o = cond (eqb o.code 0) (bytes_of o.weights) b

  ran_by : (o : Ran) → run_with bad W H s t q a ≡ o → (r : ℕ) (b' t' a' : List ℕ) → r ≡ run_result o → b' ≡ bytes_by o → t' ≡ o.table → a' ≡ o.answers → HostRanBy W H (lent b t) q a r (lent b' t') a'
  unfolding host_run
  ran_by o e r b' t' a' p u v w = record {
    result = p ∙ ap run_result (sym e);
    left = ap₂ lent (u ∙ ap bytes_by (sym e)) (v ∙ ap (λ (z : Ran). z.table) (sym e));
    answers = w ∙ ap (λ (z : Ran). z.answers) (sym e);
  }

  pub ran_refused : (f : Refusal) → number_of f ≡ first ahead → HostRanBy W H (lent b t) q a (result_of (number_of f) 0 0) (lent b t) a
  ran_refused f e =
      let r = number_of f in
      let ne : r ≡ 0 → ⊥ = λ z. omega (arith, coded f, z) in
      let z : eqb r 0 ≡ false = ne_eqb r 0 ne in
      ran_by (run_refused bad W H s t q a r) (run_refused_is bad W H s t q a r e ne) _ b t a refl (rw z) refl refl

  pub ran_fallen : first ahead ≡ 0 → (f : Refusal) → Tells (stands W H s t) t (Err f) → HostRanBy W H (lent b t) q a (result_of (number_of f) 0 0) (lent b t) a
  ran_fallen e f x =
      let k = fallen_code _ t f x in
      ran_by (run_refused bad W H s t q a 6) (run_fallen_is bad W H s t q a e k.0) _ b t a (ap (λ n. result_of n 0 0) k.1) refl refl refl

  abbrev end : State
  end = after W H q (started s t) (requests q)

  pub ran_done : first ahead ≡ 0 → stands W H s t ≡ true → (n : ℕ) (b' : List ℕ) (s' : List ℤ) (t' a' : List ℕ) → RanTo end s' t' a' n → b' ≡ bytes_of end.weights → HostRanBy W H (lent b t) q a (result_of 0 n 0) (lent b' t') a'
  ran_done e f n b' s' t' a' z p =
      ran_by (run_done bad W H s t q a) (run_done_is bad W H s t q a e f) _ b' t' a' (ap (λ k. result_of 0 k 0) z.accepted) p z.table z.answers

  -- where no request was accepted, the bytes hold what is left as they are
  pub unwritten : ((k : ℕ) → get_or b k 0 < 256) → length b ≡ 2 * (W * H) → end.accepted ≡ 0 → b ≡ bytes_of end.weights
  unwritten y l e = sym (ap bytes_of (none_accepted W H q s t (requests q) e).0 ∙ bytes_back b y (W * H) l)

  -- ---- what a block's code 0 says

  module _ (l : RightBlock W H (lent b t) q a) where
    pub block_lent : Right W H (lent b t)
    block_lent = record { right = sizes_none bad W H (length t) (block_lines (length q) (length a)) l.right }

    pub block_good : GoodBlock q a
    block_good = good_block bad W H (length t) q a l.right
