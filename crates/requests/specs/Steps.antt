-- WHAT JUDGING ASKS, AND WHAT SERVING AND RUNNING LEAVE, in the words of the rules. q is a request's eight bytes; s and t are weights and table before, s' and t' after.
use Rattle.std.specs.Prelude.{◌≡◌, Bool, not, cond, ◌&&◌, ◌||◌, List, [], ◌∷◌, ◌++◌, ℕ, ◌+◌, ltb, eqb, ℤ, take, drop}
use Rattle.std.proofs.Math.Option.{Option, none, some}
use Rattle.rules.specs.Tests.{all}
use Rattle.rules.specs.Surface.{slots, is_hard}
use Rattle.rules.specs.Empties.{cells_empty}
use Rattle.rules.specs.Judging.{Line, ◌when◌, first}
use Rattle.rules.specs.Requests.{rule_of, id_asked, wide, high, known, by_rule, makes_new, needs_old, has_size, zeros, sound_lines, step_of, answer_of, table_after, weights_after, accepted_one}
use Rattle.rules.specs.Blocks.{State}
use Rattle.rules.specs.declared.Rect.{Rect}
use Rattle.rules.specs.Refusals.{Step, Refused, Done}

-- a byte that must be zero is not
unfoldable pub stray : List ℕ → Bool
stray q = not (all (eqb 0) (zeros q))

-- "x + w > W or y + h > H"
abbrev pub past : ℕ → ℕ → Rect → Bool
past W H r = ltb W (r.x + r.w) || ltb H (r.y + r.h)

-- a module by rule that would go into slot i: 20 where the rule finds no place, 22 where the place that it chose has an occupied cell
unfoldable pub rule_step : (ℕ → ℕ → Bool) → ℕ → Option Rect → Step
rule_step occ i none = Refused 20
rule_step occ i (some r) = cond (cells_empty occ r) (Done i r) (Refused 22)

-- the lines of 11 to 14 are of the request's bytes alone ..
abbrev pub form_lines : List ℕ → List Line
form_lines q =
    11 when not (known q) ∷
    12 when stray q ∷
    13 when (by_rule q && ltb 2 (rule_of q)) ∷
    14 when eqb (id_asked q) 0 ∷
    []

-- .. and those of 15, 16 and 23 of the slot that has its id too; 17 stands behind them. i is that slot, or the number of slots where none has
abbrev pub id_lines : List ℕ → List ℕ → ℕ → List Line
id_lines t q i =
    15 when (makes_new q && ltb i (slots t)) ∷
    16 when (needs_old q && not (ltb i (slots t))) ∷
    23 when (needs_old q && is_hard t i) ∷
    17 when (has_size q && (eqb (wide q) 0 || eqb (high q) 0)) ∷
    []

-- a request that none of the codes 11 to 17 and 23 refuses
abbrev pub Passes : List ℕ → List ℕ → Type 0
Passes t q = first (sound_lines t q) ≡ 0

-- a request is served: weights, table, its answer's eight bytes, and 1 where it is accepted
pub record Served (W H : ℕ) (q : List ℕ) (s : List ℤ) (t : List ℕ) (s' : List ℤ) (t' a : List ℕ) (n : ℕ) : Type 0 where
  pub weights : s' ≡ weights_after W H q (step_of W H t q) t s
  pub table : t' ≡ table_after q (step_of W H t q) t
  pub answer : a ≡ answer_of q (step_of W H t q)
  pub accepted : n ≡ accepted_one (step_of W H t q)

-- the eight bytes at an offset of a block
abbrev pub bytes_at : List ℕ → ℕ → List ℕ
bytes_at q at = take 8 (drop at q)

-- the request there is served, and answered in the same place of the answers: the others are as they were
pub record ServedAt (W H : ℕ) (q : List ℕ) (at : ℕ) (s : List ℤ) (t a : List ℕ) (s' : List ℤ) (t' a' : List ℕ) (n : ℕ) : Type 0 where
  pub weights : s' ≡ weights_after W H (bytes_at q at) (step_of W H t (bytes_at q at)) t s
  pub table : t' ≡ table_after (bytes_at q at) (step_of W H t (bytes_at q at)) t
  pub answers : a' ≡ take at a ++ (answer_of (bytes_at q at) (step_of W H t (bytes_at q at)) ++ drop (at + 8) a)
  pub accepted : n ≡ accepted_one (step_of W H t (bytes_at q at))

-- what a run has left is what a state says
pub record Ran (z : State) (s' : List ℤ) (t' a : List ℕ) (n : ℕ) : Type 0 where
  pub weights : s' ≡ z.weights
  pub table : t' ≡ z.table
  pub answers : a ≡ z.answers
  pub accepted : n ≡ z.accepted
