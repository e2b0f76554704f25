-- EXAMPLES, computed: the history in worked cases G and H, history and frame in stories with removals, exchanges and blocks. After
-- each request: the modules that the history says are placed, the weights worked out afresh from them, and the cells that the request may have changed. Last,
-- the bottom rows that the records of a room tell.
use Rattle.std.specs.Prelude.{◌≡◌, refl, Bool, not, ◌&&◌, ◌||◌, List, [], ◌∷◌, ◌++◌, ℕ, suc, ◌+◌, ◌*◌, ◌/◌, ◌%◌, leb, ltb, ℤ, replicate}
use Rattle.rules.specs.Tests.{every, tab, keep}
use Rattle.rules.specs.Surface.{rect, rect_of, occupied}
use Rattle.rules.specs.Empties.{entry_records}
use Rattle.rules.specs.Requests.{needs_old}
use Rattle.rules.specs.Blocks.{State, started, requests, request, after}
use Rattle.rules.specs.Calls.{cleared_weights}
use Rattle.rules.specs.Figures.{case_holds, eight, e, o}
use Rattle.rules.specs.declared.Rect.{Rect}
use Rattle.demands.specs.Frame.{old_slot, bare}
use Rattle.demands.specs.Listed.{bottom_in}
use Rattle.demands.specs.History.{Module, module_at, least_unused, slot_in, place_in, taken, remains, history, history_weight}

-- ---- the frame as a test (that it says what `MayChange` says is `may_change_is` in proofs/FrameTest)

unfoldable pub reaches : Rect → List ℕ → ℕ → ℕ → Bool
reaches m t c r = leb m.x c && ltb c (m.x + m.w) && leb m.y r && every (suc r) (λ j. ltb j (m.y + m.h) || not (occupied t c j))

unfoldable pub may_change : List ℕ → List ℕ → Rect → ℕ → ℕ → Bool
may_change t q r c y = reaches r (bare t q) c y || (needs_old q && reaches (rect_of t (old_slot t q)) (bare t q) c y)

-- ---- a block on a cleared surface

pub record Story : Type 0 where
  pub w : ℕ
  pub h : ℕ
  pub slots : ℕ
  pub block : List ℕ

module _ (s : Story) where
  -- after its first k requests
  abbrev state_at : ℕ → State
  state_at k = after s.w s.h s.block (started (cleared_weights s.w s.h) (replicate (8 * s.slots) 0)) k

  abbrev many : ℕ
  many = requests s.block

  abbrev cells : ℕ
  cells = s.w * s.h

  -- one item for each request; the answers are those of the whole block
  abbrev pub tellings : List (List Module)
  tellings = tab many (λ k. history s.block (state_at many).answers (suc k))

  abbrev pub weighings : List (List ℤ)
  weighings = tab many (λ k. (state_at (suc k)).weights)

  abbrev pub reckonings : List (List ℤ)
  reckonings = tab many (λ k. tab cells (λ n. history_weight (history s.block (state_at many).answers (suc k)) (n % s.w) (n / s.w)))

  -- the cells that may have changed, by number, row by row
  abbrev pub reachings : List (List ℕ)
  reachings = tab many (λ k. keep (λ n. may_change (state_at k).table (request s.block k) (place_in (request (state_at many).answers k)) (n % s.w) (n / s.w)) (tab cells (λ n. n)))

abbrev pin : ℕ → ℕ → ℕ → ℕ → ℕ → List ℕ
pin id x y w h = eight 3 0 id 0 w h x y

abbrev remove : ℕ → List ℕ
remove id = eight 2 0 id 0 0 0 0 0

-- ---- G and H: 3×3, pin id 7, 1×1 at (1,1), exchanged by each rule to 2×2 (G) and to 4×1 (H): refused, 20. The history keeps the old rectangle

abbrev by_each : ℕ → ℕ → List ℕ
by_each w h = eight 4 0 7 0 w h 0 0 ++ eight 4 1 7 0 w h 0 0 ++ eight 4 2 7 0 w h 0 0

abbrev pub story_gh : Story
story_gh = record { w = 3; h = 3; slots = 2; block = pin 7 1 1 1 1 ++ by_each 2 2 ++ by_each 4 1 }

pub gh_told : tellings story_gh ≡ replicate 7 (module_at 0 7 (rect 1 1 1 1) 0 ∷ [])
unfolding case_holds history least_unused slot_in
gh_told = refl

pub gh_afresh : reckonings story_gh ≡ replicate 7 (e 1 ∷ e 1 ∷ e 1 ∷ e 2 ∷ o 1 ∷ e 2 ∷ e 3 ∷ e 1 ∷ e 3 ∷ [])
unfolding case_holds history least_unused slot_in taken remains history_weight
gh_afresh = refl

pub gh_weights : weighings story_gh ≡ reckonings story_gh
unfolding case_holds history least_unused slot_in taken remains history_weight
gh_weights = refl

-- ---- a removal: one column of four cells, pins at rows 0 and 2, and row 2 freed. The history forgets id 2

abbrev pub story_removed : Story
story_removed = record { w = 1; h = 4; slots = 2; block = pin 1 0 0 1 1 ++ pin 2 0 2 1 1 ++ remove 2 }

pub removed_told : tellings story_removed ≡ (module_at 0 1 (rect 0 0 1 1) 0 ∷ []) ∷ (module_at 1 2 (rect 0 2 1 1) 0 ∷ module_at 0 1 (rect 0 0 1 1) 0 ∷ []) ∷ (module_at 0 1 (rect 0 0 1 1) 0 ∷ []) ∷ []
unfolding case_holds history least_unused slot_in
removed_told = refl

pub removed_afresh : reckonings story_removed ≡ (o 1 ∷ e 1 ∷ e 2 ∷ e 3 ∷ []) ∷ (o 1 ∷ e 1 ∷ o 1 ∷ e 1 ∷ []) ∷ (o 1 ∷ e 1 ∷ e 2 ∷ e 3 ∷ []) ∷ []
unfolding case_holds history least_unused slot_in taken remains history_weight
removed_afresh = refl

pub removed_weights : weighings story_removed ≡ reckonings story_removed
unfolding case_holds history least_unused slot_in taken remains history_weight
removed_weights = refl

-- the first pin: to the bottom edge; the second, and its removal: from row 2 down
pub removed_reached : reachings story_removed ≡ (0 ∷ 1 ∷ 2 ∷ 3 ∷ []) ∷ (2 ∷ 3 ∷ []) ∷ (2 ∷ 3 ∷ []) ∷ []
unfolding case_holds reaches may_change
removed_reached = refl

-- ---- exchanges whose old and new stretch meet in one column (order 3): 2×4, id 1 pinned at (0,1). By rule 0 it gives way to 1×1 right above it, at (0,0); by rule 2 to 1×2 at the bottom, at (0,2); by rule 1 to
-- 1×1 right above that, at (0,1). Then id 5 is pinned at (0,0)

abbrev pub story_exchanged : Story
story_exchanged = record { w = 2; h = 4; slots = 3; block = pin 1 0 1 1 1 ++ eight 4 0 1 0 1 1 0 0 ++ eight 4 2 1 0 1 2 0 0 ++ eight 4 1 1 0 1 1 0 0 ++ pin 5 0 0 1 1 }

pub exchanged_told : tellings story_exchanged
    ≡ (module_at 0 1 (rect 0 1 1 1) 0 ∷ [])
    ∷ (module_at 0 1 (rect 0 0 1 1) 0 ∷ [])
    ∷ (module_at 0 1 (rect 0 2 1 2) 0 ∷ [])
    ∷ (module_at 0 1 (rect 0 1 1 1) 0 ∷ [])
    ∷ (module_at 1 5 (rect 0 0 1 1) 0 ∷ module_at 0 1 (rect 0 1 1 1) 0 ∷ [])
    ∷ []
unfolding case_holds history least_unused slot_in
exchanged_told = refl

pub exchanged_afresh : reckonings story_exchanged
    ≡ (e 1 ∷ e 1 ∷ o 1 ∷ e 2 ∷ e 1 ∷ e 3 ∷ e 2 ∷ e 4 ∷ [])
    ∷ (o 1 ∷ e 1 ∷ e 1 ∷ e 2 ∷ e 2 ∷ e 3 ∷ e 3 ∷ e 4 ∷ [])
    ∷ (e 1 ∷ e 1 ∷ e 2 ∷ e 2 ∷ o 1 ∷ e 3 ∷ o 1 ∷ e 4 ∷ [])
    ∷ (e 1 ∷ e 1 ∷ o 1 ∷ e 2 ∷ e 1 ∷ e 3 ∷ e 2 ∷ e 4 ∷ [])
    ∷ (o 1 ∷ e 1 ∷ o 1 ∷ e 2 ∷ e 1 ∷ e 3 ∷ e 2 ∷ e 4 ∷ [])
    ∷ []
unfolding case_holds history least_unused slot_in taken remains history_weight
exchanged_afresh = refl

pub exchanged_weights : weighings story_exchanged ≡ reckonings story_exchanged
unfolding case_holds history least_unused slot_in taken remains history_weight
exchanged_weights = refl

-- column 0 alone: the pin from row 1 down; the first two exchanges from row 0, the third from row 1; the last pin: down to the occupied row 1 and no further
pub exchanged_reached : reachings story_exchanged ≡ (2 ∷ 4 ∷ 6 ∷ []) ∷ (0 ∷ 2 ∷ 4 ∷ 6 ∷ []) ∷ (0 ∷ 2 ∷ 4 ∷ 6 ∷ []) ∷ (2 ∷ 4 ∷ 6 ∷ []) ∷ (0 ∷ []) ∷ []
unfolding case_holds reaches may_change
exchanged_reached = refl

-- and across columns: 3×3, id 7 at (1,1) gives way by rule 2 to 3×1 at (0,2), by rule 0 to 2×2 at (0,0). Of column 2 the first may have changed the row of the new one alone, the second that of the old

abbrev pub story_across : Story
story_across = record { w = 3; h = 3; slots = 1; block = pin 7 1 1 1 1 ++ eight 4 2 7 0 3 1 0 0 ++ eight 4 0 7 0 2 2 0 0 }

pub across_reached : reachings story_across ≡ (4 ∷ 7 ∷ []) ∷ (4 ∷ 6 ∷ 7 ∷ 8 ∷ []) ∷ (0 ∷ 1 ∷ 3 ∷ 4 ∷ 6 ∷ 7 ∷ 8 ∷ []) ∷ []
unfolding case_holds reaches may_change
across_reached = refl

-- ---- "down to the next occupied cell below it": one column of five cells, id 2 pinned at row 3. Id 1, above it, is removed, pinned again, and exchanged to
-- 1×2 by rule 0: at (0,1)

abbrev pub story_stopped : Story
story_stopped = record { w = 1; h = 5; slots = 3; block = pin 1 0 0 1 1 ++ pin 2 0 3 1 1 ++ remove 1 ++ pin 1 0 0 1 1 ++ eight 4 0 1 0 1 2 0 0 }

-- the first pin: to the bottom edge; each of the last three: down to the occupied row 3 and no further
pub stopped_reached : reachings story_stopped ≡ (0 ∷ 1 ∷ 2 ∷ 3 ∷ 4 ∷ []) ∷ (3 ∷ 4 ∷ []) ∷ (0 ∷ 1 ∷ 2 ∷ []) ∷ (0 ∷ 1 ∷ 2 ∷ []) ∷ (0 ∷ 1 ∷ 2 ∷ []) ∷ []
unfolding case_holds reaches may_change
stopped_reached = refl

-- ---- slots: ids 1 and 2 are pinned, 1 is removed, 2 gives way to 1×2 and keeps slot 1, and id 5 goes into slot 0, which was freed

abbrev pub story_slots : Story
story_slots = record { w = 1; h = 4; slots = 3; block = pin 1 0 0 1 1 ++ pin 2 0 3 1 1 ++ remove 1 ++ eight 4 2 2 0 1 2 0 0 ++ pin 5 0 0 1 1 }

pub slots_told : tellings story_slots
    ≡ (module_at 0 1 (rect 0 0 1 1) 0 ∷ [])
    ∷ (module_at 1 2 (rect 0 3 1 1) 0 ∷ module_at 0 1 (rect 0 0 1 1) 0 ∷ [])
    ∷ (module_at 1 2 (rect 0 3 1 1) 0 ∷ [])
    ∷ (module_at 1 2 (rect 0 1 1 2) 0 ∷ [])
    ∷ (module_at 0 5 (rect 0 0 1 1) 0 ∷ module_at 1 2 (rect 0 1 1 2) 0 ∷ [])
    ∷ []
unfolding case_holds history least_unused slot_in
slots_told = refl

-- ---- a block (order 2): one column of four cells. Block 9 is set at row 1, in slot 0; module 1 comes above it, in slot 1, and goes; a remove and an exchange of the block are refused, 23, and
-- note nothing; block 2 is set below it, in slot 1, which was freed

abbrev pub story_hard : Story
story_hard = record { w = 1; h = 4; slots = 3; block = eight 6 0 9 0 1 1 0 1 ++ pin 1 0 0 1 1 ++ remove 1 ++ remove 9 ++ eight 4 0 9 0 1 2 0 0 ++ eight 6 0 2 0 1 1 0 3 }

abbrev hard9 : Module
hard9 = module_at 0 9 (rect 0 1 1 1) 1

pub hard_told : tellings story_hard ≡ (hard9 ∷ []) ∷ (module_at 1 1 (rect 0 0 1 1) 0 ∷ hard9 ∷ []) ∷ (hard9 ∷ []) ∷ (hard9 ∷ []) ∷ (hard9 ∷ []) ∷ (module_at 1 2 (rect 0 3 1 1) 1 ∷ hard9 ∷ []) ∷ []
unfolding case_holds history least_unused slot_in
hard_told = refl

abbrev alone9 : List ℤ
alone9 = e 1 ∷ o 1 ∷ e 1 ∷ e 2 ∷ []

pub hard_afresh : reckonings story_hard ≡ alone9 ∷ (o 1 ∷ o 1 ∷ e 1 ∷ e 2 ∷ []) ∷ alone9 ∷ alone9 ∷ alone9 ∷ (e 1 ∷ o 1 ∷ e 1 ∷ o 1 ∷ []) ∷ []
unfolding case_holds history least_unused slot_in taken remains history_weight
hard_afresh = refl

pub hard_weights : weighings story_hard ≡ reckonings story_hard
unfolding case_holds history least_unused slot_in taken remains history_weight
hard_weights = refl

-- its first three requests: the set, to the bottom edge; the pin above the block, and its removal: down to the block and no further
pub hard_reached : reachings (record { w = 1; h = 4; slots = 3; block = eight 6 0 9 0 1 1 0 1 ++ pin 1 0 0 1 1 ++ remove 1 }) ≡ (1 ∷ 2 ∷ 3 ∷ []) ∷ (0 ∷ []) ∷ (0 ∷ []) ∷ []
unfolding case_holds reaches may_change
hard_reached = refl

-- ---- the bottom rows in a room: three records, and bytes behind them

abbrev records : List ℕ
records = entry_records (rect 0 0 3 1 ∷ rect 4 1 1 3 ∷ rect 0 2 6 5 ∷ []) ++ (9 ∷ 9 ∷ [])

pub bottoms_told : tab 3 (bottom_in records) ≡ 0 ∷ 3 ∷ 6 ∷ []
unfolding case_holds
bottoms_told = refl
