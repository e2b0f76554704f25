-- A case: the buffers lent to a call, and what the brute force says that it returns and leaves.
use Rattle.std.specs.Prelude.{Bool, ◌&&◌, List, ℕ, eqb, ℤ}
use Rattle.rules.specs.Tests.{eq_z}
use Rattle.rules.specs.Figures.{clear, check, run, list, same_items, case_holds}

-- sizes, weights and table, as lent
pub record Lent : Type 0 where
  pub w : ℕ
  pub h : ℕ
  pub weights : List ℤ
  pub table : List ℕ

abbrev pub lent : ℕ → ℕ → List ℤ → List ℕ → Lent
lent w h s t = record { w = w; h = h; weights = s; table = t }

-- each takes what was lent, then the code and the counts, then the buffers afterwards

unfoldable pub cleared : Lent → ℕ → List ℤ → List ℕ → Bool
unfolding case_holds
cleared l code s t =
    let r = clear l.w l.h l.weights l.table in
    eqb r.code code && same_items eq_z r.weights s && same_items eqb r.table t

unfoldable pub checked : Lent → ℕ → ℕ → Bool
unfolding case_holds
checked l code used = let r = check l.w l.h l.weights l.table in eqb r.code code && eqb r.used used

unfoldable pub ran : Lent → List ℕ → List ℕ → ℕ → ℕ → List ℤ → List ℕ → List ℕ → Bool
unfolding case_holds
ran l block answers code accepted s t a =
    let r = run l.w l.h l.weights l.table block answers in
    eqb r.code code && eqb r.accepted accepted && same_items eq_z r.weights s && same_items eqb r.table t && same_items eqb r.answers a

unfoldable pub listed : Lent → List ℕ → ℕ → ℕ → ℕ → List ℕ → Bool
unfolding case_holds
listed l room code entries corners after =
    let r = list l.w l.h l.weights l.table room in
    eqb r.code code && eqb r.entries entries && eqb r.corners corners && same_items eqb r.room after
