-- `stream::memory::Memory::serve_together` meets its contract. Assumes nothing.
use mathlib.Core.Path.{◌≡◌, sym, ap, ◌∙◌}
use mathlib.Core.Bool.{true}
use native.Mathlib.Omega.{arith}
use Rattle.std.specs.Option.{is_some}
use Rattle.stream.specs.Size.{columns_of}
use Rattle.stream.specs.Promise.{apart}
use Rattle.stream.proofs.Laws.{apart_none, apart_clear}
use Rattle.stream.proofs.Blocks.{one_served}
use Rattle.stream.proofs.memory.Memory.serve_together.Goals as goal
use Rattle.stream.proofs.memory.Memory.serve_together.Goals.{In_default, in_default-via-in-Some+else-not-is_clear, in_default-via-in_default}

-- a clear, or a record before there is a surface
alone : (c : In_default) → apart (columns_of c.args.self.now.size) c.args.q.now ≡ true
alone c =
    elim c.in_default.branch [
      | in_default-via-in-Some+else-not-is_clear w ↦ apart_clear _ c.args.q.now (sym w.is_clear.ensures ∙ w.if-not-is_clear.false)
      | in_default-via-in_default w ↦ apart_none _ _ (ap is_some w.in_default.is)
    ]

pub serve_apart-requires : goal.serve_apart-requires
serve_apart-requires c =
    let p = c.requires in
    let e = alone (goal.at.serve_apart-requires c).In_default in
    let o = p.4.alone e in (omega (arith, o, p.0), omega (arith, o, p.0, p.3), e)

pub returns-in_default : goal.returns-in_default
returns-in_default c =
    let p = c.requires in
    let o = p.4.alone (alone (goal.at.returns-in_default c).In_default) in
    one_served _ _ _ _ _ _ _ (omega (arith, o, p.0)) c.serve_apart.ensures
