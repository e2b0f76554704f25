use mathlib.Core.Path.{sym, ◌∙◌}
use Prim.Native.Nat.{◌≤◌}
use native.Mathlib.Omega.{arith}
use lib.ListN.{length}
use Rattle.meaning.proofs.Stands.{sound_told}
use Rattle.surface.proofs.SlotLaws.{falls_unsound, any_part}
use Rattle.surface.proofs.MarkLaws.{slot_falls, take_alike, take_on, take_under, take_shared, take_more}
use Rattle.surface.proofs.marks.take_slot.Goals as goal
use Rattle.surface.proofs.marks.take_slot.Goals.{Start, then-not-sound-via-then-not-sound, then-not-sound-via-else-not-sound+then-known, then-not-sound-via-else-not-sound+else-known+then-not-mark}

-- ids were noted before
noted : (s : Start) → s.args.n ≤ length s.args.ids.now
noted s = omega (arith, s.requires.room)

pub mark-requires : goal.mark-requires
mark-requires c =
    let a = c.args in
    let s = sound_told a.w a.h a.t.now a.i (sym c.sound.ensures ∙ c.if-not-sound.false) in
    let o = take_on a.w a.h a.t.now a.i a.ids.now a.n a.top a.m.now c.requires _ _ c.id_at-id.ensures.0 c.rect_at-r.ensures s in
    (o.0, o.1, c.requires.wide, c.requires.widest)

pub returns-then-not-sound : goal.returns-then-not-sound
returns-then-not-sound c =
    let a = c.args in
    let id = c.id_at-id.ensures.0 in
    let r = c.rect_at-r.ensures in
    let s = noted (goal.at.returns-then-not-sound c).Start in
    elim c.then-not-sound.branch [
      | then-not-sound-via-then-not-sound w ↦ slot_falls (falls_unsound a.w a.h a.t.now a.i c.requires.low c.requires.used (sym c.sound.ensures ∙ w.if-not-sound.true))
      | then-not-sound-via-else-not-sound+then-known w ↦ slot_falls (take_alike a.w a.h a.t.now a.i a.ids.now a.n a.top a.m.now c.requires _ _ id r (sym (any_part _ _ s _) ∙ sym w.known.ensures ∙ w.if-known.true))
      | then-not-sound-via-else-not-sound+else-known+then-not-mark w ↦
          slot_falls (take_shared a.w a.h a.t.now a.i a.ids.now a.n a.top a.m.now c.requires _ _ id r (sound_told a.w a.h a.t.now a.i (sym c.sound.ensures ∙ w.if-not-sound.false)) (sym w.mark.ensures.value ∙ w.if-not-mark.true))
    ]

pub returns : goal.returns
returns c =
    let a = c.args in
    let free = c.if-not-mark.false in
    let k = c.mark.ensures in
    let id = c.id_at-id.ensures.0 in
    let r = c.rect_at-r.ensures in
    let s = noted (goal.at.returns c).Start in
    record {
      more = take_more a.w a.h a.t.now a.i a.ids.now a.n a.top a.m.now c.requires _ _ id r (sound_told a.w a.h a.t.now a.i (sym c.sound.ensures ∙ c.if-not-sound.false)) (sym (any_part _ _ s _) ∙ sym c.known.ensures ∙ c.if-known.false) (sym k.value ∙ free) _ (k.marked free a.i);
      under = take_under a.w a.h a.t.now a.i a.ids.now a.n a.top a.m.now c.requires _ _ id r c.max.result (omega (arith, c.max.ensures)) (omega (arith, c.max.ensures));
      falls = tt;
    }
