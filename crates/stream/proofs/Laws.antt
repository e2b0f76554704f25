-- One record, on plain values: what each of its four ways comes to, and what one that is served by itself leaves. Assumes nothing.
use mathlib.Core.Path.{◌≡◌, refl, sym, ap, ap₂, ◌∙◌, subst, subst⁻¹}
use mathlib.Core.Bool.{Bool, true, false, not, ◌||◌, cond}
use mathlib.Core.Logic.{⊎_elim}
use mathlib.Core.List.{List}
use Rattle.std.specs.Prelude.{Option, Some, None}
use Rattle.std.specs.Option.{is_some}
use Prim.Native.Nat.{ℕ, ◌*◌}
use native.Mathlib.Omega.{arith}
use borrow.Author.Tests.{eqb-true, eqb-false, eq-eqb, ne_eqb}
use lib.Dec.{eqb}
use lib.IntN.{ℤ}
use lib.ListN.{length, take, drop, length-append, length-drop, length-replicate}
use lib.Seq.{take_at}
use Rattle.rules.specs.Judging.{first, NoneApplies}
use Rattle.meaning.specs.Numbers.{above}
use Rattle.rules.specs.Surface.{Sides, Standing, rect}
use Rattle.rules.specs.Requests.{operation, wide, high, answer_of}
use Rattle.rules.specs.Calls.{bad_size, bad_table, size_lines, clear_lines, clear_code, cleared_weights, cleared_table}
use Rattle.rules.specs.Refusals.{Refused, Done}
use Rattle.rules.proofs.Tests.{or_which, or_right, or_neither, not_both}
use Rattle.meaning.proofs.First.{none_applies}
use Rattle.meaning.proofs.Codes.{area, good_size}
use Rattle.demands.proofs.Stands.{cleared_stands}
use Rattle.stream.specs.declared.size.Size.{Size}
use Rattle.stream.specs.Size.{columns_of, rows_of}
use Rattle.stream.specs.Records.{Kept, kept, onto, is_clear, stray_clear, clear_record_lines, clear_record_code, request_step, after_request, record_step, next_record}
use Rattle.stream.specs.Promise.{Ready, Holds, Served, apart}

-- ---- codes 12 and 1

-- where both lengths are right, no code but 1 is left
size_only : (W H : ℕ) → first (size_lines false W H 2048) ≡ cond (bad_size W H) 1 0
unfolding first bad_table
size_only W H = refl

-- of W and H as the code reads them, and their refusal n
size_code : (W H n : ℕ) → n ≡ first (size_lines (not (eqb (W * H) (1 * (W * H)))) W H 2048) → n ≡ cond (bad_size W H) 1 0
size_code W H n e =
    let right : eqb (W * H) (1 * (W * H)) ≡ true = eq-eqb (W * H) (1 * (W * H)) (omega arith) in
    e ∙ ap (λ b. first (size_lines (not b) W H 2048)) right ∙ size_only W H

-- 12, then 1
module _ (q : List ℕ) where
  pub code_stray : stray_clear q ≡ true → 12 ≡ clear_record_code q
  unfolding clear_record_code clear_record_lines first
  code_stray e = sym (ap (λ x. cond x 12 (cond (bad_size (wide q) (high q)) 1 0)) e)

  -- W and H are the bytes as they were read
  pub code_sized : (W H n : ℕ) → stray_clear q ≡ false → W ≡ wide q → H ≡ high q → n ≡ first (size_lines (not (eqb (W * H) (1 * (W * H)))) W H 2048) → n ≡ clear_record_code q
  unfolding clear_record_code clear_record_lines first
  code_sized W H n e eW eH f = size_code W H n f ∙ ap₂ (λ x y. cond (bad_size x y) 1 0) eW eH ∙ sym (ap (λ x. cond x 12 (cond (bad_size (wide q) (high q)) 1 0)) e)

  pub code_as : clear_record_code q ≡ cond (stray_clear q) 12 (cond (bad_size (wide q) (high q)) 1 0)
  unfolding clear_record_code clear_record_lines first
  code_as = refl

told : (b : Bool) → ◌≡◌ {A = ℕ} 0 (cond b 1 0) → b ≡ false
told true e = absurd (omega arith)
told false e = refl

-- a size that is not refused
pub size_good : (W H : ℕ) → 0 ≡ first (size_lines (not (eqb (W * H) (1 * (W * H)))) W H 2048) → Sides W H
size_good W H e = good_size W H (told (bad_size W H) (size_code W H 0 e))

-- ---- a record by its four ways

module _ (q : List ℕ) (z : Kept) where
  pub clear_refused : operation q ≡ 5 → (clear_record_code q ≡ 0 → ⊥) → (next_record q z ≡ z) × (record_step q z ≡ Refused (clear_record_code q))
  unfolding next_record record_step
  clear_refused p n = let a = eq-eqb (operation q) 5 p in let b = ne_eqb (clear_record_code q) 0 n in (rw (a, b), rw (a, b))

  pub clear_done : operation q ≡ 5 → clear_record_code q ≡ 0 →
      (next_record q z ≡ kept (wide q) (high q) (onto (wide q * high q) (cleared_weights (wide q) (high q)) z.room) (cleared_table z.table))
      × (record_step q z ≡ Done 0 (rect 0 0 (wide q) (high q)))
  unfolding next_record record_step
  clear_done p n = let a = eq-eqb (operation q) 5 p in let b = eq-eqb (clear_record_code q) 0 n in (rw (a, b), rw (a, b))

  pub none_yet : (operation q ≡ 5 → ⊥) → z.columns ≡ 0 → (next_record q z ≡ z) × (record_step q z ≡ Refused 8)
  unfolding next_record record_step
  none_yet p n = let a = ne_eqb (operation q) 5 p in let b = eq-eqb z.columns 0 n in (rw (a, b), rw (a, b))

  pub on_surface_lem : (operation q ≡ 5 → ⊥) → (z.columns ≡ 0 → ⊥) → (next_record q z ≡ after_request q (request_step q z) z) × (record_step q z ≡ request_step q z)
  unfolding next_record record_step
  on_surface_lem p n = let a = ne_eqb (operation q) 5 p in let b = ne_eqb z.columns 0 n in (rw (a, b), rw (a, b))

-- ---- which are served by themselves

pub apart_is : (w : ℕ) (q : List ℕ) (b : Bool) → eqb w 0 ≡ b → b || is_clear q ≡ apart w q
unfolding apart
apart_is w q b e = sym (ap (λ x. x || is_clear q) e)

pub other : (q : List ℕ) → is_clear q ≡ false → operation q ≡ 5 → ⊥
other q = eqb-false (operation q) 5

-- before there is a surface, each
pub apart_none : (o : Option Size) (q : List ℕ) → is_some o ≡ false → apart (columns_of o) q ≡ true
unfolding apart
apart_none None q e = refl
apart_none (Some z) q e = not_both true refl e

-- then a clear
apart_on : (z : Size) (q : List ℕ) → is_clear q ≡ apart z.columns q
apart_on z q = apart_is z.columns q false (ne_eqb z.columns 0 (λ n. omega (arith, z.sides.wide)))

pub apart_some : (o : Option Size) (q : List ℕ) (b : Bool) → is_some o ≡ true → b ≡ is_clear q → b ≡ apart (columns_of o) q
apart_some None q b e f = not_both false e refl
apart_some (Some z) q b e f = f ∙ apart_on z q

pub apart_clear : (w : ℕ) (q : List ℕ) → is_clear q ≡ true → apart w q ≡ true
unfolding apart
apart_clear w q e = or_right (eqb w 0) (is_clear q) e

-- one that is no clear
pub apart_other : (w : ℕ) (q : List ℕ) → apart w q ≡ true → is_clear q ≡ false → w ≡ 0
unfolding apart
apart_other w q e n = eqb-true w 0 (⊎_elim (λ a. a) (λ b. not_both (is_clear q) b n) (or_which (eqb w 0) (is_clear q) e))

-- the others are requests on a surface
pub not_apart : (w : ℕ) (q : List ℕ) → apart w q ≡ false → (w ≡ 0 → ⊥) × (operation q ≡ 5 → ⊥)
unfolding apart
not_apart w q e =
    let n = or_neither (eqb w 0) (is_clear q) e in
    (λ z. not_both (eqb w 0) (eq-eqb w 0 z) n.0, λ o. not_both (is_clear q) (eq-eqb (operation q) 5 o) n.1)

-- ---- what is held

pub held : (z : Kept) (w h : ℕ) (s : List ℤ) (t : List ℕ) → z ≡ kept w h s t → Holds z w h s t
held z w h s t e = record {
  columns = sym (ap (λ (k : Kept). k.columns) e);
  rows = sym (ap (λ (k : Kept). k.rows) e);
  room = sym (ap (λ (k : Kept). k.room) e);
  table = sym (ap (λ (k : Kept). k.table) e);
}

pub held_is : (z : Kept) (w h : ℕ) (s : List ℤ) (t : List ℕ) → Holds z w h s t → kept w h s t ≡ z
held_is z w h s t r = λ j. kept (r.columns j) (r.rows j) (r.room j) (r.table j)

-- ---- clear

-- the surface at the start of the room
pub at_start : (n : ℕ) (p s : List ℤ) → length p ≡ n → take n (onto n p s) ≡ p
at_start n p s e = take_at p (drop n s) n e

pub sizes_told : (q : List ℕ) → clear_record_code q ≡ 0 → bad_size (wide q) (high q) ≡ false
unfolding clear_record_code clear_record_lines NoneApplies
sizes_told q e = (none_applies (clear_record_lines q) (unfold clear_record_lines above in refl) e).1.0

-- a surface that stands, put there
pub front_ready : (w h : ℕ) (p s : List ℤ) (t : List ℕ) → Standing w h p t → length s ≡ 4096 → length t ≡ 2048 → Ready w h (onto (w * h) p s) t
front_ready w h p s t d ls lt = record {
  long = let m = area w h d.sides in simp (length-append, length-drop) (omega (arith, d.long));
  slots = lt;
  stands = λ _. subst⁻¹ (λ x. Standing w h x t) (at_start (w * h) p s d.long) d;
}

code_zero : (W H : ℕ) (t : List ℕ) → length t ≡ 2048 → bad_size W H ≡ false → clear_code false W H t ≡ 0
unfolding clear_code clear_lines
code_zero W H t l e = ap (λ n. first (size_lines false W H n)) l ∙ size_only W H ∙ ap (λ b. cond b 1 0) e

-- with the sizes as the code reads them
pub clear_served : (q : List ℕ) (z : Kept) (W H : ℕ) (s : List ℤ) (t a : List ℕ) → W ≡ wide q → H ≡ high q → operation q ≡ 5 → clear_record_code q ≡ 0 →
    length z.room ≡ 4096 → length z.table ≡ 2048 → s ≡ onto (W * H) (cleared_weights W H) z.room → t ≡ cleared_table z.table →
    a ≡ answer_of q (Done 0 (rect 0 0 W H)) → Served q z W H s t a
clear_served q z W H s t a eW eH p e ls lt es et ea =
    let d = clear_done q z p e in
    let b = ap₂ bad_size eW eH ∙ sizes_told q e in
    let r = front_ready W H (cleared_weights W H) z.room (cleared_table z.table) (cleared_stands false W H z.table (code_zero W H z.table lt b)) ls (length-replicate (length z.table) 0 ∙ lt) in
    let m : kept W H (onto (W * H) (cleared_weights W H) z.room) (cleared_table z.table) ≡ kept W H s t = λ j. kept W H (sym es j) (sym et j) in
    record {
      holds = held (next_record q z) W H s t (d.0 ∙ (λ j. kept (sym eW j) (sym eH j) (onto (sym eW j * sym eH j) (cleared_weights (sym eW j) (sym eH j)) z.room) (cleared_table z.table)) ∙ m);
      answer = ea ∙ ap₂ (λ w h. answer_of q (Done 0 (rect 0 0 w h))) eW eH ∙ sym (ap (answer_of q) d.1);
      ready = subst (λ (k : Kept). Ready W H k.room k.table) m r;
    }

-- what is kept stays, and the answer is a refusal
pub refused_served : (q : List ℕ) (w h : ℕ) (s : List ℤ) (t a : List ℕ) (c : ℕ) → let z = kept w h s t in next_record q z ≡ z → record_step q z ≡ Refused c → Ready w h s t →
    a ≡ answer_of q (Refused c) → Served q z w h s t a
refused_served q w h s t a c e f r ea = record { holds = held (next_record q (kept w h s t)) w h s t e; answer = ea ∙ sym (ap (answer_of q) f); ready = r }

-- ---- on a surface

pub on_size : (o : Option Size) (h : ℕ) (z : Size) (s : List ℤ) (t : List ℕ) → o ≡ Some z → Ready (columns_of o) (rows_of o h) s t → Ready z.columns z.rows s t
on_size o h z s t e r = subst (λ o. Ready (columns_of o) (rows_of o h) s t) e r

pub stands_on : (z : Size) (s : List ℤ) (t : List ℕ) → Ready z.columns z.rows s t → Standing z.columns z.rows (take (z.columns * z.rows) s) t
stands_on z s t r = r.stands (λ n. omega (arith, z.sides.wide))
