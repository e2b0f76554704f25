-- The input in reads of any lengths: served as if it had come in one. Assumes nothing.
use mathlib.Core.Path.{◌≡◌, refl, sym, ap, ap₂, ◌∙◌}
use mathlib.Core.List.{List, [], ◌∷◌, ◌++◌, append_assoc, append-nil}
use Prim.Native.Nat.{ℕ, ◌+◌, ◌-◌, ◌*◌, ◌/◌, ◌%◌, ◌≤◌}
use native.Mathlib.Omega.{arith}
use lib.IntN.{ℤ}
use lib.ListN.{length, take, drop, length-drop, take-append-drop}
use lib.Seq.{length-take-le, take_at, drop_at, take-add, take-take, drop-append-add}
use Rattle.demands.proofs.Blocks.{requests_both}
use Rattle.stream.specs.Records.{Kept, kept, first_kept, records, cut, carried, after_records, answers_to}
use Rattle.stream.specs.Promise.{Holds}
use Rattle.stream.specs.Input.{in_turn, Reading, begun, whole, rest, served, after_reads, SoFar}
use Rattle.stream.proofs.Laws.{held_is}
use Rattle.stream.proofs.Cuts.{kept_right, answers_right}

-- ---- the whole records of b, and the rest

pub whole_long : (b : List ℕ) → length (whole b) ≡ 8 * records b
whole_long b = length-take-le (8 * records b) b (omega arith)

whole_records : (b : List ℕ) → records (whole b) ≡ records b
whole_records b = let l = whole_long b in omega arith

-- "where bytes remain after the last whole record, .. N being how many"
pub rest_long : (b : List ℕ) → length (rest b) ≡ cut b
rest_long b = let l = length-drop (8 * records b) b in omega arith

rest_short : (b : List ℕ) → records (rest b) ≡ 0
rest_short b = let l = rest_long b in omega arith

-- what the program lends to `serve`, and what `carry` leaves in front, are the whole records and the rest of the first n bytes
pub lent_whole : (n : ℕ) (b : List ℕ) → n ≤ length b → take (8 * (n / 8)) b ≡ whole (take n b)
lent_whole n b h =
    let m : 8 * records (take n b) ≡ 8 * (n / 8) = ap (λ k. 8 * (k / 8)) (length-take-le n b h) in
    sym (take-take (8 * (n / 8)) n b (omega arith)) ∙ ap (λ k. take k (take n b)) (sym m)

pub carried_rest : (n : ℕ) (b : List ℕ) → n ≤ length b → take (n % 8) (carried n b) ≡ rest (take n b)
carried_rest n b h =
    let q = 8 * (n / 8) in
    let left = take (n % 8) (drop q b) in
    let e : n ≡ q + n % 8 = omega arith in
    let l : length left ≡ n % 8 = length-take-le (n % 8) (drop q b) (let d = length-drop q b in omega arith) in
    let f : length (take q b) ≡ q = length-take-le q b (omega arith) in
    let s : take n b ≡ take q b ++ left = ap (λ k. take k b) e ∙ take-add q (n % 8) b in
    let m : 8 * records (take n b) ≡ q = ap (λ k. 8 * (k / 8)) (length-take-le n b h) in
    take_at left (drop (n % 8) b) (n % 8) l ∙ sym (drop_at (take q b) left q f) ∙ ap (drop q) (sym s) ∙ ap (λ k. drop k (take n b)) (sym m)

-- ---- bytes in front

in_turn_front : (cs : List (List ℕ)) (a b : List ℕ) → in_turn (a ++ b) cs ≡ a ++ in_turn b cs
unfolding in_turn
in_turn_front [] a b = refl
in_turn_front (c ∷ cs) a b = ap (λ l. in_turn l cs) (append_assoc a b c) ∙ in_turn_front cs a (b ++ c)

-- ---- the reads in turn

-- all bytes at once, on what there was: z kept, a answered
abbrev pub Once : List ℕ → Kept → List ℕ → Reading
Once b z a = record { state = after_records b z (records b); answers = a ++ answers_to b z (records b); held = rest b }

-- the whole records of b first, then what is behind them
once_cut : (b d c : List ℕ) (z : Kept) (a : List ℕ) → d ≡ whole b ++ c →
    let w = whole b in
    Once d z a ≡ Once c (after_records w z (records w)) (a ++ answers_to w z (records w))
once_cut b d c z a e =
    let w = whole b in
    let n = records w in
    let y = after_records w z n in
    let lw : length w ≡ 8 * n = whole_long b ∙ ap (λ k. 8 * k) (sym (whole_records b)) in
    let m : records (w ++ c) ≡ n + records c = requests_both w c n lw in
    let mk : List ℕ → ℕ → Reading = λ l k. record { state = after_records l z k; answers = a ++ answers_to l z k; held = drop (8 * k) l } in
    let em : 8 * (n + records c) ≡ length w + 8 * records c = omega (arith, lw) in
    ap (λ l. Once l z a) e ∙ ap (mk (w ++ c)) m
    ∙ (λ j. record {
      state = kept_right w c n lw z (records c) j;
      answers = (ap (λ l. a ++ l) (answers_right w c n lw z (records c)) ∙ sym (append_assoc a (answers_to w z n) (answers_to c y (records c)))) j;
      held = (ap (λ k. drop k (w ++ c)) em ∙ drop-append-add w c (8 * records c)) j;
    })

pub reads_once : (cs : List (List ℕ)) (z : Kept) (a h : List ℕ) → records h ≡ 0 → after_reads cs (record { state = z; answers = a; held = h }) ≡ Once (in_turn h cs) z a
unfolding after_reads in_turn after_records answers_to
reads_once [] z a h e =
    (λ j. record { state = z; answers = sym (append-nil a) j; held = h }) ∙ ap (λ k. record { state = after_records h z k; answers = a ++ answers_to h z k; held = drop (8 * k) h }) (sym e)
reads_once (c ∷ cs) z a h e =
    let b = h ++ c in
    let w = whole b in
    let d : in_turn b cs ≡ w ++ in_turn (rest b) cs = ap (λ l. in_turn l cs) (sym (take-append-drop (8 * records b) b)) ∙ in_turn_front cs w (rest b) in
    reads_once cs (after_records w z (records w)) (a ++ answers_to w z (records w)) (rest b) (rest_short b) ∙ sym (once_cut b (in_turn b cs) (in_turn (rest b) cs) z a d)

-- ---- the program's reads, from the first state on

-- nothing is read yet
pub so_far_none : {w h : ℕ} {s : List ℤ} {t : List ℕ} → Holds first_kept w h s t → SoFar w h s t []
unfolding after_reads
so_far_none r = record { reads = []; state = held_is first_kept _ _ _ _ r; held = refl }

-- one read more
reads_more : (cs : List (List ℕ)) (c : List ℕ) (y : Reading) → after_reads (cs ++ c ∷ []) y ≡ served ((after_reads cs y).held ++ c) (after_reads cs y)
unfolding after_reads
reads_more [] c y = refl
reads_more (d ∷ cs) c y = reads_more cs c (served (y.held ++ d) y)

-- into the buffer b, behind the m bytes that are held in it, so that b' has n; the j bytes that are whole records are served, and the rest carried
pub so_far_more : {w h w' h' : ℕ} {s s' : List ℤ} {t t' : List ℕ} (m n j k : ℕ) (b b' d : List ℕ) →
    SoFar w h s t (take m b) → m ≤ n → n ≤ length b' → take m b' ≡ take m b → j ≡ 8 * (n / 8) →
    let q = take j b' in
    Holds (after_records q (kept w h s t) (records q)) w' h' s' t' → k ≡ n % 8 → d ≡ carried n b' → SoFar w' h' s' t' (take k d)
so_far_more m n j k b b' d p hm hn e ej r ek ed =
    let c = take (n - m) (drop m b') in
    let y = after_reads p.reads (begun first_kept) in
    let f : n ≡ m + (n - m) = omega arith in
    let g : take n b' ≡ y.held ++ c = ap (λ k. take k b') f ∙ take-add m (n - m) b' ∙ ap (λ l. l ++ c) (e ∙ p.held) in
    let u = ap (λ j. take j b') ej ∙ lent_whole n b' hn ∙ ap whole g in
    let v = sym (reads_more p.reads c (begun first_kept)) in
    record {
      reads = p.reads ++ c ∷ [];
      state = held_is _ _ _ _ _ r ∙ (λ i. after_records (u i) (p.state i) (records (u i))) ∙ ap (λ (z : Reading). z.state) v;
      held = ap₂ take ek ed ∙ carried_rest n b' hn ∙ ap rest g ∙ ap (λ (z : Reading). z.held) v;
    }
