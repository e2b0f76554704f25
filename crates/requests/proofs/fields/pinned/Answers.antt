use Rattle.meaning.proofs.Rectangles.{rect_eq}
use Rattle.requests.proofs.fields.pinned.Goals as goal

pub returns : goal.returns
returns c = let x = c.byte.ensures in
    let y = c.byte-2.ensures in
    let w = c.byte-3.ensures in
    let h = c.byte-4.ensures in
    (rect_eq _ _ x.0 y.0 w.0 h.0, record { x = x.1; y = y.1; w = w.1; h = h.1 })
