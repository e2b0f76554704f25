-- `Theorems` first: the statements. Then laws on plain values.
-- `StairLaws`: the law of a step, the law of the entries, how many there are. `Meaning`: a row's list has exactly the entries, in order. `Plane`: maximal
-- rectangles are entries of their bottom rows. `ListLaws`: the list of a surface is its rows' entries one behind the other.
-- `Cells`: what the weights of a standing surface tell of a row. `Corners`, `ScanLaws`: corners by heights, scanned rows by slots.
-- `Written`, `Counted`: records written row after row, entries and corners counted. `Cuts`: the step on the stairs held. `Walks`: the invariant of `walk`, and the jump over an occupied run.
pub mod Theorems
pub mod StairLaws
pub mod Cuts
pub mod Walks
pub mod Meaning
pub mod Plane
pub mod ListLaws
pub mod Cells
pub mod Corners
pub mod ScanLaws
pub mod Written
pub mod Counted
