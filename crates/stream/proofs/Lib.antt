-- Laws on plain values. `Laws`: one record. `Cuts`: the records of two lists, and of a part. `Blocks`: requests as one block. `Turns`: the records of a
-- piece in turn. `Listed`: the list at the end. `Clears`: the codes of a clear, and 8. `Input`: the input in reads of any lengths. `Theorems`: what the
-- definitions say of the whole stream.
pub mod Laws
pub mod Cuts
pub mod Blocks
pub mod Turns
pub mod Listed
pub mod Clears
pub mod Input
pub mod Theorems
