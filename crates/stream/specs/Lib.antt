-- The record stream of the program `freelist`. `Records`: what the program keeps, what one record comes to, and the first k records in turn.
-- `Promise`: the same as the functions promise it of their slices. `Input`: the input in reads of any lengths. `Size`, `Memory`: the code's own types in
-- their words.
pub mod Records
pub mod Promise
pub mod Input
pub mod Size
pub mod Memory
