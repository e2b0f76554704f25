-- The three demands, as theorems about the contracts of the exported calls.
pub mod Assured
