-- The exported promises leave no choice.
pub mod Unique
