-- `Tests`: laws of the tests, what they tell and what they are told by. `Refusals`: a refusal has a code.
pub mod Tests
pub mod Refusals
