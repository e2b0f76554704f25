-- `Compare`: what it is for a case to hold. `Cases`: the cases, written by tests/brute/to_antt.awk, and the statement that all hold.
pub mod Compare
pub mod Cases
