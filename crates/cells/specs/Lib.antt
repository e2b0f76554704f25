-- What one weight says.
pub mod Weight
