-- What the walks of `surface` leave.
pub mod Sizes
pub mod Rows
pub mod Slots
pub mod Marks
pub mod Examine
