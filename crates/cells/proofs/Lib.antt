-- `Laws`: signed weights by cases. `Upto`, `Parts`: loops that fill a buffer.
pub mod Laws
pub mod Upto
pub mod Parts
