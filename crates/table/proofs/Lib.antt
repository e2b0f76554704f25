-- Laws of a slot's bytes.
pub mod Laws
